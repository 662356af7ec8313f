-- What a lookup finds, and what a probe of a cache answers.
use Rattle.std.specs.Prelude.{◌≤◌}
use Rattle.msg_names.specs.Number.{imp_number}
use Rattle.msg_names.specs.declared.value.ClassRef.{ClassRef}
use Rattle.msg_names.specs.declared.value.ImpRef.{ImpRef}
use Rattle.msg_names.specs.declared.value.Selector.{Selector}
use Rattle.msg_tables.specs.Origin.{last_imp}
use Rattle.msg_tables.specs.History.{History}
use Rattle.msg_cache.specs.Record.{Hits}
use Rattle.msg_cache.specs.Views.{ArenaView, ProbesFor}
use Rattle.msg_cache.specs.declared.view.SenderView.{SenderView}

-- the implementation is forwarding, or one that the history's origin has
abbrev pub IsListed : History → ImpRef → Type 0
IsListed h i = imp_number i ≤ last_imp h.origin.counts

-- a sender of the arena probed the cache of the class reference, and hit with this implementation
abbrev pub HitsCache : ArenaView → ClassRef → Selector → SenderView → SenderView → ImpRef → Type 0
HitsCache a c s v w i = ProbesFor a c s v w × Hits w.last (imp_number i)
