use Rattle.std.proofs.Common.{IfNone, List, sym, ap, ◌∙◌, subst}
use Rattle.msg_cache.specs.declared.view.Record.{Record}
use Rattle.msg_cache.specs.declared.view.View.{View}
use Rattle.msg_cache.specs.Layout.{layout_of}
use Rattle.msg_cache.specs.Plays.{Sat, sender_of, sender_in}
use Rattle.msg_cache.specs.Record.{Misses}
use Rattle.msg_cache.proofs.prober.Prober.probe_paused.Goals as goal

pub returns-clause-none : goal.returns-clause-none
returns-clause-none g c =
    subst (λ (l : Record). IfNone c.search-found.result.0 (Misses (layout_of c.args.arena.now.key) l))
    (sym (ap (λ (vs : List View). (sender_in vs).last) c.into_badge.ensures.2 ∙ ap (λ (x : Sat). (sender_of x.0).last) c.leave.ensures.told)) c.search-found.ensures.none
