use Rattle.std.proofs.Common.{◌≡◌, ◌<◌}
use Rattle.msg_names.specs.declared.value.ClassRef.{ClassRef}
use Rattle.msg_cache.specs.Ours.{ClosesSome, IsClosed, IsOf}
use Rattle.msg_cache.proofs.keeper.Keeper.close_all.Given as goal

abbrev pub invariant-loop-class : goal.invariant-loop-class
invariant-loop-class l =
    IsOf l.arena l.self
    × (l.self.remembered.items ≡ l.fn.self.remembered.items)
    × (l.self.report ≡ l.fn.self.report)
    × ClosesSome l.arena l.fn.self l.self
    × ((c : ClassRef) → c.class < l.class → IsClosed l.arena l.self c)
