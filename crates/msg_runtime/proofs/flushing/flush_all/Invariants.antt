use Rattle.std.proofs.Common.{◌≡◌, ◌<◌}
use Rattle.msg_names.specs.declared.value.ClassRef.{ClassRef}
use Rattle.msg_cache.specs.Ours.{IsCold, OnlyFlushesIn}
use Rattle.msg_runtime.specs.Parts.{IsKeeperOf, keeper_history, keeper_seats}
use Rattle.msg_runtime.proofs.flushing.flush_all.Given as goal

abbrev pub invariant-loop-class : goal.invariant-loop-class
invariant-loop-class l =
    IsKeeperOf l.arena l.keeper
    × (keeper_history l.keeper ≡ keeper_history l.fn.keeper)
    × (keeper_seats l.keeper ≡ keeper_seats l.fn.keeper)
    × ((c : ClassRef) → c.class < l.class → IsCold l.arena l.keeper c)
    × OnlyFlushesIn l.arena l.fn.keeper l.keeper
