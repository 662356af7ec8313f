use Rattle.std.proofs.Common.{◌≡◌, ◌<◌}
use Rattle.msg_names.specs.declared.value.ClassRef.{ClassRef}
use Rattle.msg_cache.specs.Ours.{IsOf}
use Rattle.msg_dispatch_tests.specs.Together.{HasNoArray, history}
use Rattle.msg_dispatch_tests.proofs.desk.flush_all.Given as goal

abbrev pub invariant-loop-class : goal.invariant-loop-class
invariant-loop-class l =
    IsOf l.arena l.keeper
    × (history l.keeper ≡ history l.fn.keeper)
    × ((c : ClassRef) → c.class < l.class → HasNoArray l.arena l.keeper c)
