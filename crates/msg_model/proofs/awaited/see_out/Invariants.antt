-- the arrays so far are noted
use Rattle.std.proofs.Common.{◌≡◌, ◌++◌, take, drop, map}
use Rattle.msg_model.specs.Steps.{seen_out}
use Rattle.msg_model.proofs.awaited.see_out.Given as goal

abbrev pub invariant-loop-array : goal.invariant-loop-array
invariant-loop-array l = l.standings ≡ map (seen_out l.sender) (take l.array l.initial.standings) ++ drop l.array l.initial.standings
