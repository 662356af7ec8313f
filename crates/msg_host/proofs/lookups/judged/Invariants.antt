use Rattle.std.proofs.Common.{◌≡◌, take, true}
use Rattle.msg_host.specs.Lookups.{are_asked}
use Rattle.msg_host.proofs.lookups.judged.Given as goal

-- each of the first rows means a lookup
abbrev pub invariant-loop-at : goal.invariant-loop-at
invariant-loop-at l = record { asked : are_asked l.classes (take l.at l.rows) ≡ true; place : l.place ≡ l.fn.place }
