use Rattle.std.proofs.Common.{◌≡◌, take}
use Rattle.msg_tables.proofs.opening.superclasses.Given as goal

abbrev pub invariant-loop-class : goal.invariant-loop-class
invariant-loop-class l = l.supers.items ≡ take l.class l.origin.superclasses
