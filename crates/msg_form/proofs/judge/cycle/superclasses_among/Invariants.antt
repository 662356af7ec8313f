use Rattle.std.proofs.Common.{◌≡◌, ◌++◌, map, drop}
use Rattle.msg_form.proofs.CycleLemmas.{superclass_number}
use Rattle.msg_form.proofs.judge.cycle.superclasses_among.Given as goal

abbrev pub invariant-loop-class : goal.invariant-loop-class
invariant-loop-class l = l.supers.items ++ map (superclass_number l.names) (drop l.class-index l.classes) ≡ map (superclass_number l.names) l.classes
