use Rattle.msg_tables.proofs.PlacedLemmas.{PlacedTo}
use Rattle.msg_tables.proofs.preorder.place_all.Given as goal

abbrev pub invariant-loop-class : goal.invariant-loop-class
invariant-loop-class l = PlacedTo l.supers l.order l.preorder.depths l.preorder.nexts l.class-index
