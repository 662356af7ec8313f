use Rattle.std.proofs.Common.{◌≡◌, ◌<◌, ℕ, true, false}
use Rattle.std.specs.Prelude.{slice_index_or}
use Rattle.msg_order.specs.Order.{ArePlaced}
use Rattle.msg_order.proofs.order.class_order.Given as goal

abbrev pub invariant-loop-class : goal.invariant-loop-class
invariant-loop-class l = record {
  placed : ArePlaced l.supers l.placing.marks.items l.placing.order.items;
  all : (k : ℕ) → k < l.class → slice_index_or l.placing.marks.items k false ≡ true;
}
