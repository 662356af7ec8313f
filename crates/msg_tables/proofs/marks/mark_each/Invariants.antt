use Rattle.std.proofs.Common.{◌≡◌, ℕ, length, true}
use Rattle.std.specs.Prelude.{◌||◌}
use Rattle.msg_names.specs.declared.value.ClassRef.{ClassRef}
use Rattle.msg_tables.specs.Below.{covers}
use Rattle.msg_tables.specs.Marking.{is_marked}
use Rattle.msg_tables.specs.Preorder.{is_in}
use Rattle.msg_tables.proofs.marks.mark_each.Given as goal

-- what is marked and what is left to visit are together what they were
abbrev pub invariant-loop-class : goal.invariant-loop-class
invariant-loop-class l = record {
  marks : (c : ClassRef) → (is_marked l.marked c || covers (record l.fn.below { classes = l.class-iterator }) c) ≡ (is_marked l.fn.marked c || covers l.fn.below c);
  left : (k : ℕ) → is_in k l.class-iterator ≡ true → is_in k l.fn.below.classes ≡ true;
  length : length l.marked ≡ length l.fn.marked;
}
