use Rattle.std.proofs.Common.{◌*◌, length, sym, ap, ◌∙◌, subst, arith}
use Rattle.msg_tables.specs.Order.{IsOrder}
use Rattle.msg_tables.specs.Origin.{last_imp}
use Rattle.msg_tables.specs.Preorder.{HavePreorder}
use Rattle.msg_tables.proofs.ListedOrderLemmas.{length-opened}
use Rattle.msg_tables.proofs.OpeningLemmas.{counted-blank, listed-blank}
use Rattle.msg_tables.proofs.tables.Tables.blank.Goals as goal

pub invariant_of-result : goal.invariant_of-result
invariant_of-result c =
    let supers = c.in_ok-supers.ensures in
    let count = ap length supers ∙ length-opened c.args.origin.now in
    let lists = c.in_ok-blank.ensures.rows in
    let classes = c.class_count-count in
    record {
      counted = rw lists (counted-blank (2 * classes.result));
      order = subst (λ s. IsOrder s c.in_ok-order.order.items) (sym supers) c.in_ok-order.ensures.order;
      room = omega (arith, count, c.in_ok-order.ensures.room);
      preorder = subst (λ s. HavePreorder s c.in_ok-preorder.preorder.depths c.in_ok-preorder.preorder.nexts) c.deref.ensures.value c.in_ok-preorder.ensures;
      lists = omega (arith, c.in_ok-blank.ensures.count, classes.ensures.count, count);
      listed = rw lists (listed-blank (last_imp c.in_ok-copied_counts.field-0) (2 * classes.result));
      few_classes = omega (arith, classes.ensures.sound.few_classes, count);
      few_rows = omega arith;
      few_changes = omega arith;
    }
