use Rattle.std.proofs.Common.{◌++◌, ℕ, Option, Vec, Global, sym, ap, ◌∙◌, subst}
use Rattle.std.specs.Prelude.{IfSome}
use Rattle.msg_order.specs.Order.{IsClassOrder}
use Rattle.msg_tables.specs.After.{opened_supers}
use Rattle.msg_tables.specs.Order.{IsOrder}
use Rattle.msg_tables.proofs.ListedOrderLemmas.{order-listed}
use Rattle.msg_tables.proofs.opening.listed_order.Goals as goal

pub returns-clause-order : goal.returns-clause-order
returns-clause-order c =
    let origin = c.args.origin.now in
    let listed = c.unwrap-listed.result.items in
    let some : IsClassOrder c.deref.result.now listed = subst (λ (o : Option (Vec ℕ Global)). IfSome o (λ order. IsClassOrder c.deref.result.now order.items)) c.unwrap-listed.ensures c.in_ok-class_order.ensures.order in
    let is : IsClassOrder origin.superclasses listed = subst (λ supers. IsClassOrder supers listed) (c.deref.ensures.value ∙ c.in_ok-superclasses.ensures) some in
    let all = c.in_ok-extend_from_slice.ensures.items ∙ ap (λ xs. xs ++ c.deref-2.result.now) c.in_ok-order.ensures.items ∙ c.deref-2.ensures.value in
    subst (IsOrder (opened_supers origin)) (sym all) (order-listed origin listed is)
