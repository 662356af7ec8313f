use Rattle.std.proofs.Common.{◌≡◌, Some, None, length, slice_get, refl, sym, ap, ◌∙◌, subst, arith}
use Rattle.std.specs.Prelude.{slice_set}
use Rattle.std.proofs.lemmas.List.{length-set}
use Rattle.msg_tables.specs.Chain.{presence_of}
use Rattle.msg_tables.specs.Journal.{FitsBack, order_before}
use Rattle.msg_tables.specs.Order.{IsOrder}
use Rattle.msg_tables.specs.Preorder.{HavePreorder, is_in}
use Rattle.msg_rows.specs.RowList.{rooms_of, rows_of}
use Rattle.msg_tables.specs.declared.entry.Entry.TheVariants.{Disposed}
use Rattle.msg_tables.proofs.DisposedLemmas.{disposed-inside, disposed-order-at, disposed-in, put-back-at, superclass-there, without-parts, without_at}
use Rattle.msg_tables.proofs.JournalLemmas.{set-as_was, set-twice}
use Rattle.msg_tables.proofs.OrderLemmas.{count-le, present-inside, read-presence}
use Rattle.msg_rows.proofs.RoomLemmas.{grown-same}
use Rattle.msg_tables.proofs.tables.Tables.unmake.Goals as goal

pub remove-class-requires : goal.remove-class-requires
remove-class-requires c =
    let named = rw (← c.self.view_is) at c.requires in
    let place = ap (λ o. slice_get o c.place_in-place.result) (sym c.deref.ensures.value) ∙ c.place_in-place.ensures in
    let inside = disposed-inside c.self.inside.supers.items c.self.inside.order.items c.self.invariant.order c.args.class named.0 named.1 c.place_in-place.result place in
    omega (arith, inside, c.self.inside.order.ok.0)

pub place_in-place-requires : goal.place_in-place-requires
place_in-place-requires c =
    let named = rw (← c.self.view_is) at c.requires in
    ap (is_in c.args.class) c.deref.ensures.value ∙ disposed-in c.self.inside.supers.items c.self.inside.order.items c.self.invariant.order c.args.class named.0 named.1

pub forget-requires-clause-was : goal.forget-requires-clause-was
forget-requires-clause-was c =
    let named = rw (← c.self.view_is) at c.requires in
    let k = c.args.class in
    let supers = c.self.inside.supers.items in
    let was : presence_of supers k ≡ Some c.unwrap-superclass.result = sym (read-presence supers k c.index.result.now (present-inside supers k named.0) c.index.ensures) ∙ c.unwrap-superclass.ensures in
    record {
      was = supers;
      order = c.self.invariant.preorder;
      here = named.0;
      above = superclass-there supers c.self.inside.order.items c.self.invariant.order k named.0 named.1 c.unwrap-superclass.result was;
      leaf = named.1;
      is = c.deref-2.ensures.value;
    }

pub forget-requires-clause-order : goal.forget-requires-clause-order
forget-requires-clause-order c =
    let named = rw (← c.self.view_is) at c.requires in
    let order = c.self.inside.order.items in
    let place = ap (λ o. slice_get o c.place_in-place.result) (sym c.deref.ensures.value) ∙ c.place_in-place.ensures in
    let left : c.remove-class.new.self.items ≡ without_at c.place_in-place.result order = c.remove-class.ensures.by_index.2 ∙ without-parts c.place_in-place.result order in
    let ordered = disposed-order-at c.self.inside.supers.items order c.self.invariant.order c.args.class named.0 named.1 c.place_in-place.result place in
    subst (λ ss. IsOrder ss c.deref-3.result.now) (sym c.deref-2.ensures.value) (subst (IsOrder (slice_set c.self.inside.supers.items c.args.class None)) (sym (c.deref-3.ensures.value ∙ left)) ordered)

pub invariant_of-self : goal.invariant_of-self
invariant_of-self c =
    let named = rw (← c.self.view_is) at c.requires in
    let order = c.self.inside.order.items in
    let supers = c.self.inside.supers.items in
    let place = ap (λ o. slice_get o c.place_in-place.result) (sym c.deref.ensures.value) ∙ c.place_in-place.ensures in
    let left : c.remove-class.new.self.items ≡ without_at c.place_in-place.result order = c.remove-class.ensures.by_index.2 ∙ without-parts c.place_in-place.result order in
    let many = length-set supers c.args.class None in
    record {
      order = subst (IsOrder (slice_set supers c.args.class None)) (sym left) (disposed-order-at supers order c.self.invariant.order c.args.class named.0 named.1 c.place_in-place.result place);
      room = omega (arith, many, c.self.invariant.room, c.remove-class.ensures.capacity);
      preorder = subst (λ ss. HavePreorder ss c.forget.new.self.depths c.forget.new.self.nexts) c.deref-2.ensures.value c.forget.ensures;
      lists = omega (arith, many, c.self.invariant.lists);
      listed = c.self.invariant.listed;
      counted = c.self.invariant.counted;
      few_classes = omega (arith, many, c.self.invariant.few_classes);
      few_rows = c.self.invariant.few_rows;
      few_changes = c.self.invariant.few_changes;
    }

pub returns-clause-back : goal.returns-clause-back
returns-clause-back c =
    let named = rw (← c.self.view_is) at c.requires in
    let k = c.args.class in
    let d = c.unwrap-superclass.result.superclass in
    let order = c.self.inside.order.items in
    let supers = c.self.inside.supers.items in
    let rooms = rooms_of c.self.inside.lists in
    let at = c.place_in-place.result in
    let place = ap (λ o. slice_get o at) (sym c.deref.ensures.value) ∙ c.place_in-place.ensures in
    let left : c.remove-class.new.self.items ≡ without_at at order = c.remove-class.ensures.by_index.2 ∙ without-parts at order in
    let inside = disposed-inside supers order c.self.invariant.order k named.0 named.1 at place in
    let was : presence_of supers k ≡ Some c.unwrap-superclass.result = sym (read-presence supers k c.index.result.now (present-inside supers k named.0) c.index.ensures) ∙ c.unwrap-superclass.ensures in
    let back : order_before (Disposed k d at) c.remove-class.new.self.items ≡ order = ap (order_before (Disposed k d at)) left ∙ put-back-at at order k place in
    let many = length-set supers k None in
    let few = count-le supers in
    let all = c.self.invariant.order.count in
    rw (← c.self.view_is) record {
      lists = refl;
      supers = set-twice supers k None (Some c.unwrap-superclass.result) ∙ ap (slice_set supers k) (sym was) ∙ set-as_was supers k None;
      order = back;
      grown = grown-same rooms;
      room = (subst (λ o. FitsBack rooms (length (slice_set supers k None)) (rows_of c.self.inside.lists) o (Disposed k d at)) (sym back) (inside, omega (arith, many, few, all)), tt);
    }
