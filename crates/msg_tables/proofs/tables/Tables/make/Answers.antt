use Rattle.std.proofs.Common.{refl, ◌≡◌, ◌<◌, ◌≤◌, ◌++◌, ℕ, List, [], ◌∷◌, Option, Some, None, length, cond, is_ok, ap, ◌∙◌, sym, subst, arith}
use Rattle.std.specs.Prelude.{IfSome, slice_set}
use Rattle.std.proofs.lemmas.List.{length-set}
use Rattle.msg_tables.specs.declared.presence.Presence.{Presence}
use Rattle.msg_tables.specs.declared.limits.TheConstants.{MAX_CLASSES}
use Rattle.msg_tables.specs.Order.{IsOrder}
use Rattle.msg_tables.specs.Preorder.{HavePreorder, depth_at, depths_with}
use Rattle.msg_tables.proofs.MadeLemmas.{made-order, order-room}
use Rattle.msg_tables.proofs.PlacedLemmas.{made-ready, made-preorder}
use Rattle.msg_tables.specs.declared.entry.Entry.TheVariants.{Made}
use Rattle.msg_tables.specs.Journal.{order_before}
use Rattle.msg_tables.proofs.JournalLemmas.{back-supers, back-order}
use Rattle.msg_rows.specs.RowList.{rooms_of}
use Rattle.msg_rows.proofs.RoomLemmas.{grown-same}
use Rattle.msg_tables.proofs.tables.Tables.make.Goals as goal

pub unwrap-requires : goal.unwrap-requires
unwrap-requires c =
    let fits = rw (← c.self.view_is) at c.requires in
    let room = order-room c.self.inside.supers.items c.self.inside.order.items c.args.class c.self.invariant.order fits.named.0 fits.named.1 in
    let len = c.self.inside.order.ok.0 in
    c.push-pushed.ensures.succeeds (omega (arith, room, len, c.self.invariant.room))

within : (depths : List ℕ) (nexts : List (Option ℕ)) (n : ℕ) (o : Option ℕ) → n ≤ MAX_CLASSES → IfSome o (λ d. (d < length depths) × (d < length nexts) × (depth_at depths d < n)) → IfSome o (λ d. (d < length depths) × (d < length nexts) × (depth_at depths d < MAX_CLASSES))
within depths nexts n None few ready = tt
within depths nexts n (Some d) few ready = (ready.0, ready.1, omega (arith, ready.2, few))

pub place-requires-clause-above : goal.place-requires-clause-above
place-requires-clause-above c =
    let fits = rw (← c.self.view_is) at c.requires in
    let was = c.self.inside.supers.items in
    let depths = c.self.inside.preorder.depths in
    let nexts = c.self.inside.preorder.nexts in
    within depths nexts (length was) c.args.superclass c.self.invariant.few_classes
    (made-ready was c.self.inside.order.items c.self.invariant.order depths nexts c.args.class c.args.superclass fits.named.0 fits.named.1 fits.named.2 c.self.invariant.preorder)

pub invariant_of-self : goal.invariant_of-self
invariant_of-self c =
    let fits = rw (← c.self.view_is) at c.requires in
    let was = c.self.inside.supers.items in
    let order = c.self.inside.order.items in
    let made : Presence = record { superclass = c.args.superclass } in
    let grown = length-set was c.args.class (Some made) in
    let pushed : c.push-pushed.new.self.items ≡ order ++ c.args.class ∷ [] =
    c.push-pushed.ensures.items ∙ ap (λ r. cond (is_ok r) (order ++ c.args.class ∷ []) order) c.unwrap.ensures in
    record {
      counted = c.self.invariant.counted;
      order = subst (λ o. IsOrder (slice_set was c.args.class (Some made)) o) (sym pushed) (made-order was order c.self.invariant.order c.args.class c.args.superclass fits.named.0 fits.named.1 fits.named.2);
      room = omega (arith, grown, c.self.invariant.room, c.push-pushed.ensures.capacity);
      preorder = subst (λ ds. HavePreorder (slice_set was c.args.class (Some made)) ds c.place.new.self.nexts) (sym c.place.ensures.depths)
          (subst (λ ns. HavePreorder (slice_set was c.args.class (Some made)) (depths_with c.self.inside.preorder.depths c.args.class c.args.superclass) ns) (sym c.place.ensures.nexts)
          (made-preorder was order c.self.invariant.order c.self.inside.preorder.depths c.self.inside.preorder.nexts c.args.class c.args.superclass fits.named.0 fits.named.1 fits.named.2 c.self.invariant.preorder));
      lists = omega (arith, grown, c.self.invariant.lists);
      listed = c.self.invariant.listed;
      few_classes = omega (arith, grown, c.self.invariant.few_classes);
      few_rows = c.self.invariant.few_rows;
      few_changes = c.self.invariant.few_changes;
    }

pub returns-clause-back : goal.returns-clause-back
returns-clause-back c =
    let fits = rw (← c.self.view_is) at c.requires in
    let was = c.self.inside.supers.items in
    let order = c.self.inside.order.items in
    let pushed : c.push-pushed.new.self.items ≡ order ++ c.args.class ∷ [] =
    c.push-pushed.ensures.items ∙ ap (λ r. cond (is_ok r) (order ++ c.args.class ∷ []) order) c.unwrap.ensures in
    rw (← c.self.view_is) record {
      lists = refl;
      supers = back-supers was c.args.class (record { superclass = c.args.superclass }) fits.named.1;
      order = ap (order_before (Made c.args.class)) pushed ∙ back-order order c.args.class;
      grown = grown-same (rooms_of c.self.inside.lists);
      room = (tt, tt);
    }
