use Rattle.std.proofs.Common.{◌≡◌, ◌<◌, ◌+◌, [], ◌++◌, length, refl, sym, ap, ◌∙◌, subst, arith}
use Rattle.std.specs.Prelude.{slice_set, slice_index_or, reverse}
use Rattle.msg_rows.specs.Methods.{method_numbers}
use Rattle.msg_rows.specs.RowList.{rows_of}
use Rattle.msg_tables.specs.After.{rows_at, of_class, of_meta}
use Rattle.msg_tables.specs.Stands.{Holds}
use Rattle.msg_tables.proofs.ListedLemmas.{listed-reverse}
use Rattle.msg_names.proofs.ClassRefLemmas.{slot_of-inside}
use Rattle.msg_tables.proofs.PutLemmas.{put_two-length, put_two-listed, length-rows_of}
use Rattle.msg_tables.proofs.HoldsLemmas.{holds-attach, length-method_numbers}
use Rattle.msg_tables.specs.Origin.{last_imp}
use Rattle.msg_tables.specs.Journal.{added_all, before_all, lists_before, order_before, supers_before}
use Rattle.msg_tables.proofs.EditLemmas.{counted-two}
use Rattle.msg_tables.proofs.JournalLemmas.{back-attached, before-append, fit-added, fit-append, order-added, supers-added}
use Rattle.std.proofs.lemmas.List.{length-reverse}
use Rattle.msg_tables.proofs.tables.Tables.attach.Goals as goal

pub invariant_of-self-2 : goal.invariant_of-self-2
invariant_of-self-2 c =
    let fits = rw (← c.self.view_is) at c.requires in
    let n = last_imp c.self.inside.counts in
    let was = c.self.inside.lists in
    let ms = reverse (method_numbers c.as_slice-own.result.now) in
    let cs = reverse (method_numbers c.as_slice-meta.result.now) in
    let now = c.in_ok-attach_rows.ensures.ok in
    let own = sym (length-method_numbers c.as_slice-own.result.now) ∙ ap length c.as_slice-own.ensures in
    let meta = sym (length-method_numbers c.as_slice-meta.result.now) ∙ ap length c.as_slice-meta.ensures in
    let inside = slot_of-inside (of_meta c.args.class) (length c.self.inside.supers.items) (length was) c.self.invariant.lists fits.named.0 in
    let at = c.slot-at.result in
    let room : at + 1 < length (rows_of was) = omega (arith, length-rows_of was, inside, c.slot-at.ensures) in
    let total = counted-two (rows_of was) (rows_of c.attach_rows.new.self) at c.self.inside.row_count ms cs room now c.self.invariant.counted in
    let many = length-reverse (method_numbers c.as_slice-own.result.now) in
    let many-meta = length-reverse (method_numbers c.as_slice-meta.result.now) in
    record {
      counted = omega (arith, total, many, many-meta, length-method_numbers c.as_slice-own.result.now, length-method_numbers c.as_slice-meta.result.now);
      order = c.self.invariant.order;
      room = c.self.invariant.room;
      preorder = c.self.invariant.preorder;
      lists = put_two-length was c.attach_rows.new.self c.slot-at.result _ _ now ∙ c.self.invariant.lists;
      listed = put_two-listed n was c.attach_rows.new.self c.slot-at.result ms cs now c.self.invariant.listed
          (rw c.as_slice-own.ensures (listed-reverse n c.args.methods.now fits.named.1)) (rw c.as_slice-meta.ensures (listed-reverse n c.args.class_methods.now fits.named.2));
      few_classes = c.self.invariant.few_classes;
      few_rows = rw (own, meta) fits.rows;
      few_changes = c.self.invariant.few_changes;
    }

pub returns-clause-ok : goal.returns-clause-ok
returns-clause-ok c =
    let fits = rw (← c.self.view_is) at c.requires in
    let was = c.self.inside.lists in
    let k = c.args.class in
    let at = c.slot-at.result in
    let ms = reverse (method_numbers c.as_slice-own.result.now) in
    let cs = reverse (method_numbers c.as_slice-meta.result.now) in
    let is : rows_of c.attach_rows.new.self ≡ slice_set (slice_set (rows_of was) at (slice_index_or (rows_of was) at [] ++ ms)) (at + 1) (slice_index_or (rows_of was) (at + 1) [] ++ cs) = c.in_ok-attach_rows.ensures.ok in
    let inside = slot_of-inside (of_meta k) (length c.self.inside.supers.items) (length was) c.self.invariant.lists fits.named.0 in
    let room : at + 1 < length (rows_of was) = omega (arith, length-rows_of was, inside, c.slot-at.ensures) in
    let own = ap reverse c.as_slice-own.ensures in
    let meta = ap reverse c.as_slice-meta.ensures in
    let counted = sym (length-method_numbers c.as_slice-own.result.now) ∙ ap length c.as_slice-own.ensures in
    let counted-meta = sym (length-method_numbers c.as_slice-meta.result.now) ∙ ap length c.as_slice-meta.ensures in
    rw (← c.self.view_is) record {
      rows = λ rows holds.
          let after = subst (λ lists. Holds lists (rows ++ rows_at (of_class k) ms ++ rows_at (of_meta k) cs)) (sym is) (holds-attach (rows_of was) rows k at ms cs c.slot-at.ensures room holds) in
          rw (← own, ← meta) after;
      row_count = let a = counted in let b = counted-meta in omega (arith, a, b);
      rest = refl;
    }

pub returns-clause-back : goal.returns-clause-back
returns-clause-back c =
    let fits = rw (← c.self.view_is) at c.requires in
    let was = c.self.inside.lists in
    let k = c.args.class in
    let at = c.slot-at.result in
    let ms = reverse (method_numbers c.as_slice-own.result.now) in
    let cs = reverse (method_numbers c.as_slice-meta.result.now) in
    let is : rows_of c.attach_rows.new.self ≡ slice_set (slice_set (rows_of was) at (slice_index_or (rows_of was) at [] ++ ms)) (at + 1) (slice_index_or (rows_of was) (at + 1) [] ++ cs) = c.in_ok-attach_rows.ensures.ok in
    let inside = slot_of-inside (of_meta k) (length c.self.inside.supers.items) (length was) c.self.invariant.lists fits.named.0 in
    let room : at + 1 < length (rows_of was) = omega (arith, length-rows_of was, inside, c.slot-at.ensures) in
    let own = ap reverse c.as_slice-own.ensures in
    let meta = ap reverse c.as_slice-meta.ensures in
    let back = back-attached (rows_of was) k at ms cs c.slot-at.ensures room in
    let lists = ap (before_all lists_before (added_all (of_class k) ms ++ added_all (of_meta k) cs)) is ∙ back in
    rw (← c.self.view_is) record {
      lists = rw (← own, ← meta) lists;
      supers = before-append supers_before (added_all (of_class k) (reverse c.args.methods.now)) (added_all (of_meta k) (reverse c.args.class_methods.now)) c.self.inside.supers.items
          ∙ ap (before_all supers_before (added_all (of_class k) (reverse c.args.methods.now))) (supers-added (of_meta k) (reverse c.args.class_methods.now) c.self.inside.supers.items)
          ∙ supers-added (of_class k) (reverse c.args.methods.now) c.self.inside.supers.items;
      order = before-append order_before (added_all (of_class k) (reverse c.args.methods.now)) (added_all (of_meta k) (reverse c.args.class_methods.now)) c.self.inside.order.items
          ∙ ap (before_all order_before (added_all (of_class k) (reverse c.args.methods.now))) (order-added (of_meta k) (reverse c.args.class_methods.now) c.self.inside.order.items)
          ∙ order-added (of_class k) (reverse c.args.methods.now) c.self.inside.order.items;
      grown = c.attach_rows.ensures.keeps;
      room = fit-append _ _ _ _ (added_all (of_class k) (reverse c.args.methods.now)) (added_all (of_meta k) (reverse c.args.class_methods.now)) (fit-added _ _ _ _ (of_class k) (reverse c.args.methods.now)) (fit-added _ _ _ _ (of_meta k) (reverse c.args.class_methods.now));
    }
