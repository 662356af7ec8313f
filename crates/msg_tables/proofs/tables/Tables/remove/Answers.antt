use Rattle.std.proofs.Common.{◌≡◌, ◌<◌, ℕ, [], Some, length, option_map, refl, sym, ap, ◌∙◌, subst, arith}
use Rattle.std.specs.Prelude.{slice_set, slice_index_or}
use Rattle.msg_names.specs.ClassRef.{slot_of}
use Rattle.msg_names.specs.Number.{selector_number, imp_number}
use Rattle.msg_names.specs.declared.value.ImpRef.{ImpRef}
use Rattle.msg_names.proofs.ClassRefLemmas.{slot_of-inside}
use Rattle.msg_tables.specs.After.{without_own}
use Rattle.msg_tables.specs.Journal.{FitsBack, lists_before}
use Rattle.msg_tables.specs.Origin.{last_imp}
use Rattle.msg_rows.specs.RowList.{last_index, own_in, rooms_of, rows_of, without_row}
use Rattle.msg_tables.specs.Stands.{Holds}
use Rattle.msg_tables.specs.View.{kept}
use Rattle.msg_tables.specs.declared.entry.Entry.TheVariants.{Removed}
use Rattle.msg_tables.proofs.EditLemmas.{counted-put, holds-remove, listed-without_row}
use Rattle.msg_tables.proofs.JournalLemmas.{back-removed, last-inside, length-without_row}
use Rattle.msg_tables.proofs.PutLemmas.{put-length, put-listed, length-rows_of}
use Rattle.msg_rows.proofs.RoomLemmas.{within-room}
use Rattle.msg_tables.proofs.tables.Tables.remove.Goals as goal

pub invariant_of-self : goal.invariant_of-self
invariant_of-self c =
    let named = rw (← c.self.view_is) at c.requires in
    let now = c.remove_row-removed.ensures.rows in
    let n = last_imp c.self.inside.counts in
    let s = selector_number c.args.sel in
    let was = c.self.inside.lists in
    let inside = slot_of-inside c.args.class (length c.self.inside.supers.items) (length was) c.self.invariant.lists named.0 in
    let there : c.slot.result < length (rows_of was) = omega (arith, c.slot.ensures, inside, length-rows_of was) in
    let before = slice_index_or (rows_of was) c.slot.result [] in
    let found : last_index s before ≡ Some c.unwrap-place.result.0 = sym c.remove_row-removed.ensures.was.last ∙ ap (option_map (λ (r : ℕ × ImpRef). r.0)) c.unwrap-place.ensures in
    let total = counted-put (rows_of was) (rows_of c.remove_row-removed.new.self) c.slot.result c.self.inside.row_count (without_row s before) there now c.self.invariant.counted in
    let many = length-without_row s before c.unwrap-place.result.0 found in
    record {
      counted = omega (arith, total, many);
      order = c.self.invariant.order;
      room = c.self.invariant.room;
      preorder = c.self.invariant.preorder;
      lists = put-length was c.remove_row-removed.new.self c.slot.result _ now ∙ c.self.invariant.lists;
      listed = put-listed n was c.remove_row-removed.new.self c.slot.result (without_row s) now c.self.invariant.listed (λ ms all. listed-without_row n s ms all);
      few_classes = c.self.invariant.few_classes;
      few_rows = omega (arith, c.self.invariant.few_rows);
      few_changes = c.self.invariant.few_changes;
    }

pub returns-clause-writes : goal.returns-clause-writes
returns-clause-writes c =
    let named = rw (← c.self.view_is) at c.requires in
    let s = selector_number c.args.sel in
    let class = c.args.class in
    let was = c.self.inside.lists in
    let is : rows_of c.remove_row-removed.new.self ≡ slice_set (rows_of was) (slot_of class) (without_row s (kept (rows_of was) class)) =
    c.remove_row-removed.ensures.rows ∙ ap (λ p. slice_set (rows_of was) p (without_row s (slice_index_or (rows_of was) p []))) c.slot.ensures in
    let inside = slot_of-inside class (length c.self.inside.supers.items) (length was) c.self.invariant.lists named.0 in
    let room : slot_of class < length (rows_of was) = omega (arith, length-rows_of was, inside) in
    let found : last_index s (kept (rows_of was) class) ≡ Some c.unwrap-place.result.0 =
    ap (λ p. last_index s (slice_index_or (rows_of was) p [])) (sym c.slot.ensures) ∙ sym c.remove_row-removed.ensures.was.last ∙ ap (option_map (λ (r : ℕ × ImpRef). r.0)) c.unwrap-place.ensures in
    let total = counted-put (rows_of was) (rows_of c.remove_row-removed.new.self) (slot_of class) c.self.inside.row_count (without_row s (kept (rows_of was) class)) room is c.self.invariant.counted in
    let many = length-without_row s (kept (rows_of was) class) c.unwrap-place.result.0 found in
    rw (← c.self.view_is) record {
      rows = λ rows holds. subst (λ lists. Holds lists (without_own class s rows)) (sym is) (holds-remove (rows_of was) rows class s room holds);
      row_count = omega (arith, total, many);
      rest = refl;
    }

pub returns-clause-back : goal.returns-clause-back
returns-clause-back c =
    let named = rw (← c.self.view_is) at c.requires in
    let s = selector_number c.args.sel in
    let class = c.args.class in
    let was = c.self.inside.lists in
    let place = c.unwrap-place.result.0 in
    let imp = c.unwrap-place.result.1 in
    let is : rows_of c.remove_row-removed.new.self ≡ slice_set (rows_of was) (slot_of class) (without_row s (kept (rows_of was) class)) =
    c.remove_row-removed.ensures.rows ∙ ap (λ p. slice_set (rows_of was) p (without_row s (slice_index_or (rows_of was) p []))) c.slot.ensures in
    let inside = slot_of-inside class (length c.self.inside.supers.items) (length was) c.self.invariant.lists named.0 in
    let room : slot_of class < length (rows_of was) = omega (arith, length-rows_of was, inside) in
    let found : last_index s (kept (rows_of was) class) ≡ Some place =
    ap (λ p. last_index s (slice_index_or (rows_of was) p [])) (sym c.slot.ensures) ∙ sym c.remove_row-removed.ensures.was.last ∙ ap (option_map (λ (r : ℕ × ImpRef). r.0)) c.unwrap-place.ensures in
    let own : own_in s (kept (rows_of was) class) ≡ Some (imp_number imp) =
    ap (λ p. own_in s (slice_index_or (rows_of was) p [])) (sym c.slot.ensures) ∙ sym c.remove_row-removed.ensures.was.own ∙ ap (option_map (λ (r : ℕ × ImpRef). imp_number r.1)) c.unwrap-place.ensures in
    let back : lists_before (Removed class c.args.sel imp place) (rows_of c.remove_row-removed.new.self) ≡ rows_of was =
    ap (lists_before (Removed class c.args.sel imp place)) is ∙ back-removed (rows_of was) class c.args.sel imp place room own found in
    let within = within-room was (slot_of class) in
    let grown = c.remove_row-removed.ensures.keeps.at (slot_of class) in
    let least = last-inside s (kept (rows_of was) class) place found in
    rw (← c.self.view_is) record {
      lists = back;
      supers = refl;
      order = refl;
      grown = c.remove_row-removed.ensures.keeps;
      room = (
        subst (λ lists. FitsBack (rooms_of c.remove_row-removed.new.self) (length c.self.inside.supers.items) lists c.self.inside.order.items (Removed class c.args.sel imp place)) (sym back)
            (least, omega (arith, within, grown)),
        tt,
      );
    }
