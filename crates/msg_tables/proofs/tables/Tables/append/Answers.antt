use Rattle.std.proofs.Common.{◌≡◌, ◌<◌, ℕ, List, [], ◌∷◌, ◌++◌, length, length-append, refl, sym, ap, ◌∙◌, subst, arith}
use Rattle.std.specs.Prelude.{slice_set, slice_index_or}
use Rattle.std.proofs.lemmas.Bool.Decides.{nat_tests}
use Rattle.msg_names.specs.Number.{selector_number, imp_number}
use Rattle.msg_rows.specs.RowList.{rows_of}
use Rattle.msg_tables.specs.After.{rows_at}
use Rattle.msg_tables.specs.Stands.{Holds}
use Rattle.msg_names.specs.ClassRef.{slot_of}
use Rattle.msg_tables.specs.View.{kept}
use Rattle.msg_tables.proofs.ListedLemmas.{listed-append}
use Rattle.msg_names.proofs.ClassRefLemmas.{slot_of-inside}
use Rattle.msg_tables.proofs.PutLemmas.{put-length, put-listed, length-rows_of}
use Rattle.msg_tables.proofs.HoldsLemmas.{holds-append}
use Rattle.msg_tables.proofs.EditLemmas.{counted-put}
use Rattle.msg_tables.specs.Origin.{last_imp}
use Rattle.msg_tables.specs.declared.entry.Entry.TheVariants.{Added}
use Rattle.msg_tables.specs.Journal.{lists_before}
use Rattle.msg_tables.proofs.JournalLemmas.{back-added}
use Rattle.msg_tables.proofs.tables.Tables.append.Goals as goal

pub invariant_of-self-2 : goal.invariant_of-self-2
invariant_of-self-2 c =
    let fits = rw (← c.self.view_is) at c.requires in
    let now = c.in_ok-append_row.ensures.ok in
    let row : List (ℕ × ℕ) = (selector_number c.args.row.sel, imp_number c.args.row.imp) ∷ [] in
    let was = c.self.inside.lists in
    let inside = slot_of-inside c.args.row.class (length c.self.inside.supers.items) (length was) c.self.invariant.lists fits.named.0 in
    let there : c.slot.result < length (rows_of was) = omega (arith, c.slot.ensures, inside, length-rows_of was) in
    let before = slice_index_or (rows_of was) c.slot.result [] in
    let total = counted-put (rows_of was) (rows_of c.append_row.new.self) c.slot.result c.self.inside.row_count (before ++ row) there now c.self.invariant.counted in
    let more = length-append before row in
    record {
      counted = omega (arith, total, more);
      order = c.self.invariant.order;
      room = c.self.invariant.room;
      preorder = c.self.invariant.preorder;
      lists = put-length c.self.inside.lists c.append_row.new.self c.slot.result _ now ∙ c.self.invariant.lists;
      listed = put-listed (last_imp c.self.inside.counts) c.self.inside.lists c.append_row.new.self c.slot.result (λ ms. ms ++ row) now c.self.invariant.listed
          (λ ms all. listed-append (last_imp c.self.inside.counts) ms row all (grind (arith, nat_tests, fits.named.1)));
      few_classes = c.self.invariant.few_classes;
      few_rows = fits.rows;
      few_changes = c.self.invariant.few_changes;
    }

pub returns-clause-ok : goal.returns-clause-ok
returns-clause-ok c =
    let fits = rw (← c.self.view_is) at c.requires in
    let was = c.self.inside.lists in
    let class = c.args.row.class in
    let row : List (ℕ × ℕ) = (selector_number c.args.row.sel, imp_number c.args.row.imp) ∷ [] in
    let is : rows_of c.append_row.new.self ≡ slice_set (rows_of was) (slot_of class) (kept (rows_of was) class ++ row) =
    c.in_ok-append_row.ensures.ok ∙ ap (λ p. slice_set (rows_of was) p (slice_index_or (rows_of was) p [] ++ row)) c.slot.ensures in
    let inside = slot_of-inside class (length c.self.inside.supers.items) (length was) c.self.invariant.lists fits.named.0 in
    let room : slot_of class < length (rows_of was) = omega (arith, length-rows_of was, inside) in
    rw (← c.self.view_is) record {
      rows = λ rows holds. subst (λ lists. Holds lists (rows ++ rows_at class row)) (sym is) (holds-append (rows_of was) rows class row room holds);
      row_count = omega arith;
      rest = refl;
    }

pub returns-clause-back : goal.returns-clause-back
returns-clause-back c =
    let fits = rw (← c.self.view_is) at c.requires in
    let was = c.self.inside.lists in
    let class = c.args.row.class in
    let row : List (ℕ × ℕ) = (selector_number c.args.row.sel, imp_number c.args.row.imp) ∷ [] in
    let is : rows_of c.append_row.new.self ≡ slice_set (rows_of was) (slot_of class) (kept (rows_of was) class ++ row) =
    c.in_ok-append_row.ensures.ok ∙ ap (λ p. slice_set (rows_of was) p (slice_index_or (rows_of was) p [] ++ row)) c.slot.ensures in
    let inside = slot_of-inside class (length c.self.inside.supers.items) (length was) c.self.invariant.lists fits.named.0 in
    let room : slot_of class < length (rows_of was) = omega (arith, length-rows_of was, inside) in
    rw (← c.self.view_is) record {
      lists = ap (lists_before (Added class c.args.row.sel)) is ∙ back-added (rows_of was) class c.args.row.sel (selector_number c.args.row.sel, imp_number c.args.row.imp) room;
      supers = refl;
      order = refl;
      grown = c.append_row.ensures.keeps;
      room = (tt, tt);
    }
