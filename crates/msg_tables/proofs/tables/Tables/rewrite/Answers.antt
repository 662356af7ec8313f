use Rattle.std.proofs.Common.{◌≡◌, ◌<◌, [], length, option_map, refl, sym, ap, ◌∙◌, subst, arith}
use Rattle.std.specs.Prelude.{slice_set, slice_index_or}
use Rattle.msg_names.specs.Number.{selector_number, imp_number}
use Rattle.msg_rows.specs.RowList.{own_in, rooms_of, rows_of, set_last}
use Rattle.msg_tables.proofs.EditLemmas.{counted-put, length-set_last}
use Rattle.msg_tables.specs.After.{set_own}
use Rattle.msg_tables.specs.Stands.{Holds}
use Rattle.msg_names.specs.ClassRef.{slot_of}
use Rattle.msg_tables.specs.Inside.{view_of}
use Rattle.msg_tables.specs.View.{kept}
use Rattle.msg_tables.proofs.ListedLemmas.{listed-set_last}
use Rattle.msg_names.proofs.ClassRefLemmas.{slot_of-inside}
use Rattle.msg_tables.proofs.PutLemmas.{put-length, put-listed, length-rows_of}
use Rattle.msg_tables.proofs.HoldsLemmas.{holds-rewrite, own-rewritten}
use Rattle.msg_tables.specs.Origin.{last_imp}
use Rattle.msg_tables.specs.declared.entry.Entry.TheVariants.{Rewrote}
use Rattle.msg_tables.specs.Journal.{lists_before}
use Rattle.msg_tables.proofs.JournalLemmas.{back-rewrote}
use Rattle.msg_tables.proofs.tables.Tables.rewrite.Goals as goal

pub invariant_of-self : goal.invariant_of-self
invariant_of-self c =
    let own = rw (← c.self.view_is) at c.requires in
    let now = c.rewrite_row-was.ensures.rows in
    let n = last_imp c.self.inside.counts in
    let write = set_last (selector_number c.args.row.sel) (imp_number c.args.row.imp) in
    let was = c.self.inside.lists in
    let inside = slot_of-inside c.args.row.class (length c.self.inside.supers.items) (length was) c.self.invariant.lists own.class in
    let there : c.slot.result < length (rows_of was) = omega (arith, c.slot.ensures, inside, length-rows_of was) in
    let before = slice_index_or (rows_of was) c.slot.result [] in
    let total = counted-put (rows_of was) (rows_of c.rewrite_row-was.new.self) c.slot.result c.self.inside.row_count (write before) there now c.self.invariant.counted in
    let many = length-set_last (selector_number c.args.row.sel) (imp_number c.args.row.imp) before in
    record {
      counted = omega (arith, total, many);
      order = c.self.invariant.order;
      room = c.self.invariant.room;
      preorder = c.self.invariant.preorder;
      lists = put-length c.self.inside.lists c.rewrite_row-was.new.self c.slot.result _ now ∙ c.self.invariant.lists;
      listed = put-listed n c.self.inside.lists c.rewrite_row-was.new.self c.slot.result write now c.self.invariant.listed
          (λ ms all. listed-set_last n (selector_number c.args.row.sel) (imp_number c.args.row.imp) ms own.imp all);
      few_classes = c.self.invariant.few_classes;
      few_rows = c.self.invariant.few_rows;
      few_changes = c.self.invariant.few_changes;
    }

pub returns-clause-writes : goal.returns-clause-writes
returns-clause-writes c =
    let own = rw (← c.self.view_is) at c.requires in
    let was = c.self.inside.lists in
    let class = c.args.row.class in
    let s = selector_number c.args.row.sel in
    let i = imp_number c.args.row.imp in
    let is : rows_of c.rewrite_row-was.new.self ≡ slice_set (rows_of was) (slot_of class) (set_last s i (kept (rows_of was) class)) =
    c.rewrite_row-was.ensures.rows ∙ ap (λ p. slice_set (rows_of was) p (set_last s i (slice_index_or (rows_of was) p []))) c.slot.ensures in
    let inside = slot_of-inside class (length c.self.inside.supers.items) (length was) c.self.invariant.lists own.class in
    let room : slot_of class < length (rows_of was) = omega (arith, length-rows_of was, inside) in
    rw (← c.self.view_is) record {
      rows = λ rows holds. subst (λ lists. Holds lists (set_own class s i rows)) (sym is) (holds-rewrite (rows_of was) rows class s i room holds);
      row_count = omega arith;
      rest = refl;
    }

pub returns-clause-own : goal.returns-clause-own
returns-clause-own c other known =
    let was = c.self.inside.lists in
    let class = c.args.row.class in
    let s = selector_number c.args.row.sel in
    let i = imp_number c.args.row.imp in
    let is : rows_of c.rewrite_row-was.new.self ≡ slice_set (rows_of was) (slot_of class) (set_last s i (kept (rows_of was) class)) =
    c.rewrite_row-was.ensures.rows ∙ ap (λ p. slice_set (rows_of was) p (set_last s i (slice_index_or (rows_of was) p []))) c.slot.ensures in
    let old = rw (← c.self.view_is) at known in
    let own = rw (← c.self.view_is) at c.requires in
    let inside = slot_of-inside class (length c.self.inside.supers.items) (length was) c.self.invariant.lists own.class in
    let room : slot_of class < length (rows_of was) = omega (arith, length-rows_of was, inside) in
    record {
      class = old.class;
      own = rw is (own-rewritten (rows_of was) class other.class (selector_number other.sel) s i room ∙ old.own);
      imp = old.imp;
    }

pub returns-clause-back : goal.returns-clause-back
returns-clause-back c old known =
    let own = rw (← c.self.view_is) at c.requires in
    let known = rw (← c.self.view_is) at known in
    let was = c.self.inside.lists in
    let class = c.args.row.class in
    let s = selector_number c.args.row.sel in
    let i = imp_number c.args.row.imp in
    let is : rows_of c.rewrite_row-was.new.self ≡ slice_set (rows_of was) (slot_of class) (set_last s i (kept (rows_of was) class)) =
    c.rewrite_row-was.ensures.rows ∙ ap (λ p. slice_set (rows_of was) p (set_last s i (slice_index_or (rows_of was) p []))) c.slot.ensures in
    let inside = slot_of-inside class (length c.self.inside.supers.items) (length was) c.self.invariant.lists own.class in
    let room : slot_of class < length (rows_of was) = omega (arith, length-rows_of was, inside) in
    rw (← c.self.view_is) record {
      lists = ap (lists_before (Rewrote class c.args.row.sel old)) is ∙ back-rewrote (rows_of was) class c.args.row.sel old i room known;
      supers = refl;
      order = refl;
      grown = c.rewrite_row-was.ensures.keeps;
      room = (tt, tt);
    }

pub returns-clause-value : goal.returns-clause-value
returns-clause-value c =
    let was = c.self.inside.lists in
    let class = c.args.row.class in
    let s = selector_number c.args.row.sel in
    let i = imp_number c.args.row.imp in
    let is : rows_of c.rewrite_row-was.new.self ≡ slice_set (rows_of was) (slot_of class) (set_last s i (kept (rows_of was) class)) =
    c.rewrite_row-was.ensures.rows ∙ ap (λ p. slice_set (rows_of was) p (set_last s i (slice_index_or (rows_of was) p []))) c.slot.ensures in
    rw (← c.self.view_is) (ap (λ lists. record (view_of c.self.inside) { lists = lists; rooms = rooms_of c.rewrite_row-was.new.self }) is)

pub returns-clause-was : goal.returns-clause-was
returns-clause-was c =
    let was = c.self.inside.lists in
    let s = selector_number c.args.row.sel in
    let here : slice_index_or (rows_of was) c.slot.result [] ≡ kept (rows_of was) c.args.row.class = ap (λ p. slice_index_or (rows_of was) p []) c.slot.ensures in
    rw (← c.self.view_is) (ap (own_in s) (sym here) ∙ sym c.rewrite_row-was.ensures.was ∙ ap (option_map imp_number) c.unwrap.ensures)
