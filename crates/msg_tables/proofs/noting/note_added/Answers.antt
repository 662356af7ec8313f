use Rattle.std.proofs.Common.{◌≡◌, [], ◌∷◌, ◌++◌, length, length-append, ap, ◌∙◌, arith}
use Rattle.std.specs.Prelude.{reverse}
use Rattle.std.specs.Slice.Iter.{iter_rest}
use Rattle.msg_tables.specs.Journal.{added_all}
use Rattle.msg_rows.specs.Methods.{method_numbers}
use Rattle.msg_tables.specs.declared.entry.Entry.TheVariants.{Added}
use Rattle.msg_tables.proofs.UndoJournalLemmas.{noted-next}
use Rattle.msg_tables.proofs.noting.note_added.Goals as goal

pub loop-sel-preserved : goal.loop-sel-preserved
loop-sel-preserved c =
    let rest = iter_rest c.next.new.self.iter in
    let all = iter_rest c.loop-sel.sel-iterator.iter in
    let m = c.in-Some.field-0.now in
    let step : all ≡ rest ++ m ∷ [] = c.in-Some.ensures.steps in
    let count = ap length step in
    let more = length-append rest (m ∷ []) in
    let noted = ap length c.note_row.ensures.items in
    let longer = length-append c.loop-sel.journal.items (Added c.args.class m.0 ∷ []) in
    record {
      can = tt;
      finite = tt;
      items =
          ap (λ es. es ++ added_all c.args.class (reverse (method_numbers rest))) (c.note_row.ensures.items)
          ∙ noted-next c.loop-sel.journal.items c.args.class rest all m step ∙ c.loop-sel.invariant.items;
      room = omega (arith, count, more, noted, longer, c.loop-sel.invariant.room, c.note_row.ensures.room);
      grown = omega (arith, c.loop-sel.invariant.grown, c.note_row.ensures.room);
    }
