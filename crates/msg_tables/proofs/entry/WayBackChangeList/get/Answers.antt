use Rattle.std.proofs.Common.{◌≡◌, length, sym, ap, ◌∙◌, Some, arith}
use Rattle.std.specs.Prelude.{slice_get}
use Rattle.msg_tables.specs.Journal.{undo_entry}
use Rattle.msg_tables.proofs.WayLemmas.{get-undo, length-undo}
use Rattle.msg_tables.proofs.entry.WayBackChangeList.get.Goals as goal

pub overflow_sub-self-inside-2 : goal.overflow_sub-self-inside-2
overflow_sub-self-inside-2 c = omega (arith, c.requires, length-undo c.self.inside.entries.now, ap length c.self.view_is)

pub returns : goal.returns
returns c =
    let es = c.self.inside.entries.now in
    ap (λ xs. slice_get xs c.args.place) (sym c.self.view_is)
    ∙ get-undo es c.args.place c.index-self-self.result (omega (arith, c.requires, length-undo es, ap length c.self.view_is)) c.index-self-self.is ∙ ap (λ e. Some (undo_entry e)) c.index-self-self.is ∙ ap Some (sym c.undo.ensures)
