use Rattle.std.proofs.Common.{◌≤◌, List, [], length, sym, ap, ◌∙◌}
use Rattle.std.specs.Prelude.{slice_index_or}
use Rattle.msg_rows.specs.RowList.{RowList, rows_of}
use Rattle.msg_rows.proofs.ReservedLemmas.{all-none, past-of}
use Rattle.msg_rows.proofs.row_lists.RowLists.rows.Goals as goal

pub returns-in-None : goal.returns-in-None
returns-in-None c =
    let written = c.self.inside.written.items in
    let past : length written ≤ c.args.at = past-of c.args.at (length c.deref.result.now) (length written) c.in-None.ensures.lookup.0 (ap length c.deref.ensures.value) in
    sym (all-none written c.self.inside.count c.args.at past) ∙ ap (λ (ls : List RowList). slice_index_or (rows_of ls) c.args.at []) c.self.view_is
