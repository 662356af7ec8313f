use Rattle.std.proofs.Common.{◌≡◌, ◌≤◌, List, [], length, option_map, sym, ap, ◌∙◌, arith}
use Rattle.std.specs.Prelude.{slice_index_or}
use Rattle.msg_rows.specs.Methods.{method_number}
use Rattle.msg_rows.specs.RowList.{RowList, last_row, rows_of}
use Rattle.msg_rows.proofs.ReservedLemmas.{all-none, past-of}
use Rattle.msg_rows.proofs.row_lists.RowLists.last_row.Goals as goal

pub returns-in_err-get : goal.returns-in_err-get
returns-in_err-get c =
    let written = c.self.inside.written.items in
    let past : length written ≤ c.args.at = past-of c.args.at (length c.deref.result.now) (length written) c.in_err-get.ensures.lookup.0 (ap length c.deref.ensures.value) in
    ap (option_map method_number) c.from_residual.ensures
    ∙ ap last_row (sym (all-none written c.self.inside.count c.args.at past) ∙ ap (λ (ls : List RowList). slice_index_or (rows_of ls) c.args.at []) c.self.view_is)
