use Rattle.std.proofs.Common.{◌≡◌, ◌≤◌, ℕ, List, [], length, option_map, sym, ap, ◌∙◌, arith}
use Rattle.std.specs.Prelude.{false, nat_lt, slice_index_or}
use Rattle.msg_names.specs.Number.{selector_number, imp_number}
use Rattle.msg_rows.specs.RowList.{RowList, rows_of, own_in}
use Rattle.msg_rows.proofs.ReservedLemmas.{all-none, past-of}
use Rattle.msg_rows.proofs.row_lists.RowLists.find.Goals as goal

pub returns-in_err-get : goal.returns-in_err-get
returns-in_err-get c =
    let written = c.self.inside.written.items in
    let past : length written ≤ c.args.at = past-of c.args.at (length c.deref.result.now) (length written) c.in_err-get.ensures.lookup.0 (ap length c.deref.ensures.value) in
    ap (option_map imp_number) c.from_residual.ensures
    ∙ ap (own_in (selector_number c.args.sel)) (sym (all-none written c.self.inside.count c.args.at past) ∙ ap (λ (ls : List RowList). slice_index_or (rows_of ls) c.args.at []) c.self.view_is)
