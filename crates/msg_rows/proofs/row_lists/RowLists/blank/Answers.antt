use Rattle.std.proofs.Common.{◌≡◌, ◌-◌, List, [], replicate, ap, ◌∙◌, arith}
use Rattle.msg_rows.specs.RowList.{RowList, rows_of}
use Rattle.msg_rows.proofs.ReservedLemmas.{all, all-rows}
use Rattle.msg_rows.proofs.row_lists.RowLists.blank.Goals as goal

pub returns-clause-rows : goal.returns-clause-rows
returns-clause-rows c =
    let whole : c.args.count - 0 ≡ c.args.count = omega arith in
    ap (λ (xs : List RowList). rows_of (all xs c.args.count)) c.in_ok-with_capacity.ensures.items ∙ all-rows [] c.args.count ∙ ap (λ n. replicate n []) whole
