use Rattle.std.proofs.Common.{ap, ◌∙◌}
use Rattle.msg_rows.specs.Methods.{method_numbers}
use Rattle.msg_rows.specs.RowList.{with_row_at}
use Rattle.msg_rows.proofs.RemoveLemmas.{numbers-insert}
use Rattle.msg_rows.proofs.indexed_rows.IndexedRows.put_back.Goals as goal

pub returns-clause-rows : goal.returns-clause-rows
returns-clause-rows c =
    let inserted = rw c.unwrap.ensures at c.insert-row.ensures.items in
    ap method_numbers inserted ∙ numbers-insert c.self.inside.rows.items c.args.place c.args.sel c.args.imp ∙ ap (λ v. with_row_at c.args.place c.args.sel c.args.imp v.rows) c.self.view_is
