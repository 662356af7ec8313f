use Rattle.std.proofs.Common.{◌≡◌, List, [], ap, ◌∙◌}
use Rattle.std.specs.Prelude.{slice_index_or}
use Rattle.msg_rows.specs.RowList.{rows_of}
use Rattle.msg_tables.specs.View.{TablesView, kept}
use Rattle.msg_tables.proofs.tables.Tables.methods.Goals as goal

pub returns : goal.returns
returns c = λ h stands.
    c.rows.ensures ∙ ap (λ at. slice_index_or (rows_of c.self.inside.lists) at []) c.slot.ensures
    ∙ ap (λ (t : TablesView). kept t.lists c.args.class) c.self.view_is ∙ stands.rows.at c.args.class
