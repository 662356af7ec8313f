use Rattle.std.specs.Prelude.{[], slice_index_or}
use Rattle.msg_names.specs.Number.{selector_number}
use Rattle.msg_rows.specs.RowList.{rows_of}
use Rattle.msg_tables.specs.Origin.{last_imp}
use Rattle.msg_tables.proofs.ListedLemmas.{listed_at, found-listed}
use Rattle.msg_tables.proofs.tables.Tables.own.Goals as goal

pub returns-clause-listed : goal.returns-clause-listed
returns-clause-listed c =
    let lists = rows_of c.self.inside.lists in
    let last = last_imp c.self.inside.counts in
    rw (← c.self.view_is) (found-listed last (selector_number c.args.sel) c.find.result (slice_index_or lists c.slot.result []) (listed_at last c.slot.result lists c.self.invariant.listed) c.find.ensures)
