use Rattle.msg_names.specs.Number.{selector_number}
use Rattle.msg_rows.specs.RowList.{last_index, own_in, without_row}
use Rattle.msg_rows.proofs.ListLemmas.{rows_of-set}
use Rattle.msg_rows.proofs.RoomLemmas.{keep-set}
use Rattle.msg_rows.proofs.ListLemmas.{read-rows}
use Rattle.std.proofs.Common.{ap, ◌∙◌}
use Rattle.msg_rows.proofs.lists.remove_row.Goals as goal

pub returns-clause-rows : goal.returns-clause-rows
returns-clause-rows c = rows_of-set c.args.lists.now.items c.args.at c.index_mut-rows.result.now c.remove.new.self (without_row (selector_number c.args.sel)) c.requires c.index_mut-rows.ensures.value c.remove.ensures.rows

pub returns-clause-keeps : goal.returns-clause-keeps
returns-clause-keeps c = keep-set c.args.lists.now.items c.args.at c.index_mut-rows.result.now c.remove.new.self c.index_mut-rows.ensures.value c.remove.ensures.keeps

pub returns-clause-was : goal.returns-clause-was
returns-clause-was c =
    let read = read-rows c.args.lists.now.items c.args.at c.index_mut-rows.result.now c.requires c.index_mut-rows.ensures.value in
    record {
      own = c.remove.ensures.was ∙ ap (own_in (selector_number c.args.sel)) read;
      last = c.remove.ensures.place ∙ ap (last_index (selector_number c.args.sel)) read;
    }
