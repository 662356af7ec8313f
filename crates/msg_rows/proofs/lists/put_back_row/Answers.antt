use Rattle.msg_rows.specs.RowList.{with_row_at}
use Rattle.msg_rows.proofs.ListLemmas.{rows_of-set}
use Rattle.msg_rows.proofs.RoomLemmas.{keep-set, keeps-put}
use Rattle.msg_rows.proofs.lists.put_back_row.Goals as goal

pub returns-clause-rows : goal.returns-clause-rows
returns-clause-rows c = rows_of-set c.args.lists.now.items c.args.at c.index_mut-rows.result.now c.put_back.new.self (with_row_at c.args.place c.args.sel c.args.imp) c.requires.at c.index_mut-rows.ensures.value c.put_back.ensures.rows

pub returns-clause-keeps : goal.returns-clause-keeps
returns-clause-keeps c =
    keep-set c.args.lists.now.items c.args.at c.index_mut-rows.result.now c.put_back.new.self c.index_mut-rows.ensures.value
    (keeps-put c.index_mut-rows.result.now c.put_back.new.self c.args.place c.args.sel c.args.imp c.put_back.ensures.rows c.put_back.ensures.room)
