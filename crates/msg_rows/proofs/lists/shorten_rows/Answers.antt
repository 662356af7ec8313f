use Rattle.msg_rows.specs.RowList.{without_last}
use Rattle.msg_rows.proofs.ListLemmas.{rows_of-set}
use Rattle.msg_rows.proofs.RoomLemmas.{keep-set}
use Rattle.msg_rows.proofs.lists.shorten_rows.Goals as goal

pub returns-clause-rows : goal.returns-clause-rows
returns-clause-rows c = rows_of-set c.args.lists.now.items c.args.at c.index_mut-rows.result.now c.shorten.new.self (without_last c.args.count) c.requires c.index_mut-rows.ensures.value c.shorten.ensures.rows

pub returns-clause-keeps : goal.returns-clause-keeps
returns-clause-keeps c = keep-set c.args.lists.now.items c.args.at c.index_mut-rows.result.now c.shorten.new.self c.index_mut-rows.ensures.value c.shorten.ensures.keeps
