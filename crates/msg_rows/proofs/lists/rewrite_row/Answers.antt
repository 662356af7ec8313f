use Rattle.std.proofs.Common.{ap, ◌∙◌}
use Rattle.msg_names.specs.Number.{selector_number, imp_number}
use Rattle.msg_rows.specs.RowList.{own_in, set_last}
use Rattle.msg_rows.proofs.ListLemmas.{read-rows}
use Rattle.msg_rows.proofs.ListLemmas.{rows_of-set}
use Rattle.msg_rows.proofs.RoomLemmas.{keep-set}
use Rattle.msg_rows.proofs.lists.rewrite_row.Goals as goal

pub returns-clause-rows : goal.returns-clause-rows
returns-clause-rows c = rows_of-set c.args.lists.now.items c.args.at c.index_mut-rows.result.now c.set.new.self (set_last (selector_number c.args.sel) (imp_number c.args.imp)) c.requires c.index_mut-rows.ensures.value c.set.ensures.rows

pub returns-clause-was : goal.returns-clause-was
returns-clause-was c = c.set.ensures.was ∙ ap (own_in (selector_number c.args.sel)) (read-rows c.args.lists.now.items c.args.at c.index_mut-rows.result.now c.requires c.index_mut-rows.ensures.value)

pub returns-clause-keeps : goal.returns-clause-keeps
returns-clause-keeps c = keep-set c.args.lists.now.items c.args.at c.index_mut-rows.result.now c.set.new.self c.index_mut-rows.ensures.value c.set.ensures.keeps
