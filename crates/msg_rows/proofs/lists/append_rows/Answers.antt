use Rattle.std.proofs.Common.{◌++◌, ap, ◌∙◌}
use Rattle.std.proofs.lemmas.Result.{err_from_is_err_and}
use Rattle.msg_rows.specs.Methods.{method_numbers}
use Rattle.msg_rows.proofs.ListLemmas.{rows_of-set, rows_of-set_same}
use Rattle.msg_rows.proofs.RoomLemmas.{keep-set, keeps-on}
use Rattle.msg_rows.proofs.lists.append_rows.Goals as goal

pub returns-in_err-reserve-clause-err : goal.returns-in_err-reserve-clause-err
returns-in_err-reserve-clause-err c =
    let refused = err_from_is_err_and c.from_residual.result c.from_residual.ensures.1 in
    rw refused.1 (rows_of-set_same c.args.lists.now.items c.args.at c.index_mut-rows.result.now c.reserve.new.self c.index_mut-rows.ensures.value c.reserve.ensures.rows)

pub returns-clause-ok : goal.returns-clause-ok
returns-clause-ok c =
    rows_of-set c.args.lists.now.items c.args.at c.index_mut-rows.result.now c.append.new.self (λ rows. rows ++ method_numbers c.args.methods.now) c.requires c.index_mut-rows.ensures.value
    (c.append.ensures.rows ∙ ap (λ rows. rows ++ method_numbers c.args.methods.now) c.reserve.ensures.rows)

pub returns-in_err-reserve-clause-keeps : goal.returns-in_err-reserve-clause-keeps
returns-in_err-reserve-clause-keeps c = keep-set c.args.lists.now.items c.args.at c.index_mut-rows.result.now c.reserve.new.self c.index_mut-rows.ensures.value c.reserve.ensures.keeps

pub returns-clause-keeps : goal.returns-clause-keeps
returns-clause-keeps c =
    keep-set c.args.lists.now.items c.args.at c.index_mut-rows.result.now c.append.new.self c.index_mut-rows.ensures.value
    (keeps-on c.index_mut-rows.result.now c.reserve.new.self c.append.new.self c.reserve.ensures.keeps c.append.ensures.keeps)
