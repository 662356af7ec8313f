use Rattle.std.proofs.Common.{◌++◌, ◌+◌, ◌∙◌}
use Rattle.std.specs.Prelude.{slice_set, reverse}
use Rattle.std.proofs.Math.ListN.{length-set}
use Rattle.std.proofs.lemmas.Result.{err_from_is_err_and}
use Rattle.msg_rows.specs.Methods.{method_numbers}
use Rattle.msg_rows.specs.RowList.{rooms_of}
use Rattle.msg_rows.proofs.ListLemmas.{rows_of-set_same, rows_of-set_two}
use Rattle.msg_rows.proofs.RoomLemmas.{grown-on, keep-set}
use Rattle.msg_rows.proofs.lists.attach_rows.Goals as goal

pub returns-in_err-reserve-clause-err : goal.returns-in_err-reserve-clause-err
returns-in_err-reserve-clause-err c =
    let refused = err_from_is_err_and c.from_residual.result c.from_residual.ensures.1 in
    rw refused.1 (rows_of-set_same c.args.lists.now.items c.args.at c.index_mut.result.now c.reserve.new.self c.index_mut.ensures.value c.reserve.ensures.rows)

pub returns-in_err-reserve-2-clause-err : goal.returns-in_err-reserve-2-clause-err
returns-in_err-reserve-2-clause-err c =
    let refused = err_from_is_err_and c.from_residual-in_err-reserve-2.result c.from_residual-in_err-reserve-2.ensures.1 in
    rw refused.1 (rows_of-set_same (slice_set c.args.lists.now.items c.args.at c.reserve.new.self) (c.args.at + 1) c.index_mut-2.result.now c.reserve-2.new.self c.index_mut-2.ensures.value c.reserve-2.ensures.rows
    ∙ rows_of-set_same c.args.lists.now.items c.args.at c.index_mut.result.now c.reserve.new.self c.index_mut.ensures.value c.reserve.ensures.rows)

pub returns-clause-ok : goal.returns-clause-ok
returns-clause-ok c =
    let once = slice_set c.args.lists.now.items c.args.at c.reserve.new.self in
    let same = rows_of-set_same once (c.args.at + 1) c.index_mut-2.result.now c.reserve-2.new.self c.index_mut-2.ensures.value c.reserve-2.ensures.rows
    ∙ rows_of-set_same c.args.lists.now.items c.args.at c.index_mut.result.now c.reserve.new.self c.index_mut.ensures.value c.reserve.ensures.rows in
    rows_of-set_two c.args.lists.now.items (slice_set once (c.args.at + 1) c.reserve-2.new.self) c.args.at c.index_mut-3.result.now c.append_reversed.new.self c.index_mut-4.result.now c.append_reversed-2.new.self
    (λ rows. rows ++ reverse (method_numbers c.args.methods.now)) (λ rows. rows ++ reverse (method_numbers c.args.class_methods.now)) same (simp length-set c.requires) c.index_mut-3.ensures.value c.append_reversed.ensures.rows c.index_mut-4.ensures.value c.append_reversed-2.ensures.rows

pub returns-in_err-reserve-clause-keeps : goal.returns-in_err-reserve-clause-keeps
returns-in_err-reserve-clause-keeps c = keep-set c.args.lists.now.items c.args.at c.index_mut.result.now c.reserve.new.self c.index_mut.ensures.value c.reserve.ensures.keeps

pub returns-in_err-reserve-2-clause-keeps : goal.returns-in_err-reserve-2-clause-keeps
returns-in_err-reserve-2-clause-keeps c =
    let was = c.args.lists.now.items in
    let once = slice_set was c.args.at c.reserve.new.self in
    let twice = slice_set once (c.args.at + 1) c.reserve-2.new.self in
    grown-on (rooms_of was) (rooms_of once) (rooms_of twice) (keep-set was c.args.at c.index_mut.result.now c.reserve.new.self c.index_mut.ensures.value c.reserve.ensures.keeps)
    (keep-set once (c.args.at + 1) c.index_mut-2.result.now c.reserve-2.new.self c.index_mut-2.ensures.value c.reserve-2.ensures.keeps)

pub returns-clause-keeps : goal.returns-clause-keeps
returns-clause-keeps c =
    let was = c.args.lists.now.items in
    let once = slice_set was c.args.at c.reserve.new.self in
    let twice = slice_set once (c.args.at + 1) c.reserve-2.new.self in
    let third = slice_set twice c.args.at c.append_reversed.new.self in
    let last = slice_set third (c.args.at + 1) c.append_reversed-2.new.self in
    grown-on (rooms_of was) (rooms_of once) (rooms_of last) (keep-set was c.args.at c.index_mut.result.now c.reserve.new.self c.index_mut.ensures.value c.reserve.ensures.keeps)
    (grown-on (rooms_of once) (rooms_of twice) (rooms_of last) (keep-set once (c.args.at + 1) c.index_mut-2.result.now c.reserve-2.new.self c.index_mut-2.ensures.value c.reserve-2.ensures.keeps)
    (grown-on (rooms_of twice) (rooms_of third) (rooms_of last) (keep-set twice c.args.at c.index_mut-3.result.now c.append_reversed.new.self c.index_mut-3.ensures.value c.append_reversed.ensures.keeps)
    (keep-set third (c.args.at + 1) c.index_mut-4.result.now c.append_reversed-2.new.self c.index_mut-4.ensures.value c.append_reversed-2.ensures.keeps)))
