use Rattle.std.proofs.Common.{arith}
use Rattle.std.proofs.lemmas.Result.{err_from_is_err_and}
use Rattle.msg_form.specs.Shape.{attach_of}
use Rattle.msg_form.proofs.JsonLemmas.{so_long}
use Rattle.msg_form.proofs.ReadLemmas.{fails_on}
use Rattle.msg_form.proofs.read.change.attach.Goals as goal

pub returns-in_err-list_in : goal.returns-in_err-list_in
unfolding attach_of
returns-in_err-list_in c =
    let e = err_from_is_err_and c.from_residual.result c.from_residual.ensures.1 in
    rw (e.1, e.2, so_long c.args.values.now 4 (omega (arith, c.if-values-ne4.false)), ← c.in-Some.ensures) (fails_on c.in_err-list_in.field-0.0 _ _ c.in_err-list_in.ensures)

pub returns-in_err-list_in-2 : goal.returns-in_err-list_in-2
unfolding attach_of
returns-in_err-list_in-2 c =
    let e = err_from_is_err_and c.from_residual-in_err-list_in-2.result c.from_residual-in_err-list_in-2.ensures.1 in
    rw (e.1, e.2, so_long c.args.values.now 4 (omega (arith, c.if-values-ne4.false)), ← c.in-Some.ensures, c.in_ok-list_in.ensures) (fails_on c.in_err-list_in-2.field-0.0 _ _ c.in_err-list_in-2.ensures)
