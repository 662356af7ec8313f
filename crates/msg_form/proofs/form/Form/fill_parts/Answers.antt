use Rattle.std.proofs.lemmas.Result.{err_from_is_err_and}
use Rattle.msg_form.specs.Shape.{parts_of}
use Rattle.msg_form.proofs.ReadLemmas.{fails_on}
use Rattle.msg_form.proofs.form.Form.fill_parts.Goals as goal

pub returns-in_err-self : goal.returns-in_err-self
unfolding parts_of
returns-in_err-self c =
    let e = err_from_is_err_and c.from_residual.result c.from_residual.ensures.1 in
    rw (e.1, e.2) (fails_on c.in_err-self.field-0.0 _ _ c.in_err-self.ensures)

pub returns-in_err-self-2 : goal.returns-in_err-self-2
unfolding parts_of
returns-in_err-self-2 c =
    let e = err_from_is_err_and c.from_residual-in_err-self-2.result c.from_residual-in_err-self-2.ensures.1 in
    rw (e.1, e.2, c.in_ok-self.ensures) (fails_on c.in_err-self-2.field-0.0 _ _ c.in_err-self-2.ensures)

pub returns-in_err-self-3 : goal.returns-in_err-self-3
unfolding parts_of
returns-in_err-self-3 c =
    let e = err_from_is_err_and c.from_residual-in_err-self-3.result c.from_residual-in_err-self-3.ensures.1 in
    rw (e.1, e.2, c.in_ok-self.ensures, c.in_ok-self-2.ensures) (fails_on c.in_err-self-3.field-0.0 _ _ c.in_err-self-3.ensures)

pub returns-in_err-self-4 : goal.returns-in_err-self-4
unfolding parts_of
returns-in_err-self-4 c =
    let e = err_from_is_err_and c.from_residual-in_err-self-4.result c.from_residual-in_err-self-4.ensures.1 in
    rw (e.1, e.2, c.in_ok-self.ensures, c.in_ok-self-2.ensures, c.in_ok-self-3.ensures) (fails_on c.in_err-self-4.field-0.0 _ _ c.in_err-self-4.ensures)

pub returns-in_err-self-5 : goal.returns-in_err-self-5
unfolding parts_of
returns-in_err-self-5 c =
    let e = err_from_is_err_and c.from_residual-in_err-self-5.result c.from_residual-in_err-self-5.ensures.1 in
    rw (e.1, e.2, c.in_ok-self.ensures, c.in_ok-self-2.ensures, c.in_ok-self-3.ensures, c.in_ok-self-4.ensures) (fails_on c.in_err-self-5.field-0.0 _ _ c.in_err-self-5.ensures)
