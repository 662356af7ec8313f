use Rattle.std.proofs.lemmas.Result.{err_from_is_err_and}
use Rattle.msg_form.specs.Shape.{category_form_of}
use Rattle.msg_form.proofs.ReadLemmas.{fails_on}
use Rattle.msg_form.proofs.read.parts.CategoryFromValue.from_value.Goals as goal

pub returns-in_err-list_at : goal.returns-in_err-list_at
unfolding category_form_of
returns-in_err-list_at c =
    let e = err_from_is_err_and c.from_residual.result c.from_residual.ensures.1 in
    rw (e.1, e.2, ← c.if-not-has_keys.ensures, ← c.in-Some.ensures) (fails_on c.in_err-list_at.field-0.0 _ _ c.in_err-list_at.ensures)

pub returns-in_err-list_at-2 : goal.returns-in_err-list_at-2
unfolding category_form_of
returns-in_err-list_at-2 c =
    let e = err_from_is_err_and c.from_residual-in_err-list_at-2.result c.from_residual-in_err-list_at-2.ensures.1 in
    rw (e.1, e.2, ← c.if-not-has_keys.ensures, ← c.in-Some.ensures, c.in_ok-list_at.ensures) (fails_on c.in_err-list_at-2.field-0.0 _ _ c.in_err-list_at-2.ensures)
