use Rattle.std.proofs.lemmas.Result.{err_from_is_err_and}
use Rattle.msg_form.specs.Shape.{imp_form_of}
use Rattle.msg_form.proofs.ReadLemmas.{fails_on}
use Rattle.msg_form.proofs.read.parts.ImpFromValue.from_value.Goals as goal

pub returns-in_err-body : goal.returns-in_err-body
unfolding imp_form_of
returns-in_err-body c =
    let e = err_from_is_err_and c.from_residual.result c.from_residual.ensures.1 in
    rw (e.1, e.2, ← c.if-not-has_keys.ensures, ← c.in-Some-Some.ensures, ← c.in-Some-Some.ensures', ← c.in-Some-Some-Some.ensures, ← c.in-Some-Some-Some.ensures', ← c.in-Some-Some-Some.ensures'', ← c.in-Some-Some-2.ensures, ← c.in-Some-Some-2.ensures'.number)
    (fails_on c.in_err-body.field-0.0 _ _ c.in_err-body.ensures)
