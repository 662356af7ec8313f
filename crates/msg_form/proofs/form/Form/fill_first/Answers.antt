use Rattle.std.proofs.Common.{subst}
use Rattle.std.proofs.lemmas.Result.{err_from_is_err_and}
use Rattle.msg_json.specs.View.{view}
use Rattle.msg_form.specs.Gives.{Fails}
use Rattle.msg_form.specs.Shape.{first_form_of, parts_of}
use Rattle.msg_form.specs.Text.{texts_view}
use Rattle.msg_form.proofs.ReadLemmas.{fails_on}
use Rattle.msg_form.proofs.form.Form.fill_first.Goals as goal

pub returns-in_err-fill_parts : goal.returns-in_err-fill_parts
unfolding first_form_of
returns-in_err-fill_parts c =
    let e = err_from_is_err_and c.from_residual.result c.from_residual.ensures.1 in
    let fails = subst (λ ts. Fails c.in_err-fill_parts.field-0.0 (parts_of c.args.self.now.version (texts_view ts) (view c.args.value.now))) c.requires c.in_err-fill_parts.ensures in
    rw (e.1, e.2, ← c.if-not-has_keys.ensures) (fails_on c.in_err-fill_parts.field-0.0 _ _ fails)
