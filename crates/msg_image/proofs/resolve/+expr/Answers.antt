use Rattle.msg_form.specs.ExprView.{expr_view}
use Rattle.std.proofs.Common.{map}
use Rattle.msg_image.specs.Document.{expression}
use Rattle.msg_image.specs.Plain.{plain}
use Rattle.msg_image.specs.Numbers.{numbers_by}
use Rattle.msg_image.proofs.ResolveLemmas.{all_seen, arguments_found}
use Rattle.msg_image.proofs.resolve.+expr.Goals as goal

pub exprs-returns : goal.exprs-returns
exprs-returns t c =
    let found = map plain c.loop-form.found.items in
    arguments_found (numbers_by c.args.names.now) expr_view c.args.forms.now found (all_seen (λ e. expression (numbers_by c.args.names.now) (expr_view e)) c.args.forms.now c.loop-form.form-index found c.loop-form-test.false c.loop-form.invariant)
