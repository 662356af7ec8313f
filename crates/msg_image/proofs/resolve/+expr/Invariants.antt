use Rattle.std.proofs.Common.{◌≡◌, ◌++◌, map, drop}
use Rattle.msg_form.specs.ExprView.{expr_view}
use Rattle.msg_image.specs.Document.{expression}
use Rattle.msg_image.specs.Plain.{plain}
use Rattle.msg_image.specs.Numbers.{numbers_by}
use Rattle.msg_image.proofs.resolve.+expr.Given as goal

abbrev pub invariant-exprs-loop-form : goal.invariant-exprs-loop-form
invariant-exprs-loop-form l = map plain l.found.items ++ map (λ e. expression (numbers_by l.names) (expr_view e)) (drop l.form-index l.forms) ≡ map (λ e. expression (numbers_by l.names) (expr_view e)) l.forms
