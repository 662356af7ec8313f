use Rattle.std.proofs.Common.{◌≡◌, ◌++◌, length, map, take, drop}
use Rattle.msg_form.specs.ExprView.{constant_view}
use Rattle.msg_image.specs.Document.{constant}
use Rattle.msg_image.specs.Numbers.{numbers_by}
use Rattle.msg_image.proofs.resolve.arguments.Given as goal

abbrev pub invariant-loop-form : goal.invariant-loop-form
invariant-loop-form l =
    (length l.args.items ≡ l.form-index)
    × (l.form-items ≡ take 4 l.forms)
    × (l.args.items ++ map (λ c. constant (numbers_by l.names) (constant_view c)) (drop l.form-index l.form-items) ≡ map (λ c. constant (numbers_by l.names) (constant_view c)) l.form-items)
