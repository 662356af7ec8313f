use Rattle.std.proofs.Common.{[], ◌∷◌, ◌++◌, append_assoc, ap, ◌∙◌}
use Rattle.std.specs.Prelude.{codes}
use Rattle.msg_io.specs.Decimal.{digits}
use Rattle.msg_reasons.proofs.text.push_place_of_category.Goals as goal

pub returns : goal.returns
returns c =
    c.in_ok-push-2.ensures.items
    ∙ ap (λ t. t ++ 93 ∷ []) (c.in_ok-push_digits.ensures.ok ∙ ap (λ t. t ++ digits c.args.place) c.in_ok-push.ensures)
    ∙ append_assoc (c.args.text.now.items ++ codes "categories[") (digits c.args.place) (93 ∷ [])
    ∙ append_assoc c.args.text.now.items (codes "categories[") (digits c.args.place ++ 93 ∷ [])
