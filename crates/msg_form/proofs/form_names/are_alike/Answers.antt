use Rattle.std.proofs.Common.{◌≡◌, ap, map, ◌∙◌}
use Rattle.std.proofs.lemmas.Result.{IfOk-weaker}
use Rattle.msg_form.specs.Text.{has_duplicate, repeats}
use Rattle.msg_form.proofs.TextLemmas.{repeats-none}
use Rattle.msg_form.proofs.form_names.are_alike.Goals as goal

pub returns : goal.returns
returns g c =
    let texts = map g.T.Named.named c.args.parts.now in
    IfOk-weaker c.add_names.result (λ b. b ≡ repeats c.new-names.result texts) (λ b. b ≡ has_duplicate texts) (λ b e. e ∙ ap (λ seen. repeats seen texts) c.new-names.ensures ∙ repeats-none texts) c.add_names.ensures.twice
