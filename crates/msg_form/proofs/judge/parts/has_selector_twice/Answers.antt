use Rattle.std.proofs.Common.{◌≡◌, IfOk, map, subst, sym}
use Rattle.std.proofs.lemmas.Simd.{map-map}
use Rattle.msg_form.specs.Form.{PairForm}
use Rattle.msg_form.specs.Text.{has_duplicate}
use Rattle.msg_form.specs.Views.{pair_view}
use Rattle.msg_form.proofs.judge.parts.has_selector_twice.Goals as goal

pub returns : goal.returns
returns c = subst (λ texts. IfOk c.are_alike.result (λ b. b ≡ has_duplicate texts)) (sym (map-map (λ (p : PairForm). p.selector) pair_view c.args.pairs.now)) c.are_alike.ensures
