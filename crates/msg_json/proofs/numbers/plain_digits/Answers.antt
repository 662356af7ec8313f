use Rattle.std.proofs.Common.{◌≡◌, Some, IfSome, false, sym, subst, ◌∙◌}
use Rattle.fast_float.specs.Text.{scan}
use Rattle.serde_json.specs.Data.{unsigned}
use Rattle.serde_json.specs.Read.{number_from}
use Rattle.msg_json.proofs.NumberLemmas.{parsed_number}
use Rattle.msg_json.proofs.numbers.plain_digits.Goals as goal

pub returns : goal.returns
returns c = subst (λ o. IfSome o (λ n. number_from false (scan c.args.bytes.now) ≡ Some (unsigned n))) (sym c.ok.ensures.value) (parsed_number c.args.bytes.now c.parse_u64.result c.parse_u64.ensures (sym c.has_plus.ensures ∙ c.if-has_plus.false))
