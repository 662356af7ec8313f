use Rattle.std.proofs.Common.{arith, ◌≡◌, ◌∙◌}
use Rattle.msg_io.specs.Decimal.{digits}
use Rattle.msg_io.proofs.DecimalLemmas.{digits_is}
use Rattle.msg_io.proofs.decimal.push_digits.Goals as goal

pub returns-clause-ok : goal.returns-clause-ok
returns-clause-ok c =
    let text : c.as_bytes.result.now ≡ digits c.args.number = c.as_bytes.ensures.value ∙ c.format.ensures.text ∙ digits_is c.args.number (omega arith) in grind arith
