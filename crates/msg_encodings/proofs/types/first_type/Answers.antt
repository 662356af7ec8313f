use Rattle.std.proofs.Common.{length, ap, arith}
use Rattle.msg_encodings.specs.declared.letters.TheConstants.{DEEPEST}
use Rattle.msg_encodings.proofs.Shorter.{first-shortens}
use Rattle.msg_encodings.proofs.types.first_type.Goals as goal

pub overflow_sub-result : goal.overflow_sub-result
overflow_sub-result c = omega (arith, first-shortens DEEPEST c.args.text.now, ap length c.first.ensures.rest)

pub returns-clause-goes_on : goal.returns-clause-goes_on
returns-clause-goes_on c = λ some. omega (arith, first-shortens DEEPEST c.args.text.now, ap length c.first.ensures.rest)
