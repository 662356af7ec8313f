use Rattle.std.proofs.Common.{arith}
use Rattle.std.proofs.lemmas.Int.{to_z-of_z}
use Rattle.msg_io.proofs.DecimalLemmas.{signed_decimal_is}
use Rattle.msg_io.proofs.decimal.push_decimal.Goals as goal

pub returns-clause-ok : goal.returns-clause-ok
returns-clause-ok c =
    let e = signed_decimal_is c.args.number c.ranges.number.sfits in
    grind (arith, to_z-of_z)
