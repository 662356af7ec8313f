use Rattle.std.proofs.Common.{arith}
use Rattle.msg_explain.proofs.explaining.explain_bytes.Goals as goal

pub returns-in-Ok-clause-answered : goal.returns-in-Ok-clause-answered
returns-in-Ok-clause-answered g c zero = (_, c.in-Ok.ensures.ok, c.tell_reasons.ensures.told zero)

pub returns-in-Ok-clause-refused : goal.returns-in-Ok-clause-refused
returns-in-Ok-clause-refused g c two = absurd (omega (arith, two, c.tell_reasons.ensures.status))

pub returns-in-Err-clause-answered : goal.returns-in-Err-clause-answered
returns-in-Err-clause-answered g c zero = absurd (omega (arith, zero, c.refuse.ensures.status))

pub returns-in-Err-clause-refused : goal.returns-in-Err-clause-refused
returns-in-Err-clause-refused g c two =
    let said = c.refuse.ensures.said two in
    (c.in-Err.fault, c.in-Err.ensures.err said.0, said.1)
