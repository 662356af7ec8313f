use Rattle.std.proofs.Common.{◌≡◌, ◌⊎◌, Some, subst, ◌∙◌, ap, sym, arith}
use Rattle.msg_io.specs.Complaint.{complaint_line, status_of}
use Rattle.msg_io.specs.Writing.{Starts, Writes}
use Rattle.msg_io.specs.declared.fault.RunFault.{RunFault}
use Rattle.msg_explain.proofs.FaultLemmas.{refused_is}
use Rattle.msg_explain.proofs.explaining.refuse.Goals as goal

pub returns-in-Ok-clause-said : goal.returns-in-Ok-clause-said
returns-in-Ok-clause-said g c two =
    let status : c.complain-status.result ≡ 2 = omega (arith, two, c.say.ensures.status) in
    let is = refused_is c.args.fault (ap (λ (r : RunFault). status_of (Some r)) (sym c.from.ensures) ∙ sym c.complain-status.ensures.status ∙ status) in
    let same = c.say.ensures.same (λ one. omega (arith, two, one)) in
    (is.0, rw same (subst (λ (r : RunFault). Writes g.E.Sink.contents c.args.errors.now c.complain-status.new.sink (complaint_line c.args.program (Some r)) ⊎ Starts g.E.Sink.contents c.args.errors.now c.complain-status.new.sink (complaint_line c.args.program (Some r))) (c.from.ensures ∙ is.1) c.complain-status.ensures.start))
