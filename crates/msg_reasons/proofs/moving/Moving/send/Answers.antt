use Rattle.std.proofs.Common.{refl, Some, ap}
use Rattle.msg_eval.specs.Evaluation.{send_of}
use Rattle.msg_reasons.specs.Beside.{begun}
use Rattle.msg_reasons.specs.Moving.{all_seen}
use Rattle.msg_reasons.proofs.MovingLemmas.{sent_on}
use Rattle.msg_reasons.proofs.moving.Moving.send.Goals as goal

pub returns-then-self-clause-sent : goal.returns-then-self-clause-sent
returns-then-self-clause-sent c = λ k on.
    let send = send_of c.args.image.now c.args.receiver c.args.sel c.args.args.now.items in
    let x = c.send-reply.ensures.meaning (Some (begun k)) (refl, record { stands = on.stands; made = on.made; left = on.left; versions = on.versions; seen = ap all_seen c.clear.ensures.items }) in
    sent_on c.send-reply.new.finder (begun k) send x.state c.send-reply.result c.if-self.true x.there x.leads
