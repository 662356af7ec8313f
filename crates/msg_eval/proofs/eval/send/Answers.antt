use Rattle.std.proofs.Common.{refl}
use Rattle.msg_eval.specs.Meaning.{Ends}
use Rattle.msg_eval.specs.declared.reply.Reply.TheVariants as replies
use Rattle.msg_eval.proofs.eval.send.Goals as goal

pub returns-in-Ok-clause-meaning : goal.returns-in-Ok-clause-meaning
returns-in-Ok-clause-meaning g c = λ h st.
    let x = c.in-Ok.ensures.meaning h st in
    record { state = x.state; there = x.there; leads = x.follows (λ v n. Ends (replies.Value v)) x.state (replies.Value c.in-Ok.value) (refl, refl) }

pub returns-in-Err-clause-meaning : goal.returns-in-Err-clause-meaning
returns-in-Err-clause-meaning g c = λ h st.
    let x = c.in-Err.ensures.meaning h st in
    record { state = x.state; there = x.there; leads = x.follows (λ v n. Ends (replies.Value v)) x.state (replies.Fault c.in-Err.fault) (refl, refl) }
