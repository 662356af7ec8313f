use Rattle.std.proofs.Common.{refl}
use Rattle.msg_reasons.specs.declared.beside.Beside.{Beside}
use Rattle.msg_reasons.proofs.BesideLemmas.{sent_beside}
use Rattle.msg_reasons.proofs.beside.Beside.explain_send.Goals as goal

pub returns-clause-item : goal.returns-clause-item
returns-clause-item c =
    let now : Beside = record { tables = c.args.self.now.tables; written = c.args.self.now.written; moving = c.send.new.self } in
    sent_beside c.args.image.now c.args.receiver c.args.sel c.args.args.now.items c.args.self.now now c.args.text.now.items c.push_reply.new.text.items c.push_seen.new.text.items
    c.in_ok-reply.reply refl c.in_ok-reply.ensures.sent c.in_ok-push_reply.ensures (rw (← c.seen.ensures) c.in_ok-push_seen.ensures)
