use Rattle.msg_form.proofs.FoundLemmas.{note_send, note_super}
use Rattle.msg_form.proofs.judge.body_walk.BodyWalk.note.Goals as goal

pub returns-in-Send : goal.returns-in-Send
returns-in-Send c =
    let w = c.args.self.now in
    note_send w.above w.classes.now w.objects.now w.args c.args.expr.now c.in-Send.send c.is_miscounted_send-miscounted.result c.args.faults.now c.in-Send.is c.is_miscounted_send-miscounted.ensures

pub returns-in-Super : goal.returns-in-Super
returns-in-Super c =
    let w = c.args.self.now in
    note_super w.above w.classes.now w.objects.now w.args c.args.expr.now c.in-Super.send c.is_miscounted_send-miscounted-in-Super.result c.args.faults.now c.in-Super.is c.is_miscounted_send-miscounted-in-Super.ensures
