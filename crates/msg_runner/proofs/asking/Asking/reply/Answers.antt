use Rattle.std.proofs.Common.{refl, ◌∙◌}
use Rattle.msg_eval.specs.Evaluation.{send_of}
use Rattle.msg_eval.proofs.PointLemmas.{points_of}
use Rattle.msg_runner.proofs.asking.Asking.reply.Goals as goal

pub returns-clause-points : goal.returns-clause-points
returns-clause-points g c =
    let front = c.args.self.now.sender.sender.seen.front in
    let x = c.send.ensures.meaning front refl in
    let e = points_of (send_of c.args.image.now c.args.receiver c.args.sel c.args.args.now.items) front x.state c.send.result x.leads in
    (e.points, e.rise, e.ends, x.there ∙ e.last)
