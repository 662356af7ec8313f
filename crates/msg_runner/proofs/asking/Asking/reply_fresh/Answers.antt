use Rattle.msg_answers.proofs.ServingLemmas.{rise_from}
use Rattle.std.proofs.Common.{subst, sym}
use Rattle.msg_eval.specs.Points.{last_of}
use Rattle.msg_tables.specs.History.{BeginsWith}
use Rattle.msg_runner.proofs.asking.Asking.reply_fresh.Goals as goal

pub returns-clause-points : goal.returns-clause-points
returns-clause-points g c =
    let was = c.args.self.now.sender.sender.seen.front in
    let (points, rise, ends, is) = c.reply.ensures.points in
    let (low, high) = rise_from was c.refresh-changes.new.self.sender.seen.front points c.refresh-changes.ensures.begins rise in
    (points, low, ends, subst (λ k. BeginsWith k (last_of was points)) (sym is) high)
