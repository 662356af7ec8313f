use Rattle.std.proofs.Common.{◌+◌, ◌≤◌, length, map}
use Rattle.msg_image.specs.Plain.{item_parts}
use Rattle.msg_answers.specs.Serving.{share_of, worker_of, sends_of}
use Rattle.msg_answers.proofs.ServingLemmas.{IsServing}
use Rattle.msg_runner.proofs.share.reply_share.Given as goal

abbrev pub invariant-loop-item : goal.invariant-loop-item
invariant-loop-item g l =
    (l.place + length l.rest ≤ length l.fn.share.part.items.now)
    × IsServing l.share.part.image.now (worker_of l.share.part.deal.cut l.share.part.deal.workers) l.share.worker l.fn.asking.sender.sender.seen.front
    (share_of (worker_of l.share.part.deal.cut l.share.part.deal.workers) l.share.worker 0 (sends_of l.share.part.image.now (map item_parts l.fn.share.part.items.now)))
    l.asking.sender.sender.seen.front l.place (map item_parts l.rest) l.replies.items

abbrev pub decreases-loop-item : goal.decreases-loop-item
decreases-loop-item g l = length l.rest
