use Rattle.std.proofs.Common.{◌+◌, ◌≤◌, length, map, Vec, Global}
use Rattle.msg_image.specs.Plain.{item_parts}
use Rattle.msg_eval.specs.declared.reply.Reply.{Reply}
use Rattle.msg_answers.specs.Serving.{worker_of}
use Rattle.msg_answers.proofs.GatherLemmas.{IsGathering}
use Rattle.msg_answers.proofs.gathering.gather.Given as goal

abbrev pub invariant-loop-item : goal.invariant-loop-item
invariant-loop-item l =
    (l.place + length l.rest ≤ length l.fn.part.items.now)
    × IsGathering l.part.image.now (worker_of l.part.deal.cut l.part.deal.workers) l.part.deal.workers (map item_parts l.fn.part.items.now) (map (λ (rs : Vec Reply Global). rs.items) l.shares) l.outcomes l.fn.text.items l.taken.items l.place (map item_parts l.rest) l.left l.text.items

abbrev pub decreases-loop-item : goal.decreases-loop-item
decreases-loop-item l = length l.rest
