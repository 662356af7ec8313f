use Rattle.std.proofs.Common.{length, map}
use Rattle.msg_image.specs.Plain.{item_parts}
use Rattle.msg_answers.specs.Serving.{sends_of}
use Rattle.msg_answers.proofs.WrittenLemmas.{IsWriting}
use Rattle.msg_runner.proofs.writing.write_piece.Given as goal

abbrev pub invariant-loop-item : goal.invariant-loop-item
invariant-loop-item g l =
    IsWriting l.image l.fn.asking.sender.sender.seen.front (sends_of l.image (map item_parts l.fn.items)) l.fn.text.items l.asking.sender.sender.seen.front (map item_parts l.rest) l.text.items

abbrev pub decreases-loop-item : goal.decreases-loop-item
decreases-loop-item g l = length l.rest
