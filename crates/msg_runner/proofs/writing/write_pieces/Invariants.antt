use Rattle.std.proofs.Common.{◌≡◌, ◌≤◌, ◌+◌, length, map}
use Rattle.msg_image.specs.Plain.{item_parts}
use Rattle.msg_answers.specs.Serving.{pieces_of, sends_of}
use Rattle.msg_answers.proofs.WrittenLemmas.{IsWriting}
use Rattle.msg_runner.proofs.writing.write_pieces.Given as goal

abbrev pub invariant-loop-rest : goal.invariant-loop-rest
invariant-loop-rest g l = record {
  few : l.pieces + length l.rest ≤ length l.fn.part.items.now;
  pieces : l.pieces + pieces_of l.fn.part.deal.cut (length l.rest) ≡ pieces_of l.fn.part.deal.cut (length l.fn.part.items.now);
  writing : IsWriting l.part.image.now l.fn.asking.sender.sender.seen.front (sends_of l.part.image.now (map item_parts l.fn.part.items.now)) l.fn.text.items l.asking.sender.sender.seen.front (map item_parts l.rest) l.text.items;
}

abbrev pub decreases-loop-rest : goal.decreases-loop-rest
decreases-loop-rest g l = length l.rest
