use Rattle.std.proofs.Common.{◌≡◌, ◌+◌, length}
use Rattle.msg_samples.proofs.hog.Hog.keep_pieces.Given as goal

abbrev pub invariant-loop-piece : goal.invariant-loop-piece
invariant-loop-piece l = (length l.self.pieces.items ≡ length l.fn.self.pieces.items + l._piece) × (l.self.blocks.items ≡ l.fn.self.blocks.items)
