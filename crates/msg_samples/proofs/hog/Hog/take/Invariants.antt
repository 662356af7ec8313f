use Rattle.std.proofs.Common.{◌≡◌, ◌≤◌, length}
use Rattle.msg_samples.proofs.hog.Hog.take.Given as goal

-- the pieces stay, and no block is given back
abbrev pub invariant-loop-block : goal.invariant-loop-block
invariant-loop-block l = (l.self.pieces.items ≡ l.fn.self.pieces.items) × (length l.fn.self.blocks.items ≤ length l.self.blocks.items)
