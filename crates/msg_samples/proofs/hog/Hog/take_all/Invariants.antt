use Rattle.std.proofs.Common.{◌≡◌, ◌≤◌, length}
use Rattle.msg_samples.proofs.hog.Hog.take_all.Given as goal

abbrev pub invariant-loop-halving : goal.invariant-loop-halving
invariant-loop-halving l = (l.self.pieces.items ≡ l.fn.self.pieces.items) × (length l.fn.self.blocks.items ≤ length l.self.blocks.items)

abbrev pub invariant-loop-step : goal.invariant-loop-step
invariant-loop-step l = (l.self.pieces.items ≡ l.fn.self.pieces.items) × (length l.fn.self.blocks.items ≤ length l.self.blocks.items)
