use Rattle.std.proofs.Common.{◌≡◌, length}
use Rattle.msg_encodings.specs.Texts.{up_to}
use Rattle.msg_encodings.proofs.texts.up_to.Given as goal

abbrev pub invariant-loop-rest : goal.invariant-loop-rest
invariant-loop-rest l = up_to l.these l.rest ≡ up_to l.these l.text

abbrev pub decreases-loop-rest : goal.decreases-loop-rest
decreases-loop-rest l = length l.rest
