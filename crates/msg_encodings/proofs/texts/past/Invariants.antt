use Rattle.std.proofs.Common.{◌≡◌, length}
use Rattle.msg_encodings.specs.Texts.{past}
use Rattle.msg_encodings.proofs.texts.past.Given as goal

abbrev pub invariant-loop-rest : goal.invariant-loop-rest
invariant-loop-rest l = past l.these l.rest ≡ past l.these l.text

abbrev pub decreases-loop-rest : goal.decreases-loop-rest
decreases-loop-rest l = length l.rest
