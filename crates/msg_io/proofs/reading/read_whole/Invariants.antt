use Rattle.std.proofs.Common.{◌-◌, vec_len}
use Rattle.msg_image.specs.Answer.{most_bytes}
use Rattle.msg_io.proofs.ByteLemmas.{HasGiven}
use Rattle.msg_io.proofs.reading.read_whole.Given as goal

abbrev pub invariant-loop-bytes : goal.invariant-loop-bytes
invariant-loop-bytes g l =
    HasGiven (g.S.Source.remaining l.fn.source) (g.S.Source.remaining l.source) (g.S.Source.mark l.fn.source) (g.S.Source.mark l.source) l.bytes.items

abbrev pub decreases-loop-bytes : goal.decreases-loop-bytes
decreases-loop-bytes g l = most_bytes - vec_len l.bytes
