use Rattle.std.proofs.Common.{◌-◌, length}
use Rattle.msg_io.proofs.ByteLemmas.{HasTaken}
use Rattle.msg_io.proofs.writing.write_whole.Given as goal

abbrev pub invariant-loop-written : goal.invariant-loop-written
invariant-loop-written g l =
    HasTaken (g.S.Sink.contents l.fn.sink) (g.S.Sink.contents l.sink) (g.S.Sink.mark l.fn.sink) (g.S.Sink.mark l.sink) l.bytes l.written

abbrev pub decreases-loop-written : goal.decreases-loop-written
decreases-loop-written g l = length l.bytes - l.written
