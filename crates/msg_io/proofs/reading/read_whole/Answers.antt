use Rattle.std.proofs.Common.{arith}
use Rattle.msg_io.proofs.ByteLemmas.{gives_start}
use Rattle.msg_io.proofs.reading.read_whole.Goals as goal

pub returns-then-count-len-clause-start : goal.returns-then-count-len-clause-start
returns-then-count-len-clause-start g c =
    gives_start _ _ _ _ _ _ c.loop-bytes.invariant.within c.loop-bytes.invariant.given (omega arith) c.read.ensures.bound c.read.ensures.bytes

pub returns-in_err-extend_from_slice-clause-start : goal.returns-in_err-extend_from_slice-clause-start
returns-in_err-extend_from_slice-clause-start g c =
    gives_start _ _ _ _ _ _ c.loop-bytes.invariant.within c.loop-bytes.invariant.given (omega arith) c.read.ensures.bound c.read.ensures.bytes
