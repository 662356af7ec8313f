use Rattle.msg_io.proofs.ByteLemmas.{start_after}
use Rattle.msg_io.proofs.writing.write_both.Goals as goal

pub returns-clause-start : goal.returns-clause-start
returns-clause-start g c = start_after _ _ _ _ _ c.write_whole-2.result c.in_ok-write_whole.ensures.whole c.write_whole-2.ensures.start
