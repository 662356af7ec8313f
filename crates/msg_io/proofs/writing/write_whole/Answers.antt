use Rattle.std.proofs.Common.{arith, rules}
use Rattle.msg_io.proofs.ByteLemmas.{takes_more}
use Rattle.msg_io.proofs.writing.write_whole.Goals as goal

pub loop-written-preserved : goal.loop-written-preserved
loop-written-preserved g c = record {
  within = grind arith;
  taken = takes_more _ _ _ _ _ _ c.loop-written.invariant.taken (search rules);
  mark = search rules;
}
