use Rattle.std.proofs.Common.{◌∙◌}
use Rattle.std.proofs.lemmas.List.{length-set}
use Rattle.msg_rows.proofs.LinkLemmas.{linked-there}
use Rattle.msg_rows.proofs.indexed_rows.link.Goals as goal

pub loop-at-preserved : goal.loop-at-preserved
loop-at-preserved c = record {
  linked = linked-there c.args.rows.now c.loop-at.at c.index-rows-at.result c.loop-at.older c.loop-at.newest c.bucket-bucket.result c.loop-at-test.true c.index-rows-at.is c.bucket-bucket.ensures.value c.bucket-bucket.ensures.inside
      (c.loop-at.invariant.older ∙ c.requires.older) c.loop-at.invariant.linked;
  older = length-set c.loop-at.older c.loop-at.at _ ∙ c.loop-at.invariant.older;
  newest = length-set c.loop-at.newest c.bucket-bucket.result _ ∙ c.loop-at.invariant.newest;
}
