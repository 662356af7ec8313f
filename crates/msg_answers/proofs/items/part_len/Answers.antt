use Rattle.std.proofs.Common.{◌+◌, arith, sym, ◌∙◌}
use Rattle.msg_answers.proofs.PartLemmas.{each_is_send, one_more_send}
use Rattle.msg_answers.proofs.items.part_len.Goals as goal

pub loop-count-preserved : goal.loop-count-preserved
loop-count-preserved c = (
  omega (arith, c.loop-count-test.true),
  one_more_send c.args.items.now c.loop-count.count c.index-items-count.result c.loop-count-test.true c.index-items-count.is (sym c.is_send.ensures ∙ c.if-not-is_send.false) c.loop-count.invariant.1,
)

pub returns-else-count-eq0-clause-most : goal.returns-else-count-eq0-clause-most
returns-else-count-eq0-clause-most c = λ all.
    let is = each_is_send c.args.items.now c.loop-count.count (c.loop-count.count + 1) c.index-items-count.result c.loop-count-test.true (omega arith) c.index-items-count.is all in
    absurd (cc (sym is ∙ sym c.is_send.ensures ∙ c.if-not-is_send.true))
