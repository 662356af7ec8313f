use Rattle.std.proofs.Common.{◌≡◌, length, take, ap, subst, ◌∙◌, arith}
use Rattle.std.proofs.Math.Seq.{take-length}
use Rattle.msg_tables.specs.Making.{MarksTold}
use Rattle.msg_tables.proofs.ReachLemmas.{marks-next}
use Rattle.msg_tables.proofs.tables.Tables.mark_written.Goals as goal

pub loop-entry-preserved : goal.loop-entry-preserved
loop-entry-preserved c = record {
  marks = marks-next c.args.self.now c.args.entries.now c.loop-entry.entry-index c.entry-item.result c.args.marked.now c.loop-entry.marked c.mark_once.new.marked c.loop-entry-test.true c.entry-item.is
      c.loop-entry.invariant.marks c.mark_once.ensures.marks;
  recent = c.mark_once.ensures.recent;
  length = c.mark_once.ensures.length ∙ c.loop-entry.invariant.length;
}

pub returns-clause-marks : goal.returns-clause-marks
returns-clause-marks c =
    let es = c.args.entries.now in
    let end : c.loop-entry.entry-index ≡ length es = omega (arith, c.loop-entry-test.false, c.loop-entry.auto.entry-index-end) in
    let whole : take c.loop-entry.entry-index es ≡ es = ap (λ n. take n es) end ∙ take-length es in
    subst (λ ys. MarksTold c.args.self.now ys c.args.marked.now c.loop-entry.marked) whole c.loop-entry.invariant.marks
