use Rattle.std.proofs.Common.{ap, sym, ◌∙◌, arith}
use Rattle.msg_rows.specs.RowList.{without_last}
use Rattle.msg_rows.proofs.PopLemmas.{without-next, without-none}
use Rattle.msg_rows.proofs.indexed_rows.IndexedRows.shorten.Goals as goal

pub loop-step-init : goal.loop-step-init
loop-step-init c = record { rows = sym (without-none c.args.self.now.rows); keeps = omega arith }

pub loop-step-preserved : goal.loop-step-preserved
loop-step-preserved c = record {
  rows = c.pop.ensures.rows ∙ ap (without_last 1) c.loop-step.invariant.rows ∙ without-next c.args.self.now.rows c.loop-step._step;
  keeps = omega (arith, c.loop-step.invariant.keeps, c.pop.ensures.keeps);
}
