use Rattle.std.proofs.Common.{◌≡◌, ℕ, ◌+◌, ◌<◌, ◌⊎◌, length, arith, subst, sym}
use Rattle.std.specs.Prelude.{slice_index, slice_set}
use Rattle.msg_cache.proofs.CursorLemmas.{some_more}
use Rattle.msg_cache.proofs.cursors.pass.Goals as goal
use Rattle.std.proofs.lemmas.Grind.{common_steps}

pub loop-sender-preserved : goal.loop-sender-preserved
loop-sender-preserved c = record {
  moved = λ n lt. grind (arith, common_steps, c.loop-sender.invariant.moved n);
  others = λ n le. grind (arith, common_steps, c.loop-sender.invariant.others n);
  all = λ n lt. grind (arith, common_steps, c.loop-sender.invariant.all n);
  some = let n : c.loop-sender.sender < length c.loop-sender.cursors.items = omega arith in subst (λ (m : ℕ). (m ≡ c.args.end) ⊎ ((x : ℕ) × (x < c.loop-sender.sender + 1) × (slice_index (slice_set c.loop-sender.cursors.items c.loop-sender.sender c.passed-cursor.result) x ≡ m))) (sym c.min-least.ensures) (some_more c.loop-sender.cursors.items c.loop-sender.least c.args.end c.loop-sender.sender c.passed-cursor.result n c.loop-sender.invariant.some);
  end = grind (arith, common_steps);
  long = grind (arith, common_steps);
}
