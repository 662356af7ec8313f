use Rattle.std.proofs.Common.{◌≡◌, ◌<◌, ℕ, length}
use Rattle.msg_host.specs.Config.{word_at}
use Rattle.msg_c.proofs.reporting.write.Given as goal

abbrev pub invariant-loop-place : goal.invariant-loop-place
invariant-loop-place l = record {
  long : length l.words ≡ length l.initial.words;
  written : (i : ℕ) → i < l.place → word_at l.words i ≡ word_at l.counts i;
}
