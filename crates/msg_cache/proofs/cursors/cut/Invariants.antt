use Rattle.std.proofs.Common.{◌≡◌, ℕ, ◌+◌, ◌<◌, ◌≤◌, length}
use Rattle.std.specs.Prelude.{slice_index}
use Rattle.msg_cache.proofs.cursors.cut.Given as goal

abbrev pub invariant-loop-sender : goal.invariant-loop-sender
invariant-loop-sender l = record {
  moved : (n : ℕ) → n < l.sender → slice_index l.cursors.items n + l.by ≡ slice_index l.initial.cursors.items n;
  others : (n : ℕ) → l.sender ≤ n → slice_index l.cursors.items n ≡ slice_index l.initial.cursors.items n;
  long : length l.cursors.items ≡ length l.initial.cursors.items;
}
