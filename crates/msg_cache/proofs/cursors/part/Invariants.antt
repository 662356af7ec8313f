use Rattle.std.proofs.Common.{◌≡◌, ℕ, ◌<◌, ◌≤◌, length}
use Rattle.std.specs.Prelude.{slice_index}
use Rattle.msg_cache.proofs.cursors.part.Given as goal

abbrev pub invariant-loop-sender : goal.invariant-loop-sender
invariant-loop-sender l = record {
  before : (n : ℕ) → n < l.from → slice_index l.cursors.items n ≡ slice_index l.initial.cursors.items n;
  parted : (n : ℕ) → l.from ≤ n → n < l.sender → slice_index l.cursors.items n ≡ l.at;
  low : l.from ≤ l.sender;
  long : length l.cursors.items ≡ length l.initial.cursors.items;
}
