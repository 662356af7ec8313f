use Rattle.std.proofs.Common.{◌≡◌, ℕ, ◌<◌, ◌≤◌, ◌⊎◌, false, length}
use Rattle.std.specs.Prelude.{slice_index, slice_index_or, if◌then◌else◌}
use Rattle.msg_cache.proofs.cursors.pass.Given as goal

abbrev pub invariant-loop-sender : goal.invariant-loop-sender
invariant-loop-sender l = record {
  moved : (n : ℕ) → n < l.sender → slice_index l.cursors.items n ≡ (if slice_index_or l.outs.items n false then l.end else slice_index l.initial.cursors.items n);
  others : (n : ℕ) → l.sender ≤ n → slice_index l.cursors.items n ≡ slice_index l.initial.cursors.items n;
  all : (n : ℕ) → n < l.sender → l.least ≤ slice_index l.cursors.items n;
  some : (l.least ≡ l.end) ⊎ ((n : ℕ) × (n < l.sender) × (slice_index l.cursors.items n ≡ l.least));
  end : l.least ≤ l.end;
  long : length l.cursors.items ≡ length l.initial.cursors.items;
}
