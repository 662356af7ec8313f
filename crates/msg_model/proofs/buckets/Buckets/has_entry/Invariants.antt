-- the words so far are 0
use Rattle.std.proofs.Common.{◌≡◌, slice_index, false}
use Rattle.msg_model.specs.Steps.{some_below, is_entry}
use Rattle.msg_model.proofs.buckets.Buckets.has_entry.Given as goal

abbrev pub invariant-loop-place : goal.invariant-loop-place
invariant-loop-place l = some_below l.place (λ p. is_entry (slice_index l.self-inside.words.items p)) ≡ false
