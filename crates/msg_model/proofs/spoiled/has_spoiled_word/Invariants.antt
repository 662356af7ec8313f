-- no word so far is spoiled
use Rattle.std.proofs.Common.{◌≡◌, false, slice_index}
use Rattle.std.specs.Prelude.{◌&&◌}
use Rattle.msg_tables.specs.Log.{Log, lookup, and_then}
use Rattle.msg_tables.specs.Stands.{StandsAt}
use Rattle.msg_model.specs.Steps.{some_below, is_entry, disagrees}
use Rattle.msg_model.proofs.spoiled.has_spoiled_word.Given as goal

abbrev pub invariant-loop-place : goal.invariant-loop-place
invariant-loop-place l = (h : Log) → StandsAt l.tables h → some_below l.place (λ p. is_entry (slice_index l.words p) && disagrees (lookup (and_then h l.change)) l.class (slice_index l.words p)) ≡ false
