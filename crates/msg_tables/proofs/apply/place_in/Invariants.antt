use Rattle.std.proofs.Common.{◌≡◌, ◌≤◌, ◌-◌, ℕ, length, Some, slice_get}
use Rattle.msg_tables.proofs.apply.place_in.Given as goal

-- it is at none of the places from there on
abbrev pub invariant-loop-back : goal.invariant-loop-back
invariant-loop-back l = (place : ℕ) → length l.order - l.back ≤ place → slice_get l.order place ≡ Some l.class → ⊥
