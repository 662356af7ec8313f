-- Cursors of senders in a queue.
use Rattle.std.proofs.Common.{◌≡◌, ℕ, ◌+◌, ◌<◌, ◌≤◌, ◌⊎◌, min, List, Bool, true, false, length, ◌∙◌, inl, inr, ⊎_elim, arith}
use Rattle.std.specs.Prelude.{slice_index, slice_set, if◌then◌else◌}
use Rattle.std.proofs.lemmas.Bool.{cases_lt}
use Rattle.std.proofs.lemmas.List.{get_or-set_other, get_or-set_same}

-- the least is the end, or is some cursor: one cursor more
pub some_more : (cs : List ℕ) (least end n x : ℕ) → n < length cs → (least ≡ end) ⊎ ((m : ℕ) × (m < n) × (slice_index cs m ≡ least))
    → (min least x ≡ end) ⊎ ((m : ℕ) × (m < n + 1) × (slice_index (slice_set cs n x) m ≡ min least x))
some_more cs least end n x lt before = ⊎_elim
    (λ (l : x < least). inr (n, omega arith, get_or-set_same cs n x 0 lt ∙ omega arith))
    (λ (l : least ≤ x). ⊎_elim
    (λ (e : least ≡ end). inl (omega arith))
    (λ (m : (m : ℕ) × (m < n) × (slice_index cs m ≡ least)). inr (m.0, omega (arith, m.1), get_or-set_other cs n m.0 x 0 (λ e. absurd (omega (arith, m.1))) ∙ m.2 ∙ omega arith))
    before)
    (cases_lt x least)

-- a cursor that moves to the end is within
pub moved_within : (b : Bool) (end cursor size : ℕ) → end ≤ size → cursor ≤ size → (if b then end else cursor) ≤ size
moved_within true end cursor size e c = e
moved_within false end cursor size e c = c
