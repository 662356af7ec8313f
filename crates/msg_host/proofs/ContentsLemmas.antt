-- Methods that are written to the front of rows.
use Rattle.std.proofs.Common.{◌≡◌, ◌<◌, ◌≤◌, ℕ, zero, suc, List, [], ◌∷◌, ◌++◌, length, take, drop, refl, ap, arith}
use Rattle.std.specs.Prelude.{slice_set, slice_index_or}

-- what was written so far, and one more
pub one-more-written : {A : Type 0} (xs old : List A) (i : ℕ) (d : A) → i < length xs → length xs ≤ length old
    → slice_set (take i xs ++ drop i old) i (slice_index_or xs i d) ≡ take (suc i) xs ++ drop (suc i) old
one-more-written [] old i d inside room = absurd (omega (arith, inside))
one-more-written (x ∷ xs) [] i d inside room = absurd (omega (arith, room))
one-more-written (x ∷ xs) (o ∷ old) zero d inside room = refl
one-more-written (x ∷ xs) (o ∷ old) (suc i) d inside room = ap (λ ys. x ∷ ys) (one-more-written xs old i d (omega (arith, inside)) (omega (arith, room)))
