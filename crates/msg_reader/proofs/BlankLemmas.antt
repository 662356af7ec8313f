-- Notes that are made blank, place by place and part by part.
use Rattle.std.proofs.Common.{◌≡◌, ◌<◌, ◌≤◌, ◌+◌, ◌/◌, ◌⊎◌, inl, inr, ℕ, List, length, get_or, sym, subst, arith}
use Rattle.std.proofs.lemmas.Bool.{cases_lt}
use Rattle.msg_reader.specs.declared.note.Note.{Note}
use Rattle.msg_reader.specs.Blank.{AreBlankIn, IsBlank, StayBlank}

-- one more place
pub one-more-place : (old new : List Note) (from place : ℕ) → length old ≡ 8192 → place < 8192 → ((n : ℕ) (d : Note) → from ≤ n → n < place → IsBlank (get_or old n d)) → StayBlank old new → ((d : Note) → IsBlank (get_or new place d))
    → (n : ℕ) (d : Note) → from ≤ n → n < place + 1 → IsBlank (get_or new n d)
one-more-place old new from place had few was stay is n d begins lt = at (cases_lt n place)
  where
    at : (n < place) ⊎ (place ≤ n) → IsBlank (get_or new n d)
    at (inl below) = stay n d (omega (arith, had, few, below)) (was n d begins below)
    at (inr le) = let same : n ≡ place = omega (arith, lt, le) in subst (λ p. IsBlank (get_or new p d)) (sym same) (is d)

-- one more part
pub one-more-part : (old new : List Note) (part : ℕ) → length old ≡ 8192 → length new ≡ 8192 → part < 64 → ((n : ℕ) (d : Note) → n / 128 < part → IsBlank (get_or old n d)) → StayBlank old new → AreBlankIn part new
    → (n : ℕ) (d : Note) → n / 128 < part + 1 → IsBlank (get_or new n d)
one-more-part old new part had has few was stay is n d lt = at (cases_lt (n / 128) part)
  where
    at : (n / 128 < part) ⊎ (part ≤ n / 128) → IsBlank (get_or new n d)
    at (inl below) = stay n d (omega (arith, had, few, below)) (was n d below)
    at (inr le) = is n d (omega (arith, has, few, lt)) (omega (arith, lt, le))
