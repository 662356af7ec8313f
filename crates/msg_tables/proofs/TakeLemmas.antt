-- The first of a list, one more at a time.
use Rattle.std.proofs.Common.{◌≡◌, ◌<◌, ◌+◌, ℕ, zero, suc, List, [], ◌∷◌, ◌++◌, take, take_all, drop, append-nil, map, length, Some, option_map, slice_get, refl, ap, ◌∙◌, subst, arith}
use Rattle.std.specs.Prelude.{All}
use Rattle.std.proofs.lemmas.List.{take_more}
use Rattle.std.proofs.Math.Seq.{drop-length}
use Rattle.std.proofs.lemmas.Option.{slice_get_within, slice_get-map, get_or_from_slice_get}

pub take-next : {X : Type 0} (xs : List X) (k : ℕ) (x : X) → slice_get xs k ≡ Some x → take (k + 1) xs ≡ take k xs ++ x ∷ []
take-next xs k x e = take_more xs k x (slice_get_within xs k x e) ∙ ap (λ y. take k xs ++ y ∷ []) (get_or_from_slice_get xs k x x e)

pub take-next-map : {X Y : Type 0} (f : X → Y) (xs : List X) (k : ℕ) (y : Y) → option_map f (slice_get xs k) ≡ Some y → take (k + 1) (map f xs) ≡ take k (map f xs) ++ y ∷ []
take-next-map f xs k y e = take-next (map f xs) k y (slice_get-map f xs k ∙ e)

pub element : {X : Type 0} (xs : List X) (k : ℕ) → k < length xs → (x : X) × (slice_get xs k ≡ Some x)
element [] k inside = absurd (omega (arith, inside))
element (x ∷ xs) zero inside = (x, refl)
element (x ∷ xs) (suc k) inside = element xs k (omega (arith, inside))

-- a list whose elements were all written
pub whole : {X : Type 0} (xs ys : List X) (n : ℕ) → length xs ≡ length ys → n ≡ length ys → take n (xs ++ drop (length xs) ys) ≡ xs
whole xs ys n same count =
    ap (λ k. take n (xs ++ drop k ys)) same ∙ ap (λ zs. take n (xs ++ zs)) (drop-length ys) ∙ ap (take n) (append-nil xs) ∙ take_all n xs (omega (arith, same, count))

-- what holds for all holds for the one at a place
pub All-at : {X : Type 0} (P : X → Type 0) (xs : List X) (k : ℕ) (x : X) → All P xs → slice_get xs k ≡ Some x → P x
All-at P xs k x all at = subst P (get_or_from_slice_get xs k x x at) (all k x (slice_get_within xs k x at))
