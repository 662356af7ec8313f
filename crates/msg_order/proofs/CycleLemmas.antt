-- A chain of superclasses that doesn't end comes to a class twice.
use Rattle.std.proofs.Common.{◌≡◌, ◌<◌, ◌+◌, ◌⊎◌, inl, inr, ℕ, zero, suc, List, [], ◌∷◌, length, Option, Some, None, Bool, true, false, ◌||◌, get_or, refl, sym, ap, ◌∙◌, subst, arith}
use Rattle.std.specs.Prelude.{◌==◌}
use Rattle.std.specs.List.{list_any, range_with_len, IsDistinct, AllByRecursion}
use Rattle.std.specs.Option.{option_and_then, option_map_or}
use Rattle.std.proofs.Math.Dec.{eqb}
use Rattle.std.proofs.lemmas.Bool.{eqb-true}
use Rattle.std.proofs.lemmas.Bool.Decides.{nat_tests}
use Rattle.std.proofs.lemmas.List.FromFn.{length-range_with_len}
use Rattle.std.proofs.lemmas.Map.Keys.{IsDistinct-cons}
use Rattle.std.proofs.lemmas.Map.Steps.{length-le_from_distinct_below}
use Rattle.std.proofs.lemmas.Option.{option_and_then_some, same_Some}
use Rattle.msg_order.specs.Superclasses.{super_of, AreListed, StandsAboveItself, class_up, depth_up, depth_of, has_cycle}
use Rattle.msg_order.proofs.DepthLemmas.{in_range, depth-step}

super-inside : (supers : List (Option ℕ)) (k d : ℕ) → super_of supers k ≡ Some d → k < length supers
super-inside [] k d up = cc
super-inside (o ∷ os) zero d up = omega arith
super-inside (o ∷ os) (suc k) d up = let rest = super-inside os k d up in omega (arith, rest)

up-listed : (n : ℕ) (supers : List (Option ℕ)) (k q : ℕ) → AreListed supers → k < length supers → class_up n supers k ≡ Some q → q < length supers
up-listed zero supers k q listed inside e = subst (λ j. j < length supers) (same_Some k q e) inside
up-listed (suc n) supers k q listed inside e = option_and_then_some (class_up n supers) (super_of supers k) q e (λ d up rest. up-listed n supers d q listed (listed.above k d up) rest)

-- ---- the classes of a chain

-- a class and those above it, by n superclasses at most
abbrev chain : ℕ → List (Option ℕ) → ℕ → List ℕ
chain zero supers k = k ∷ []
chain (suc n) supers k = k ∷ option_map_or (chain n supers) (super_of supers k) []

chain-length : (n : ℕ) (supers : List (Option ℕ)) (k : ℕ) → depth_up n supers k ≡ n → length (chain n supers k) ≡ suc n
chain-length zero supers k whole = refl
chain-length (suc n) supers k whole = at (super_of supers k) whole (chain-length n supers)
  where
    at : (o : Option ℕ) → option_map_or (λ d. suc (depth_up n supers d)) o 0 ≡ suc n → ((d : ℕ) → depth_up n supers d ≡ n → length (chain n supers d) ≡ suc n) → suc (length (option_map_or (chain n supers) o [])) ≡ suc (suc n)
    at None whole rest = absurd (omega (arith, whole))
    at (Some d) whole rest = ap suc (rest d (omega (arith, whole)))

chain-up : (n : ℕ) (supers : List (Option ℕ)) (k q : ℕ) → list_any (eqb q) (chain n supers k) ≡ true → (m : ℕ) × (class_up m supers k ≡ Some q)
chain-up zero supers k q e = at (eqb q k) refl e
  where
    at : (b : Bool) → eqb q k ≡ b → (b || false) ≡ true → (m : ℕ) × (class_up m supers k ≡ Some q)
    at true same e = (0, ap Some (sym (eqb-true q k same)))
    at false other e = cc
chain-up (suc n) supers k q e = at (eqb q k) refl e (chain-up n supers)
  where
    Found : Type 0
    Found = (m : ℕ) × (class_up m supers k ≡ Some q)

    more : (d : ℕ) → super_of supers k ≡ Some d → (m : ℕ) × (class_up m supers d ≡ Some q) → Found
    more d up (m, there) = (suc m, ap (option_and_then (class_up m supers)) up ∙ there)

    above : (o : Option ℕ) → super_of supers k ≡ o → list_any (eqb q) (option_map_or (chain n supers) o []) ≡ true → ((d p : ℕ) → list_any (eqb p) (chain n supers d) ≡ true → (m : ℕ) × (class_up m supers d ≡ Some p)) → Found
    above None up e rest = cc
    above (Some d) up e rest = more d up (rest d q e)

    at : (b : Bool) → eqb q k ≡ b → (b || list_any (eqb q) (option_map_or (chain n supers) (super_of supers k) [])) ≡ true → ((d p : ℕ) → list_any (eqb p) (chain n supers d) ≡ true → (m : ℕ) × (class_up m supers d ≡ Some p)) → Found
    at true same e rest = (0, ap Some (sym (eqb-true q k same)))
    at false other e rest = above (super_of supers k) refl e rest

none-equal : (k : ℕ) (xs : List ℕ) → list_any (eqb k) xs ≡ false → AllByRecursion (λ y. eqb k y ≡ false) xs
none-equal k [] e = tt
none-equal k (x ∷ xs) e = at (eqb k x) refl e (none-equal k xs)
  where
    at : (b : Bool) → eqb k x ≡ b → (b || list_any (eqb k) xs) ≡ false → (list_any (eqb k) xs ≡ false → AllByRecursion (λ y. eqb k y ≡ false) xs) → AllByRecursion (λ y. eqb k y ≡ false) (x ∷ xs)
    at true is e rest = cc
    at false is e rest = (is, rest e)

-- ---- a chain that doesn't end

-- among the first n superclasses some class is above itself, or all differ
search : (n : ℕ) (supers : List (Option ℕ)) (k : ℕ) → depth_up n supers k ≡ n → StandsAboveItself supers ⊎ IsDistinct eqb (chain n supers k)
unfolding IsDistinct
search zero supers k whole = inr (IsDistinct-cons eqb k [] tt tt)
search (suc n) supers k whole = at (super_of supers k) refl whole (search n supers)
  where
    Found : Type 0
    Found = StandsAboveItself supers ⊎ IsDistinct eqb (chain (suc n) supers k)

    again : (d : ℕ) → super_of supers k ≡ Some d → (m : ℕ) × (class_up m supers d ≡ Some k) → StandsAboveItself supers
    again d up (m, there) = record { class = k; superclasses = suc m; some = omega arith; again = ap (option_and_then (class_up m supers)) up ∙ there }

    new : (d : ℕ) → super_of supers k ≡ Some d → IsDistinct eqb (chain n supers d) → (b : Bool) → list_any (eqb k) (chain n supers d) ≡ b → Found
    new d up apart true e = inl (again d up (chain-up n supers d k e))
    new d up apart false e = inr (subst (λ o. IsDistinct eqb (k ∷ option_map_or (chain n supers) o [])) (sym up) (IsDistinct-cons eqb k (chain n supers d) (none-equal k (chain n supers d) e) apart))

    found : (d : ℕ) → super_of supers k ≡ Some d → StandsAboveItself supers ⊎ IsDistinct eqb (chain n supers d) → Found
    found d up (inl above) = inl above
    found d up (inr apart) = new d up apart (list_any (eqb k) (chain n supers d)) refl

    at : (o : Option ℕ) → super_of supers k ≡ o → option_map_or (λ d. suc (depth_up n supers d)) o 0 ≡ suc n → ((d : ℕ) → depth_up n supers d ≡ n → StandsAboveItself supers ⊎ IsDistinct eqb (chain n supers d)) → Found
    at None up whole rest = absurd (omega (arith, whole))
    at (Some d) up whole rest = found d up (rest d (omega (arith, whole)))

passes : (p : ℕ → Bool) (xs : List ℕ) → list_any p xs ≡ true → (i : ℕ) × (i < length xs) × (p (get_or xs i 0) ≡ true)
passes p [] e = cc
passes p (x ∷ xs) e = at (p x) refl e (passes p xs)
  where
    Found : Type 0
    Found = (i : ℕ) × (i < length (x ∷ xs)) × (p (get_or (x ∷ xs) i 0) ≡ true)

    more : (i : ℕ) × (i < length xs) × (p (get_or xs i 0) ≡ true) → Found
    more (i, inside, is) = (suc i, omega (arith, inside), is)

    at : (b : Bool) → p x ≡ b → (b || list_any p xs) ≡ true → (list_any p xs ≡ true → (i : ℕ) × (i < length xs) × (p (get_or xs i 0) ≡ true)) → Found
    at true is e rest = (0, omega arith, is)
    at false is e rest = more (rest e)

pub above-itself : (supers : List (Option ℕ)) → AreListed supers → has_cycle supers ≡ true → StandsAboveItself supers
unfolding has_cycle depth_of
above-itself supers listed cycle = at (passes (λ j. depth_up (length supers) supers j == length supers) (range_with_len 0 (length supers)) cycle)
  where
    n : ℕ
    n = length supers

    settle : (k : ℕ) → k < n → depth_up n supers k ≡ n → StandsAboveItself supers ⊎ IsDistinct eqb (chain n supers k) → StandsAboveItself supers
    settle k inside whole (inl above) = above
    settle k inside whole (inr apart) =
        let few = length-le_from_distinct_below (chain n supers k) n apart (λ q e. inside-of q (chain-up n supers k q e)) in
        absurd (omega (arith, few, chain-length n supers k whole))
      where
        inside-of : (q : ℕ) → (m : ℕ) × (class_up m supers k ≡ Some q) → q < n
        inside-of q (m, there) = up-listed m supers k q listed inside there

    at : (i : ℕ) × (i < length (range_with_len 0 n)) × ((depth_up n supers (get_or (range_with_len 0 n) i 0) == n) ≡ true) → StandsAboveItself supers
    at (i, inside, is) =
        let len = length-range_with_len 0 n in
        let few : i < n = omega (arith, inside, len) in
        let same : (depth_up n supers i == n) ≡ true = subst (λ j. (depth_up n supers j == n) ≡ true) (in_range n i few) is in
        let whole : depth_up n supers i ≡ n = grind (arith, nat_tests, same) in
        settle i few whole (search n supers i whole)

-- ---- and back

depth-above : (n : ℕ) (supers : List (Option ℕ)) (k q : ℕ) → has_cycle supers ≡ false → class_up n supers k ≡ Some q → depth_of supers k ≡ n + depth_of supers q
depth-above zero supers k q none e = let same = ap (depth_of supers) (same_Some k q e) in omega (arith, same)
depth-above (suc n) supers k q none e = option_and_then_some (class_up n supers) (super_of supers k) q e (λ d up rest.
    let one = depth-step supers k d none (super-inside supers k d up) up in
    let more = depth-above n supers d q none rest in
    omega (arith, one, more))

pub endless-above : (supers : List (Option ℕ)) → StandsAboveItself supers → has_cycle supers ≡ true
endless-above supers above = at (has_cycle supers) refl
  where
    at : (b : Bool) → has_cycle supers ≡ b → b ≡ true
    at true e = refl
    at false e = let same = depth-above above.superclasses supers above.class above.class e above.again in absurd (omega (arith, same, above.some))
