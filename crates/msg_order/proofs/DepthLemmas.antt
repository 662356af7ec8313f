-- The number of superclasses above a class.
use Rattle.std.proofs.Common.{◌≡◌, ◌<◌, ◌≤◌, ℕ, zero, suc, List, [], ◌∷◌, length, Option, Some, None, Bool, true, false, ◌||◌, slice_get, get_or, refl, sym, ap, ◌∙◌, zero-add, arith}
use Rattle.std.specs.Prelude.{◌==◌}
use Rattle.std.specs.List.{list_any, range_with_len}
use Rattle.std.specs.Option.{option_map_or}
use Rattle.std.proofs.lemmas.Bool.Decides.{nat_tests}
use Rattle.std.proofs.lemmas.List.FromFn.{length-range_with_len, get_or-range_with_len}
use Rattle.msg_order.specs.Order.{IsClassOrder}
use Rattle.msg_order.specs.Superclasses.{super_of, depth_up, depth_of, has_cycle}

-- ---- tests of a list

some-passes : {A : Type 0} (p : A → Bool) (xs : List A) (i : ℕ) (d : A) → i < length xs → p (get_or xs i d) ≡ true → list_any p xs ≡ true
some-passes p [] i d inside e = absurd (omega (arith, inside))
some-passes p (x ∷ xs) zero d inside e = ap (λ b. b || list_any p xs) e
some-passes p (x ∷ xs) (suc i) d inside e = ap (λ b. p x || b) (some-passes p xs i d (omega (arith, inside)) e) ∙ or-true (p x)
  where
    or-true : (b : Bool) → (b || true) ≡ true
    or-true true = refl
    or-true false = refl

none-passes : {A : Type 0} (p : A → Bool) (xs : List A) (d : A) → ((i : ℕ) → i < length xs → p (get_or xs i d) ≡ false) → list_any p xs ≡ false
none-passes p [] d none = refl
none-passes p (x ∷ xs) d none = ap (λ b. b || list_any p xs) (none 0 (omega arith)) ∙ none-passes p xs d (λ i inside. none (suc i) (omega (arith, inside)))

pub in_range : (n i : ℕ) → i < n → get_or (range_with_len 0 n) i 0 ≡ i
in_range n i few = get_or-range_with_len 0 n i 0 few ∙ zero-add i

-- ---- depths

-- no more superclasses are counted than the limit
pub depth-most : (n : ℕ) (supers : List (Option ℕ)) (k : ℕ) → depth_up n supers k ≤ n
depth-most zero supers k = omega arith
depth-most (suc n) supers k = at (super_of supers k) (depth-most n supers)
  where
    at : (o : Option ℕ) → ((d : ℕ) → depth_up n supers d ≤ n) → option_map_or (λ d. suc (depth_up n supers d)) o 0 ≤ suc n
    at None rest = omega arith
    at (Some d) rest = omega (arith, rest d)

-- in an order no more classes are above a class than before it
depth-place : (n : ℕ) (supers : List (Option ℕ)) (order : List ℕ) (place k : ℕ) → IsClassOrder supers order → slice_get order place ≡ Some k → depth_up n supers k ≤ place
depth-place zero supers order place k is at = omega arith
depth-place (suc n) supers order place k is at = up (super_of supers k) refl (λ p d e. depth-place n supers order p d is e)
  where
    up : (o : Option ℕ) → super_of supers k ≡ o → ((p d : ℕ) → slice_get order p ≡ Some d → depth_up n supers d ≤ p) → option_map_or (λ d. suc (depth_up n supers d)) o 0 ≤ place
    up None e rest = omega arith
    up (Some d) e rest = let before = is.above place k d at e in omega (arith, rest before.at d before.is, before.before)

-- ---- whether every chain ends

pub endless : (supers : List (Option ℕ)) (k : ℕ) → k < length supers → depth_up (length supers) supers k ≡ length supers → has_cycle supers ≡ true
unfolding has_cycle depth_of
endless supers k inside e =
    let n = length supers in
    let len = length-range_with_len 0 n in
    some-passes (λ j. depth_up n supers j == n) (range_with_len 0 n) k 0 (omega (arith, inside, len)) (ap (λ j. depth_up n supers j == n) (in_range n k inside) ∙ (let same : depth_up n supers k ≡ n = e in grind (arith, nat_tests, same)))

pub ordered-ends : (supers : List (Option ℕ)) (order : List ℕ) → IsClassOrder supers order → has_cycle supers ≡ false
unfolding has_cycle depth_of
ordered-ends supers order is =
    let n = length supers in
    let len = length-range_with_len 0 n in
    none-passes (λ j. depth_up n supers j == n) (range_with_len 0 n) 0 (λ i inside.
    let few : i < n = omega (arith, inside, len) in
    let stands = is.whole i few in
    let most = depth-place n supers order stands.at i is stands.is in
    let less : depth_up n supers i < n = omega (arith, most, stands.before, is.count) in
    ap (λ j. depth_up n supers j == n) (in_range n i few) ∙ grind (arith, nat_tests, less))

-- ---- if every chain ends

-- a depth that is less than the limit stays the same with a limit of one more
depth-stays : (n : ℕ) (supers : List (Option ℕ)) (k : ℕ) → depth_up n supers k < n → depth_up (suc n) supers k ≡ depth_up n supers k
depth-stays zero supers k few = absurd (omega (arith, few))
depth-stays (suc n) supers k few = at (super_of supers k) few (λ d less. depth-stays n supers d less)
  where
    at : (o : Option ℕ) → option_map_or (λ d. suc (depth_up n supers d)) o 0 < suc n → ((d : ℕ) → depth_up n supers d < n → depth_up (suc n) supers d ≡ depth_up n supers d)
        → option_map_or (λ d. suc (depth_up (suc n) supers d)) o 0 ≡ option_map_or (λ d. suc (depth_up n supers d)) o 0
    at None few rest = refl
    at (Some d) few rest = ap suc (rest d (omega (arith, few)))

-- then fewer superclasses are above a class than there are classes
pub depth-fewer : (supers : List (Option ℕ)) (k : ℕ) → has_cycle supers ≡ false → k < length supers → depth_of supers k < length supers
unfolding depth_of
depth-fewer supers k none inside = at (depth_up (length supers) supers k == length supers) refl
  where
    at : (b : Bool) → (depth_up (length supers) supers k == length supers) ≡ b → depth_up (length supers) supers k < length supers
    at true e =
        let whole : depth_up (length supers) supers k ≡ length supers = grind (arith, nat_tests, e) in
        let clash : true ≡ false = sym (endless supers k inside whole) ∙ none in
        cc
    at false e = let most = depth-most (length supers) supers k in grind (arith, nat_tests, e, most)

-- and a class has one more above it than its superclass
pub depth-step : (supers : List (Option ℕ)) (k d : ℕ) → has_cycle supers ≡ false → k < length supers → super_of supers k ≡ Some d → depth_of supers k ≡ suc (depth_of supers d)
unfolding depth_of
depth-step supers k d none inside up = at (length supers) (depth-fewer supers k none inside)
  where
    at : (n : ℕ) → depth_up n supers k < n → depth_up n supers k ≡ suc (depth_up n supers d)
    at zero few = absurd (omega (arith, few))
    at (suc n) few =
        let one : depth_up (suc n) supers k ≡ suc (depth_up n supers d) = ap (λ o. option_map_or (λ x. suc (depth_up n supers x)) o 0) up in
        let less : depth_up n supers d < n = omega (arith, one, few) in
        one ∙ ap suc (sym (depth-stays n supers d less))

pub depth-root : (supers : List (Option ℕ)) (k : ℕ) → super_of supers k ≡ None → depth_of supers k ≡ 0
unfolding depth_of
depth-root supers k up = at (length supers)
  where
    at : (n : ℕ) → depth_up n supers k ≡ 0
    at zero = refl
    at (suc n) = ap (λ o. option_map_or (λ d. suc (depth_up n supers d)) o 0) up

-- classes that come after their superclasses have no more above them than before them
pub depth-listed : (supers : List (Option ℕ)) → ((k d : ℕ) → super_of supers k ≡ Some d → d < k) → (n k : ℕ) → depth_up n supers k ≤ k
depth-listed supers before zero k = omega arith
depth-listed supers before (suc n) k = at (super_of supers k) refl (depth-listed supers before n)
  where
    at : (o : Option ℕ) → super_of supers k ≡ o → ((d : ℕ) → depth_up n supers d ≤ d) → option_map_or (λ d. suc (depth_up n supers d)) o 0 ≤ k
    at None e rest = omega arith
    at (Some d) e rest = omega (arith, before k d e, rest d)

pub listed-ends : (supers : List (Option ℕ)) → ((k d : ℕ) → super_of supers k ≡ Some d → d < k) → has_cycle supers ≡ false
unfolding has_cycle depth_of
listed-ends supers before =
    let n = length supers in
    let len = length-range_with_len 0 n in
    none-passes (λ j. depth_up n supers j == n) (range_with_len 0 n) 0 (λ i inside.
    let few : i < n = omega (arith, inside, len) in
    let less : depth_up n supers i < n = omega (arith, few, depth-listed supers before n i) in
    ap (λ j. depth_up n supers j == n) (in_range n i few) ∙ grind (arith, nat_tests, less))
