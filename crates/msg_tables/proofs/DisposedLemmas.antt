-- A class that is disposed of leaves the order of classes.
use Rattle.std.proofs.Common.{◌≡◌, ◌≢◌, ◌<◌, ◌+◌, ◌⊎◌, inl, inr, ℕ, zero, suc, List, [], ◌∷◌, length, take, drop, ◌++◌, Option, Some, None, Bool, true, false, slice_get, refl, sym, ap, ◌∙◌, subst, arith}
use Rattle.std.specs.Prelude.{◌==◌, ◌||◌, IfSome, is_some, slice_set}
use Rattle.std.proofs.lemmas.Option.{same_Some}
use Rattle.msg_names.proofs.TestLemmas.{equal, same_number, other_number}
use Rattle.msg_tables.specs.declared.presence.Presence.{Presence}
use Rattle.msg_tables.specs.Chain.{presence_of, is_present, has_subclass}
use Rattle.msg_tables.specs.Order.{StandsBefore, IsOrder, present_count}
use Rattle.msg_tables.specs.Preorder.{is_in}
use Rattle.msg_tables.proofs.ClassLemmas.{gone-other, gone-same, no_subclass}
use Rattle.msg_tables.proofs.OrderLemmas.{present-inside}
use Rattle.msg_tables.proofs.OnceLemmas.{in-take, once}

-- a list without the element at a place
abbrev pub without_at : ℕ → List ℕ → List ℕ
without_at at [] = []
without_at zero (x ∷ xs) = xs
without_at (suc at) (x ∷ xs) = x ∷ without_at at xs

-- where the element at a place was
skip : ℕ → ℕ → ℕ
skip zero p = suc p
skip (suc at) zero = zero
skip (suc at) (suc p) = suc (skip at p)

-- where the element is then
unskip : ℕ → ℕ → ℕ
unskip zero zero = zero
unskip zero (suc q) = q
unskip (suc at) zero = zero
unskip (suc at) (suc q) = suc (unskip at q)

get-without : (at : ℕ) (xs : List ℕ) (p : ℕ) → slice_get (without_at at xs) p ≡ slice_get xs (skip at p)
unfolding skip
get-without at [] p = refl
get-without zero (x ∷ xs) p = refl
get-without (suc at) (x ∷ xs) zero = refl
get-without (suc at) (x ∷ xs) (suc p) = get-without at xs p

skip-back : (at q : ℕ) → q ≢ at → skip at (unskip at q) ≡ q
unfolding skip unskip
skip-back zero zero ne = absurd (ne refl)
skip-back zero (suc q) ne = refl
skip-back (suc at) zero ne = refl
skip-back (suc at) (suc q) ne = ap suc (skip-back at q (λ same. ne (ap suc same)))

skip-apart : (at p : ℕ) → skip at p ≢ at
unfolding skip
skip-apart zero p same = absurd (omega (arith, same))
skip-apart (suc at) zero same = absurd (omega (arith, same))
skip-apart (suc at) (suc p) same = skip-apart at p (omega (arith, same))

unskip-less : (at q p : ℕ) → q ≢ at → q < skip at p → unskip at q < p
unfolding skip unskip
unskip-less zero zero p ne less = absurd (ne refl)
unskip-less zero (suc q) p ne less = omega (arith, less)
unskip-less (suc at) zero zero ne less = absurd (omega (arith, less))
unskip-less (suc at) zero (suc p) ne less = omega arith
unskip-less (suc at) (suc q) zero ne less = absurd (omega (arith, less))
unskip-less (suc at) (suc q) (suc p) ne less = let rest = unskip-less at q p (λ same. ne (ap suc same)) (omega (arith, less)) in omega (arith, rest)

unskip-within : (at q n : ℕ) → q ≢ at → at < suc n → q < suc n → unskip at q < n
unfolding unskip
unskip-within zero zero n ne a b = absurd (ne refl)
unskip-within zero (suc q) n ne a b = omega (arith, b)
unskip-within (suc at) zero n ne a b = omega (arith, a)
unskip-within (suc at) (suc q) zero ne a b = absurd (omega (arith, b))
unskip-within (suc at) (suc q) (suc n) ne a b = let rest = unskip-within at q n (λ same. ne (ap suc same)) (omega (arith, a)) (omega (arith, b)) in omega (arith, rest)

length-without_at : (at : ℕ) (xs : List ℕ) → at < length xs → suc (length (without_at at xs)) ≡ length xs
length-without_at at [] inside = absurd (omega (arith, inside))
length-without_at zero (x ∷ xs) inside = refl
length-without_at (suc at) (x ∷ xs) inside = ap suc (length-without_at at xs (omega (arith, inside)))

pub present_count-gone : (supers : List (Option Presence)) (k : ℕ) → is_present supers k ≡ true → suc (present_count (slice_set supers k None)) ≡ present_count supers
present_count-gone [] k there = cc
present_count-gone (None ∷ xs) zero there = cc
present_count-gone (Some p ∷ xs) zero there = omega arith
present_count-gone (None ∷ xs) (suc k) there = let rest = present_count-gone xs k there in omega (arith, rest)
present_count-gone (Some p ∷ xs) (suc k) there = let rest = present_count-gone xs k there in omega (arith, rest)

-- an element at a place is in the list, and an element of the list is at some place
in-at : (xs : List ℕ) (place k : ℕ) → slice_get xs place ≡ Some k → is_in k xs ≡ true
in-at [] place k e = cc
in-at (x ∷ xs) zero k e = ap (λ b. b || is_in k xs) (ap (λ y. x == y) (sym (same_Some x k e)) ∙ equal x)
in-at (x ∷ xs) (suc place) k e = step (x == k) (in-at xs place k e)
  where
    step : (b : Bool) → is_in k xs ≡ true → (b || is_in k xs) ≡ true
    step true there = refl
    step false there = there

pub stands-at : (xs : List ℕ) (k : ℕ) → is_in k xs ≡ true → (place : ℕ) × (slice_get xs place ≡ Some k)
stands-at [] k there = cc
stands-at (x ∷ xs) k there = step (x == k) refl there (λ rest. stands-at xs k rest)
  where
    step : (b : Bool) → (x == k) ≡ b → (b || is_in k xs) ≡ true → (is_in k xs ≡ true → (place : ℕ) × (slice_get xs place ≡ Some k)) → (place : ℕ) × (slice_get (x ∷ xs) place ≡ Some k)
    step true e there rest = (0, ap Some (same_number x k e))
    step false e there rest = let (place, at) = rest there in (suc place, at)

module _ (supers : List (Option Presence)) (order : List ℕ) (is : IsOrder supers order) (k : ℕ) (here : is_present supers k ≡ true) (leaf : has_subclass supers k ≡ false) where
  stands : StandsBefore order (length order) k
  stands = is.whole k here

  supers' : List (Option Presence)
  supers' = slice_set supers k None

  order' : List ℕ
  order' = without_at stands.at order

  -- it is at no other place
  alone : (place : ℕ) → slice_get order place ≡ Some k → place ≡ stands.at
  alone place e = at (either place stands.at)
    where
      either : (a b : ℕ) → ((a < b) ⊎ (b < a)) ⊎ (a ≡ b)
      either zero zero = inr refl
      either zero (suc b) = inl (inl (omega arith))
      either (suc a) zero = inl (inr (omega arith))
      either (suc a) (suc b) = more (either a b)
        where
          more : ((a < b) ⊎ (b < a)) ⊎ (a ≡ b) → ((suc a < suc b) ⊎ (suc b < suc a)) ⊎ (suc a ≡ suc b)
          more (inl (inl less)) = inl (inl (omega (arith, less)))
          more (inl (inr less)) = inl (inr (omega (arith, less)))
          more (inr same) = inr (ap suc same)

      at : ((place < stands.at) ⊎ (stands.at < place)) ⊎ (place ≡ stands.at) → place ≡ stands.at
      at (inr same) = same
      at (inl (inl less)) =
          let early = in-take order place stands.at k less e in
          let none = once supers order is stands.at k stands.is in
          let clash : true ≡ false = sym early ∙ none in cc
      at (inl (inr less)) =
          let early = in-take order stands.at place k less stands.is in
          let none = once supers order is place k e in
          let clash : true ≡ false = sym early ∙ none in cc

  other-place : (q j : ℕ) → slice_get order q ≡ Some j → j ≢ k → q ≢ stands.at
  other-place q j e ne same = ne (same_Some j k (sym e ∙ ap (slice_get order) same ∙ stands.is))

  still : (j : ℕ) → j ≢ k → is_present supers' j ≡ is_present supers j
  unfolding supers'
  still j ne = ap is_some (gone-other supers k j ne)

  pub disposed-order : IsOrder (slice_set supers k None) (without_at (is.whole k here).at order)
  unfolding stands supers' order'
  disposed-order = record {
    present = λ place j at. present place j (sym (get-without stands.at order place) ∙ at);
    above = λ place j d p at of up. above place j d p (sym (get-without stands.at order place) ∙ at) of up;
    whole = λ j there. whole j there (j == k) refl;
    count = counted;
  }
    where
      apart : (place j : ℕ) → slice_get order (skip stands.at place) ≡ Some j → j ≢ k
      apart place j at same = skip-apart stands.at place (alone (skip stands.at place) (at ∙ ap Some same))

      present : (place j : ℕ) → slice_get order (skip stands.at place) ≡ Some j → is_present supers' j ≡ true
      present place j at = still j (apart place j at) ∙ is.present (skip stands.at place) j at

      moved : (place q d : ℕ) → d ≢ k → q < skip stands.at place → slice_get order q ≡ Some d → StandsBefore order' place d
      moved place q d ne less at =
          let other = other-place q d at ne in
          record {
            at = unskip stands.at q;
            before = unskip-less stands.at q place other less;
            is = get-without stands.at order (unskip stands.at q) ∙ ap (slice_get order) (skip-back stands.at q other) ∙ at;
          }

      above : (place j d : ℕ) (p : Presence) → slice_get order (skip stands.at place) ≡ Some j → presence_of supers' j ≡ Some p → p.superclass ≡ Some d → StandsBefore order' place d
      above place j d p at of up =
          let was : presence_of supers j ≡ Some p = sym (gone-other supers k j (apart place j at)) ∙ of in
          let before = is.above (skip stands.at place) j d p at was up in
          moved place before.at d (no_subclass supers k leaf j d p was up) before.before before.is

      whole : (j : ℕ) → is_present supers' j ≡ true → (b : Bool) → (j == k) ≡ b → StandsBefore order' (length order') j
      whole j there true same =
          let gone : is_present supers' k ≡ true = subst (λ i. is_present supers' i ≡ true) (same_number j k same) there in
          let none : is_present supers' k ≡ false = ap is_some (gone-same supers k (present-inside supers k here)) in
          let clash : true ≡ false = sym gone ∙ none in cc
      whole j there false other =
          let ne = other_number j k other in
          let was = is.whole j (sym (still j ne) ∙ there) in
          let apart' = other-place was.at j was.is ne in
          let n = length-without_at stands.at order stands.before in
          let first = stands.before in
          let second = was.before in
          record {
            at = unskip stands.at was.at;
            before = unskip-within stands.at was.at (length order') apart' (omega (arith, n, first)) (omega (arith, n, second));
            is = get-without stands.at order (unskip stands.at was.at) ∙ ap (slice_get order) (skip-back stands.at was.at apart') ∙ was.is;
          }

      counted : length order' ≡ present_count supers'
      counted = let n = length-without_at stands.at order stands.before in let m = present_count-gone supers k here in let all = is.count in omega (arith, n, m, all)

  -- at whatever place it is found
  pub disposed-order-at : (place : ℕ) → slice_get order place ≡ Some k → IsOrder (slice_set supers k None) (without_at place order)
  unfolding stands
  disposed-order-at place there = subst (λ p. IsOrder (slice_set supers k None) (without_at p order)) (sym (alone place there)) disposed-order

  pub disposed-inside : (place : ℕ) → slice_get order place ≡ Some k → place < length order
  unfolding stands
  disposed-inside place there = let at = alone place there in let first = stands.before in omega (arith, at, first)

  -- its superclass is there
  pub superclass-there : (p : Presence) → presence_of supers k ≡ Some p → IfSome p.superclass (λ d. is_present supers d ≡ true)
  unfolding stands
  superclass-there p of = at p.superclass refl
    where
      at : (o : Option ℕ) → p.superclass ≡ o → IfSome o (λ d. is_present supers d ≡ true)
      at None e = tt
      at (Some d) e = let before = is.above stands.at k d p stands.is of e in is.present before.at d before.is

  pub disposed-in : is_in k order ≡ true
  unfolding stands
  disposed-in = in-at order stands.at k stands.is

-- what is left is what comes before and what comes after
pub without-parts : (at : ℕ) (xs : List ℕ) → take at xs ++ drop (at + 1) xs ≡ without_at at xs
without-parts zero [] = refl
without-parts zero (x ∷ xs) = refl
without-parts (suc at) [] = let e : suc at + 1 ≡ suc (at + 1) = omega arith in rw e refl
without-parts (suc at) (x ∷ xs) = let e : suc at + 1 ≡ suc (at + 1) = omega arith in rw e (ap (λ ys. x ∷ ys) (without-parts at xs))

-- it comes back
pub put-back-at : (at : ℕ) (xs : List ℕ) (k : ℕ) → slice_get xs at ≡ Some k → take at (without_at at xs) ++ k ∷ drop at (without_at at xs) ≡ xs
put-back-at at [] k e = cc
put-back-at zero (x ∷ xs) k e = ap (λ y. y ∷ xs) (sym (same_Some x k e))
put-back-at (suc at) (x ∷ xs) k e = ap (λ ys. x ∷ ys) (put-back-at at xs k e)
