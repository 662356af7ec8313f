-- Classes in their order.
use Rattle.std.proofs.Common.{◌≡◌, ◌<◌, ◌≤◌, ◌+◌, ◌⊎◌, inl, inr, ℕ, zero, suc, List, [], ◌∷◌, length, get_or, Option, Some, None, Bool, true, false, cond, slice_get, refl, sym, ap, ◌∙◌, arith}
use Rattle.std.specs.Prelude.{◌==◌, is_some, IfSome}
use Rattle.std.specs.Option.{option_map_or}
use Rattle.std.proofs.lemmas.Bool.Decides.{nat_tests}
use Rattle.std.proofs.lemmas.Option.{same_Some}
use Rattle.msg_names.proofs.TestLemmas.{same_number}
use Rattle.msg_names.specs.declared.value.ClassRef.{ClassRef}
use Rattle.msg_names.specs.ClassRef.{above}
use Rattle.msg_tables.specs.declared.presence.Presence.{Presence}
use Rattle.msg_tables.specs.After.{of_class}
use Rattle.msg_tables.specs.Chain.{presence_of, is_present, only_present, super_of, index_in, steps_of}
use Rattle.msg_tables.proofs.ChainLemmas.{Suffices}
use Rattle.msg_tables.specs.Order.{IsOrder, present_count}

-- the first place of a class is no later than any other
pub index_in-le : (order : List ℕ) (i k : ℕ) → slice_get order i ≡ Some k → index_in order k ≤ i
index_in-le [] i k e = cc
index_in-le (x ∷ xs) zero k e = let same : x ≡ k = same_Some x k e in step (x == k) refl same
  where
    step : (b : Bool) → (x == k) ≡ b → x ≡ k → cond b 0 (suc (index_in xs k)) ≤ 0
    step true t same = omega arith
    step false t same = absurd (grind (arith, nat_tests, t, same))
index_in-le (x ∷ xs) (suc i) k e = step (x == k) (index_in-le xs i k e)
  where
    step : (b : Bool) → index_in xs k ≤ i → cond b 0 (suc (index_in xs k)) ≤ suc i
    step true h = omega arith
    step false h = omega (arith, h)

-- and the class is there
pub index_in-at : (order : List ℕ) (i k : ℕ) → slice_get order i ≡ Some k → slice_get order (index_in order k) ≡ Some k
index_in-at [] i k e = cc
index_in-at (x ∷ xs) zero k e = let same : x ≡ k = same_Some x k e in step (x == k) refl
  where
    step : (b : Bool) → (x == k) ≡ b → slice_get (x ∷ xs) (cond b 0 (suc (index_in xs k))) ≡ Some k
    step true t = ap Some (same_number x k t)
    step false t = let same : x ≡ k = same_Some x k e in absurd (grind (arith, nat_tests, t, same))
index_in-at (x ∷ xs) (suc i) k e = step (x == k) refl (index_in-at xs i k e)
  where
    step : (b : Bool) → (x == k) ≡ b → slice_get xs (index_in xs k) ≡ Some k → slice_get (x ∷ xs) (cond b 0 (suc (index_in xs k))) ≡ Some k
    step true t h = ap Some (same_number x k t)
    step false t h = h

pub count-le : (xs : List (Option Presence)) → present_count xs ≤ length xs
count-le [] = omega arith
count-le (None ∷ xs) = omega (arith, count-le xs)
count-le (Some p ∷ xs) = omega (arith, count-le xs)

-- a class that is present has a number
pub present-inside : (supers : List (Option Presence)) (k : ℕ) → is_present supers k ≡ true → k < length supers
present-inside [] k e = cc
present-inside (x ∷ xs) zero e = omega arith
present-inside (x ∷ xs) (suc k) e = omega (arith, present-inside xs k e)

-- what is above a class reference that is present
pub super-is : (supers : List (Option Presence)) (c d : ClassRef) → super_of supers c ≡ Some d
    → ((p : Presence) × (presence_of supers c.class ≡ Some p) × (p.superclass ≡ Some d.class) × (d.meta ≡ c.meta)) ⊎ ((d ≡ of_class c.class) × (c.meta ≡ true) × (is_present supers c.class ≡ true))
super-is supers c d e = at (presence_of supers c.class) refl e
  where
    Answer : Type 0
    Answer = ((p : Presence) × (presence_of supers c.class ≡ Some p) × (p.superclass ≡ Some d.class) × (d.meta ≡ c.meta)) ⊎ ((d ≡ of_class c.class) × (c.meta ≡ true) × (is_present supers c.class ≡ true))

    root : (p : Presence) → presence_of supers c.class ≡ Some p → (b : Bool) → c.meta ≡ b → above c None ≡ Some d → Answer
    root p here true m e = let is : Some (of_class c.class) ≡ Some d = rw m at e in inr (sym (same_Some (of_class c.class) d is), m, ap is_some here)
    root p here false m e = let is : None ≡ Some d = rw m at e in cc

    listed : (p : Presence) → presence_of supers c.class ≡ Some p → (o : Option ℕ) → p.superclass ≡ o → above c o ≡ Some d → Answer
    listed p here None s e = root p here c.meta refl e
    listed p here (Some k) s e =
        let same = same_Some (record { class = k; meta = c.meta }) d e in
        inl (p, here, s ∙ ap (λ (x : ClassRef). Some x.class) same, sym (ap (λ (x : ClassRef). x.meta) same))

    at : (o : Option Presence) → presence_of supers c.class ≡ o → option_map_or (λ p. above c p.superclass) o None ≡ Some d → Answer
    at None here e = cc
    at (Some p) here e = listed p here p.superclass refl e

module _ (supers : List (Option Presence)) (order : List ℕ) (is : IsOrder supers order) where
  pub place-fewer : (k d : ℕ) (p : Presence) → presence_of supers k ≡ Some p → p.superclass ≡ Some d → index_in order d < index_in order k
  place-fewer k d p here up =
      let stands = is.whole k (ap is_some here) in
      let before = is.above (index_in order k) k d p (index_in-at order stands.at k stands.is) here up in
      omega (arith, index_in-le order before.at d before.is, before.before)

  -- a superclass is present
  pub super-present : (c d : ClassRef) → super_of supers c ≡ Some d → is_present supers d.class ≡ true
  super-present c d e = at (super-is supers c d e)
    where
      at : ((p : Presence) × (presence_of supers c.class ≡ Some p) × (p.superclass ≡ Some d.class) × (d.meta ≡ c.meta)) ⊎ ((d ≡ of_class c.class) × (c.meta ≡ true) × (is_present supers c.class ≡ true)) → is_present supers d.class ≡ true
      at (inl (p, here, up, m)) =
          let stands = is.whole c.class (ap is_some here) in
          let before = is.above stands.at c.class d.class p stands.is here up in
          is.present before.at d.class before.is
      at (inr (same, m, here)) = rw same here

  -- so the remaining steps grow fewer
  pub super-fewer : (c d : ClassRef) → super_of supers c ≡ Some d → steps_of order d < steps_of order c
  super-fewer c d e = at (super-is supers c d e)
    where
      earlier : (b : Bool) (k n : ℕ) → k < n → k + cond b 1 0 < n + cond b 1 0
      earlier true k n h = omega (arith, h)
      earlier false k n h = omega (arith, h)

      at : ((p : Presence) × (presence_of supers c.class ≡ Some p) × (p.superclass ≡ Some d.class) × (d.meta ≡ c.meta)) ⊎ ((d ≡ of_class c.class) × (c.meta ≡ true) × (is_present supers c.class ≡ true)) → steps_of order d < steps_of order c
      at (inl (p, here, up, same)) = rw same (earlier c.meta (index_in order d.class) (index_in order c.class) (place-fewer c.class d.class p here up))
      at (inr (same, meta, here)) = rw (same, meta) (omega arith)

  -- as many steps as there are class numbers are enough
  pub steps_suffice : (c : ClassRef) → is_present supers c.class ≡ true → steps_of order c ≤ length supers
  steps_suffice c here = at c.meta
    where
      few : index_in order c.class < length supers
      few = let stands = is.whole c.class here in omega (arith, index_in-le order stands.at c.class stands.is, stands.before, is.count, count-le supers)

      at : (b : Bool) → index_in order c.class + cond b 1 0 ≤ length supers
      at true = omega (arith, few)
      at false = omega (arith, few)

-- what is above a class reference, if anything is
pub above-listed : (supers : List (Option Presence)) (order : List ℕ) → IsOrder supers order → (c : ClassRef) (o : Option ClassRef) → o ≡ super_of supers c → IfSome o (λ d. d.class < length supers)
above-listed supers order is c None e = tt
above-listed supers order is c (Some d) e = present-inside supers d.class (super-present supers order is c d (sym e))

pub above-fewer : (supers : List (Option Presence)) (order : List ℕ) → IsOrder supers order → (c : ClassRef) (o : Option ClassRef) → o ≡ super_of supers c → IfSome o (λ d. steps_of order d < steps_of order c)
above-fewer supers order is c None e = tt
above-fewer supers order is c (Some d) e = super-fewer supers order is c d (sym e)

-- a place that was read
pub read-presence : (supers : List (Option Presence)) (k : ℕ) (p : Option Presence) → k < length supers → p ≡ get_or supers k p → p ≡ presence_of supers k
read-presence [] k p inside e = absurd (omega (arith, inside))
read-presence (x ∷ xs) zero p inside e = e
read-presence (x ∷ xs) (suc k) p inside e = read-presence xs k p (omega (arith, inside)) e

pub only_present-listed : (supers : List (Option Presence)) (c : ClassRef) (o : Option ClassRef) → o ≡ only_present supers c → c.class < length supers → IfSome o (λ d. d.class < length supers)
only_present-listed supers c None e inside = tt
only_present-listed supers c (Some d) e inside = at (is_present supers c.class) e
  where
    at : (b : Bool) → Some d ≡ cond b (Some c) None → d.class < length supers
    at true e = rw (same_Some d c e) inside
    at false e = cc

pub suffices : (order : List ℕ) (n : ℕ) (o : Option ClassRef) → IfSome o (λ c. steps_of order c ≤ n) → Suffices order n o
suffices order n None e = tt
suffices order n (Some c) e = e
