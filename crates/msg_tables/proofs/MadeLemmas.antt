-- A class that is made goes last in the order of classes.
use Rattle.std.proofs.Common.{◌≡◌, ◌≢◌, ◌<◌, ◌≤◌, ◌+◌, ◌++◌, ◌⊎◌, inl, inr, ℕ, zero, suc, List, [], ◌∷◌, length, Option, Some, None, Bool, true, false, slice_get, refl, sym, ap, ◌∙◌, subst, arith}
use Rattle.std.specs.Prelude.{◌==◌, is_some, slice_set, IfSome}
use Rattle.std.proofs.lemmas.List.{length-append, get_or-set_same, get_or-set_other}
use Rattle.std.proofs.lemmas.Option.{same_Some}
use Rattle.msg_order.proofs.PlacingLemmas.{pushed-get, pushed-kept, pushed-last}
use Rattle.msg_names.proofs.TestLemmas.{same_number, other_number}
use Rattle.msg_tables.specs.declared.presence.Presence.{Presence}
use Rattle.msg_tables.specs.Chain.{presence_of, is_present}
use Rattle.msg_tables.specs.Order.{StandsBefore, IsOrder, present_count}
use Rattle.msg_tables.proofs.OrderLemmas.{count-le}

-- one more class is present
pub present_count-made : (supers : List (Option Presence)) (k : ℕ) (p : Presence) → k < length supers → is_present supers k ≡ false → present_count (slice_set supers k (Some p)) ≡ suc (present_count supers)
present_count-made [] k p inside absent = absurd (omega (arith, inside))
present_count-made (None ∷ xs) zero p inside absent = omega arith
present_count-made (Some q ∷ xs) zero p inside absent = cc
present_count-made (None ∷ xs) (suc k) p inside absent = let rest = present_count-made xs k p (omega (arith, inside)) absent in omega (arith, rest)
present_count-made (Some q ∷ xs) (suc k) p inside absent = let rest = present_count-made xs k p (omega (arith, inside)) absent in omega (arith, rest)

module _ (supers : List (Option Presence)) (order : List ℕ) (is : IsOrder supers order) (k : ℕ) (d : Option ℕ)
    (inside : k < length supers) (absent : is_present supers k ≡ false) (up : IfSome d (λ e. is_present supers e ≡ true)) where
  made : Presence
  made = record { superclass = d }

  supers' : List (Option Presence)
  supers' = slice_set supers k (Some made)

  here : presence_of supers' k ≡ Some made
  unfolding supers'
  here = get_or-set_same supers k (Some made) None inside

  elsewhere : (j : ℕ) → j ≢ k → presence_of supers' j ≡ presence_of supers j
  unfolding supers'
  elsewhere j ne = get_or-set_other supers k j (Some made) None ne

  apart : (j : ℕ) → is_present supers j ≡ true → j ≢ k
  apart j there same = let gone : is_present supers k ≡ true = subst (λ i. is_present supers i ≡ true) same there in cc

  stands-pushed : (place place' j : ℕ) → place ≤ place' → StandsBefore order place j → StandsBefore (order ++ k ∷ []) place' j
  stands-pushed place place' j le s = record { at = s.at; before = omega (arith, le, s.before); is = pushed-kept order k s.at j s.is }

  superclass_stands : (o : Option ℕ) (e : ℕ) → o ≡ Some e → IfSome o (λ e. is_present supers e ≡ true) → StandsBefore order (length order) e
  superclass_stands None e is' there = cc
  superclass_stands (Some f) e is' there = is.whole e (subst (λ i. is_present supers i ≡ true) (same_Some f e is') there)

  pub made-order : IsOrder (slice_set supers k (Some (record { superclass = d }))) (order ++ k ∷ [])
  unfolding supers' made
  made-order = record {
    present = λ place j at. present place j (pushed-get order k place j at);
    above = λ place j e q at of up'. above place j e q (pushed-get order k place j at) of up';
    whole = λ j there. whole j there (j == k) refl;
    count = length-append order (k ∷ []) ∙ counted;
  }
    where
      counted : length order + 1 ≡ present_count (slice_set supers k (Some made))
      counted = let grown = present_count-made supers k made inside absent in omega (arith, grown, is.count)

      present : (place j : ℕ) → (slice_get order place ≡ Some j) ⊎ ((place ≡ length order) × (k ≡ j)) → is_present supers' j ≡ true
      present place j (inl at) = let there = is.present place j at in ap is_some (elsewhere j (apart j there)) ∙ there
      present place j (inr (at, same)) = subst (λ i. is_present supers' i ≡ true) same (ap is_some here)

      above : (place j e : ℕ) (q : Presence) → (slice_get order place ≡ Some j) ⊎ ((place ≡ length order) × (k ≡ j)) → presence_of supers' j ≡ Some q → q.superclass ≡ Some e → StandsBefore (order ++ k ∷ []) place e
      above place j e q (inl at) of up' = stands-pushed place place e (omega arith) (is.above place j e q at (sym (elsewhere j (apart j (is.present place j at))) ∙ of) up')
      above place j e q (inr (at, same)) of up' =
          let of_k : presence_of supers' k ≡ Some q = subst (λ i. presence_of supers' i ≡ Some q) (sym same) of in
          let is_made : made ≡ q = same_Some made q (sym here ∙ of_k) in
          let superclass : d ≡ Some e = ap (λ (x : Presence). x.superclass) is_made ∙ up' in
          stands-pushed (length order) place e (omega (arith, at)) (superclass_stands d e superclass up)

      whole : (j : ℕ) → is_present supers' j ≡ true → (b : Bool) → (j == k) ≡ b → StandsBefore (order ++ k ∷ []) (length (order ++ k ∷ [])) j
      whole j there true same =
          record { at = length order; before = let n = length-append order (k ∷ []) in omega (arith, n); is = pushed-last order k ∙ ap Some (sym (same_number j k same)) }
      whole j there false other =
          let n = length-append order (k ∷ []) in
          stands-pushed (length order) (length (order ++ k ∷ [])) j (omega (arith, n)) (is.whole j (sym (ap is_some (elsewhere j (other_number j k other))) ∙ there))

-- there is room for one more, if one isn't present
absent-fewer : (supers : List (Option Presence)) (k : ℕ) → k < length supers → is_present supers k ≡ false → present_count supers < length supers
absent-fewer [] k inside absent = absurd (omega (arith, inside))
absent-fewer (None ∷ xs) zero inside absent = let few = count-le xs in omega (arith, few)
absent-fewer (Some p ∷ xs) zero inside absent = cc
absent-fewer (None ∷ xs) (suc k) inside absent = let few = absent-fewer xs k (omega (arith, inside)) absent in omega (arith, few)
absent-fewer (Some p ∷ xs) (suc k) inside absent = let few = absent-fewer xs k (omega (arith, inside)) absent in omega (arith, few)

pub order-room : (supers : List (Option Presence)) (order : List ℕ) (k : ℕ) → IsOrder supers order → k < length supers → is_present supers k ≡ false → length order < length supers
order-room supers order k is inside absent = let few = absent-fewer supers k inside absent in omega (arith, few, is.count)
