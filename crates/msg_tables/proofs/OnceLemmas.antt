-- Each class is in an order once.
use Rattle.std.proofs.Common.{◌≡◌, ◌<◌, ◌≤◌, ◌+◌, ◌++◌, ◌⊎◌, inl, inr, ℕ, zero, suc, List, [], ◌∷◌, length, Option, Some, None, Bool, true, false, take, drop, slice_get, length-append, refl, sym, ap, ◌∙◌, arith}
use Rattle.std.specs.Prelude.{◌==◌, ◌||◌, is_some, slice_set}
use Rattle.std.proofs.lemmas.Bool.{true≢false, or_cases, false_from_ne_true, cases_eq, cases_lt}
use Rattle.std.proofs.lemmas.List.{length-set, get_or-set_same, get_or-set_other}
use Rattle.std.proofs.lemmas.List.Folds.{list_any-append}
use Rattle.std.proofs.lemmas.Option.{same_Some, slice_get_within, get_or_from_slice_get}
use Rattle.std.proofs.Math.Seq.{split_at}
use Rattle.msg_names.proofs.TestLemmas.{same_number, equal}
use Rattle.msg_tables.specs.declared.presence.Presence.{Presence}
use Rattle.msg_tables.specs.Chain.{is_present}
use Rattle.msg_tables.specs.Order.{StandsBefore, IsOrder, present_count}
use Rattle.msg_tables.specs.Preorder.{is_in}
use Rattle.msg_tables.proofs.OrderLemmas.{present-inside}
use Rattle.msg_tables.proofs.PreorderLemmas.{in-order, later-in}

pub take-in : (order : List ℕ) (place j : ℕ) → is_in j (take place order) ≡ true → StandsBefore order place j
take-in order zero j e = cc
take-in [] (suc place) j e = cc
take-in (x ∷ order) (suc place) j e = at (or_cases (x == j) (is_in j (take place order)) e) (take-in order place j)
  where
    at : ((x == j) ≡ true) ⊎ (is_in j (take place order) ≡ true) → (is_in j (take place order) ≡ true → StandsBefore order place j) → StandsBefore (x ∷ order) (suc place) j
    at (inl h) rest = record { at = 0; before = omega arith; is = ap Some (same_number x j h) }
    at (inr h) rest = let s = rest h in record { at = suc s.at; before = omega (arith, s.before); is = s.is }

pub in-take : (order : List ℕ) (i place j : ℕ) → i < place → slice_get order i ≡ Some j → is_in j (take place order) ≡ true
in-take [] i place j less e = cc
in-take (x ∷ order) i zero j less e = absurd (omega (arith, less))
in-take (x ∷ order) zero (suc place) j less e = ap (λ n. n || is_in j (take place order)) (ap (λ z. x == z) (sym (same_Some x j e)) ∙ equal x)
in-take (x ∷ order) (suc i) (suc place) j less e = later-in j x (take place order) (in-take order i place j (omega (arith, less)) e)

-- ---- each class is in an order once

unset-count : (supers : List (Option Presence)) (k : ℕ) → present_count supers ≤ suc (present_count (slice_set supers k None))
unset-count [] k = omega arith
unset-count (None ∷ xs) zero = omega arith
unset-count (Some p ∷ xs) zero = omega arith
unset-count (None ∷ xs) (suc k) = let rest = unset-count xs k in omega (arith, rest)
unset-count (Some p ∷ xs) (suc k) = let rest = unset-count xs k in omega (arith, rest)

none-present : (supers : List (Option Presence)) → ((k : ℕ) → is_present supers k ≡ false) → present_count supers ≡ 0
none-present [] none = refl
none-present (None ∷ xs) none = let rest = none-present xs (λ k. none (suc k)) in omega (arith, rest)
none-present (Some p ∷ xs) none = let here : true ≡ false = none 0 in cc

-- a list that has all present classes is as long as their number
covered : (ks : List ℕ) (supers : List (Option Presence)) → ((k : ℕ) → is_present supers k ≡ true → is_in k ks ≡ true) → present_count supers ≤ length ks
covered [] supers all = let none = none-present supers (λ k. false_from_ne_true (is_present supers k) (λ e. true≢false (sym (all k e)))) in omega (arith, none)
covered (x ∷ ks) supers all =
    let rest = covered ks (slice_set supers x None) (λ k e. others k e) in
    let step = unset-count supers x in
    omega (arith, rest, step)
  where
    others : (k : ℕ) → is_present (slice_set supers x None) k ≡ true → is_in k ks ≡ true
    others k e = at (cases_eq k x)
      where
        at : (k ≡ x) ⊎ (k ≡ x → ⊥) → is_in k ks ≡ true
        at (inl same) = absurd (gone (cases_lt x (length supers)))
          where
            gone : (x < length supers) ⊎ (length supers ≤ x) → ⊥
            gone (inl inside) = true≢false (sym e ∙ ap (is_present (slice_set supers x None)) same ∙ ap is_some (get_or-set_same supers x None None inside))
            gone (inr outside) = let less = present-inside (slice_set supers x None) k e in let n = length-set supers x None in omega (arith, less, n, outside, same)
        at (inr other) =
            let kept : is_present supers k ≡ true = sym (ap is_some (get_or-set_other supers x k None None other)) ∙ e in
            pick (or_cases (x == k) (is_in k ks) (all k kept))
          where
            pick : ((x == k) ≡ true) ⊎ (is_in k ks ≡ true) → is_in k ks ≡ true
            pick (inl h) = absurd (other (sym (same_number x k h)))
            pick (inr h) = h

-- so what is at a place of an order isn't before it
pub once : (supers : List (Option Presence)) (order : List ℕ) → IsOrder supers order → (place k : ℕ) → slice_get order place ≡ Some k → is_in k (take place order) ≡ false
once supers order before place k at-place = false_from_ne_true (is_in k (take place order)) twice
  where
    inside : place < length order
    inside = slice_get_within order place k at-place

    rest : List ℕ
    rest = drop (suc place) order

    split : order ≡ take place order ++ k ∷ drop (suc place) order
    split = split_at order place 0 inside ∙ ap (λ z. take place order ++ z ∷ drop (suc place) order) (get_or_from_slice_get order place k 0 at-place)

    in-parts : (j : ℕ) → is_present supers j ≡ true → (is_in j (take place order) || ((k == j) || is_in j (drop (suc place) order))) ≡ true
    in-parts j there =
        let stands = before.whole j there in
        sym (list_any-append (λ x. x == j) (take place order) (k ∷ drop (suc place) order)) ∙ sym (ap (is_in j) split) ∙ in-order order stands.at j stands.is

    without : (j : ℕ) (a b : Bool) → (k == j) ≡ b → (b ≡ true → a ≡ true) → (c : Bool) → (a || (b || c)) ≡ true → (a || c) ≡ true
    without j true b t found c e = refl
    without j false true t found c e = let clash : false ≡ true = found refl in cc
    without j false false t found c e = e

    twice : is_in k (take place order) ≡ true → ⊥
    twice e =
        let few = covered (take place order ++ drop (suc place) order) supers (λ j there.
        list_any-append (λ x. x == j) (take place order) (drop (suc place) order)
        ∙ without j (is_in j (take place order)) (k == j) refl (λ t. ap (λ z. is_in z (take place order)) (sym (same_number k j t)) ∙ e) (is_in j (drop (suc place) order)) (in-parts j there)) in
        let whole : length order ≡ length (take place order) + suc (length (drop (suc place) order)) = ap length split ∙ length-append (take place order) (k ∷ drop (suc place) order) in
        omega (arith, few, whole, length-append (take place order) (drop (suc place) order), before.count)
