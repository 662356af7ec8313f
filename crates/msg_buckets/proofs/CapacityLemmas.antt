-- Capacities: each of the nine.
use Rattle.std.proofs.Common.{◌≡◌, ℕ, ◌*◌, ◌^◌, ◌<◌, ◌≤◌, Bool, true, List, [], ◌∷◌, refl, sym, ◌∙◌, arith, get_or, ◌⊎◌, inl, inr, min, max}
use Rattle.std.specs.Prelude.{◌==◌, ◌&&◌, ◌||◌, nat_le, All, Any}
use Rattle.std.specs.List.{list_any, list_all}
use Rattle.std.proofs.lemmas.Bool.{agree_below_at, eqb-true, and_parts, or_cases, leb-true, ne_eqb}
use Rattle.std.proofs.lemmas.List.Folds.{Any-from_list_any}
use Rattle.std.proofs.lemmas.Grind.{get_or_default_zero}
use Rattle.std.proofs.lemmas.List.{get_or_read}
use Rattle.msg_buckets.specs.declared.capacity.TheConstants.{MAX_CAPACITY, MIN_CAPACITY}
use Rattle.msg_buckets.specs.Capacity.{is_capacity, IsCapacity, capacities, next_capacity}

among : (p : ℕ → Bool) (xs : List ℕ) (n : ℕ) → list_all p xs ≡ true → list_any (λ c. c == n) xs ≡ true → p n ≡ true
among p [] n all any = cc
among p (x ∷ xs) n all any =
    let here = and_parts (p x) (list_all p xs) all in
    elim (or_cases (x == n) (list_any (λ c. c == n) xs) any) [
      | inl same ↦ rw (← eqb-true x n same) here.0
      | inr later ↦ among p xs n here.1 later
    ]

-- a test that each of the nine passes
pub capacity_passes : (p : ℕ → Bool) → list_all p capacities ≡ true → (n : ℕ) → IsCapacity n → p n ≡ true
capacity_passes p all n h = among p capacities n all h

pub capacity_bounds : (n : ℕ) → IsCapacity n → (MIN_CAPACITY ≤ n) × (n ≤ MAX_CAPACITY)
capacity_bounds n h =
    let both = and_parts (nat_le MIN_CAPACITY n) (nat_le n MAX_CAPACITY) (capacity_passes (λ c. nat_le MIN_CAPACITY c && nat_le c MAX_CAPACITY) refl n h) in
    (leb-true MIN_CAPACITY n both.0, leb-true n MAX_CAPACITY both.1)

pub next_is_capacity : (n : ℕ) → IsCapacity n → IsCapacity (next_capacity n)
next_is_capacity n h = capacity_passes (λ c. is_capacity (next_capacity c)) refl n h

pub next_is_twice : (n : ℕ) → IsCapacity n → n < MAX_CAPACITY → next_capacity n ≡ n * 2
next_is_twice n h less =
    elim (or_cases (n == MAX_CAPACITY) (next_capacity n == n * 2) (capacity_passes (λ c. c == MAX_CAPACITY || next_capacity c == c * 2) refl n h)) [
      | inl last ↦ absurd (omega (arith, eqb-true n MAX_CAPACITY last))
      | inr twice ↦ eqb-true (next_capacity n) (n * 2) twice
    ]

pub power_is_capacity : (k : ℕ) → k < 9 → IsCapacity (4 * 2 ^ k)
power_is_capacity k h = agree_below_at (λ j. is_capacity (4 * 2 ^ j)) (λ _. true) 9 k refl h

pub listed_is_capacity : All IsCapacity capacities
listed_is_capacity k d h = rw (get_or_default_zero capacities k d h) (agree_below_at (λ j. is_capacity (get_or capacities j 0)) (λ _. true) 9 k refl h)

capacity_at : (k : ℕ) → k < 9 → get_or capacities k 0 ≡ 4 * 2 ^ k
capacity_at k h = eqb-true (get_or capacities k 0) (4 * 2 ^ k) (agree_below_at (λ j. get_or capacities j 0 == 4 * 2 ^ j) (λ _. true) 9 k refl h)

pub capacity_is_power : (n : ℕ) → IsCapacity n → (k : ℕ) × (k < 9) × (n ≡ 4 * 2 ^ k)
capacity_is_power n h =
    let any : Any (λ c. (c == n) ≡ true) capacities = Any-from_list_any (λ c. c == n) capacities h in
    (any.0, any.2, sym (eqb-true any.1 n any.4) ∙ get_or_read capacities any.0 any.1 any.2 (sym any.3) 0 ∙ capacity_at any.0 any.2)

pub none_or_small : (n : ℕ) → (n ≡ 0) ⊎ IsCapacity n → n ≤ MAX_CAPACITY
none_or_small n h = elim h [ inl none ↦ omega (arith, none) | inr some ↦ (capacity_bounds n some).1 ]

pub taken_is_capacity : (n : ℕ) → (n ≡ 0) ⊎ IsCapacity n → IsCapacity (next_capacity n)
taken_is_capacity n h = elim h [ inl none ↦ rw none refl | inr some ↦ next_is_capacity n some ]

pub clamp_is_next : (n : ℕ) → (n ≡ 0) ⊎ IsCapacity n → max MIN_CAPACITY (min (n * 2) MAX_CAPACITY) ≡ next_capacity n
clamp_is_next n h =
    elim h [
      | inl none ↦ rw none refl
      | inr some ↦
          let low : MIN_CAPACITY ≤ n = (capacity_bounds n some).0 in
          rw (ne_eqb n 0 (λ e. absurd (omega arith))) (omega arith)
    ]
