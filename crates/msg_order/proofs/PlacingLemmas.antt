-- Classes that are put in order.
use Rattle.std.proofs.Common.{◌≡◌, ◌≢◌, ◌<◌, ◌≤◌, ◌+◌, ◌⊎◌, inl, inr, ℕ, zero, suc, List, [], ◌∷◌, ◌++◌, length, Option, Some, None, Bool, true, false, slice_get, refl, sym, ap, ◌∙◌, subst, arith}
use Rattle.std.specs.Prelude.{◌==◌, slice_index_or, slice_set, replicate, IfSome}
use Rattle.std.proofs.lemmas.Bool.Decides.{nat_tests}
use Rattle.std.proofs.lemmas.List.{length-append, length-replicate, length-set, get_or-set_same, get_or-set_other}
use Rattle.std.proofs.lemmas.Option.{same_Some}
use Rattle.msg_order.specs.Order.{StandsBefore, mark_count, ArePlaced, IsClassOrder}
use Rattle.msg_order.specs.Superclasses.{super_of}

-- what is in a list that grew by one at its end
pub pushed-get : (xs : List ℕ) (x i j : ℕ) → slice_get (xs ++ x ∷ []) i ≡ Some j → (slice_get xs i ≡ Some j) ⊎ ((i ≡ length xs) × (x ≡ j))
pushed-get [] x zero j e = inr (refl, same_Some x j e)
pushed-get [] x (suc i) j e = inl e
pushed-get (y ∷ xs) x zero j e = inl e
pushed-get (y ∷ xs) x (suc i) j e = step (pushed-get xs x i j e)
  where
    step : (slice_get xs i ≡ Some j) ⊎ ((i ≡ length xs) × (x ≡ j)) → (slice_get (y ∷ xs) (suc i) ≡ Some j) ⊎ ((suc i ≡ length (y ∷ xs)) × (x ≡ j))
    step (inl h) = inl h
    step (inr (at, same)) = inr (omega (arith, at), same)

pub pushed-kept : (xs : List ℕ) (x i j : ℕ) → slice_get xs i ≡ Some j → slice_get (xs ++ x ∷ []) i ≡ Some j
pushed-kept [] x i j e = cc
pushed-kept (y ∷ xs) x zero j e = e
pushed-kept (y ∷ xs) x (suc i) j e = pushed-kept xs x i j e

pub pushed-last : (xs : List ℕ) (x : ℕ) → slice_get (xs ++ x ∷ []) (length xs) ≡ Some x
pushed-last [] x = refl
pushed-last (y ∷ xs) x = pushed-last xs x

-- ---- marks

none-marked : (n k : ℕ) → slice_index_or (replicate n false) k false ≡ true → ⊥
none-marked zero k e = cc
none-marked (suc n) zero e = cc
none-marked (suc n) (suc k) e = none-marked n k e

none-counted : (n : ℕ) → mark_count (replicate n false) ≡ 0
none-counted zero = refl
none-counted (suc n) = let rest = none-counted n in omega (arith, rest)

one-more : (marks : List Bool) (k : ℕ) → k < length marks → slice_index_or marks k false ≡ false → mark_count (slice_set marks k true) ≡ suc (mark_count marks)
one-more [] k inside e = absurd (omega (arith, inside))
one-more (true ∷ bs) zero inside e = cc
one-more (false ∷ bs) zero inside e = omega arith
one-more (b ∷ bs) (suc k) inside e = let rest = one-more bs k (omega (arith, inside)) e in omega (arith, rest)

all-counted : (marks : List Bool) → ((k : ℕ) → k < length marks → slice_index_or marks k false ≡ true) → mark_count marks ≡ length marks
all-counted [] all = refl
all-counted (false ∷ bs) all = let first = all 0 (omega arith) in cc
all-counted (true ∷ bs) all = let rest = all-counted bs (λ k inside. all (suc k) (omega (arith, inside))) in omega (arith, rest)

marked-inside : (marks : List Bool) (k : ℕ) → slice_index_or marks k false ≡ true → k < length marks
marked-inside [] k e = cc
marked-inside (b ∷ bs) zero e = omega arith
marked-inside (b ∷ bs) (suc k) e = let rest = marked-inside bs k e in omega (arith, rest)

-- ---- the order

pub placed-none : (supers : List (Option ℕ)) (marks : List Bool) (order : List ℕ) → marks ≡ replicate (length supers) false → order ≡ [] → ArePlaced supers marks order
placed-none supers marks order are none = subst (ArePlaced supers marks) (sym none) (subst (λ ms. ArePlaced supers ms []) (sym are) (record {
  sizes = length-replicate (length supers) false;
  marked = λ place k e. cc;
  above = λ place k d e up. cc;
  whole = λ k e. absurd (none-marked (length supers) k e);
  count = sym (none-counted (length supers));
}))

module _ (supers : List (Option ℕ)) (marks : List Bool) (order : List ℕ) (k : ℕ) (placed : ArePlaced supers marks order)
    (inside : k < length supers) (unmarked : slice_index_or marks k false ≡ false) (up : IfSome (super_of supers k) (λ d. slice_index_or marks d false ≡ true)) where
  here : slice_index_or (slice_set marks k true) k false ≡ true
  here = get_or-set_same marks k true false (omega (arith, inside, placed.sizes))

  elsewhere : (j : ℕ) → j ≢ k → slice_index_or (slice_set marks k true) j false ≡ slice_index_or marks j false
  elsewhere j ne = get_or-set_other marks k j true false ne

  apart : (j : ℕ) → slice_index_or marks j false ≡ true → j ≢ k
  apart j there same = let gone : slice_index_or marks k false ≡ true = subst (λ i. slice_index_or marks i false ≡ true) same there in let clash : true ≡ false = sym gone ∙ unmarked in cc

  stands-pushed : (place place' j : ℕ) → place ≤ place' → StandsBefore order place j → StandsBefore (order ++ k ∷ []) place' j
  stands-pushed place place' j le s = record { at = s.at; before = omega (arith, le, s.before); is = pushed-kept order k s.at j s.is }

  superclass_stands : (o : Option ℕ) (e : ℕ) → o ≡ Some e → IfSome o (λ d. slice_index_or marks d false ≡ true) → StandsBefore order (length order) e
  superclass_stands None e is there = cc
  superclass_stands (Some f) e is there = placed.whole e (subst (λ i. slice_index_or marks i false ≡ true) (same_Some f e is) there)

  pub placed-more : ArePlaced supers (slice_set marks k true) (order ++ k ∷ [])
  placed-more = record {
    sizes = length-set marks k true ∙ placed.sizes;
    marked = λ place j at. marked place j (pushed-get order k place j at);
    above = λ place j e at up'. above place j e (pushed-get order k place j at) up';
    whole = λ j there. whole j there (j == k) refl;
    count = length-append order (k ∷ []) ∙ counted;
  }
    where
      counted : length order + 1 ≡ mark_count (slice_set marks k true)
      counted = let grown = one-more marks k (omega (arith, inside, placed.sizes)) unmarked in omega (arith, grown, placed.count)

      marked : (place j : ℕ) → (slice_get order place ≡ Some j) ⊎ ((place ≡ length order) × (k ≡ j)) → slice_index_or (slice_set marks k true) j false ≡ true
      marked place j (inl at) = let there = placed.marked place j at in elsewhere j (apart j there) ∙ there
      marked place j (inr (at, same)) = subst (λ i. slice_index_or (slice_set marks k true) i false ≡ true) same here

      above : (place j e : ℕ) → (slice_get order place ≡ Some j) ⊎ ((place ≡ length order) × (k ≡ j)) → super_of supers j ≡ Some e → StandsBefore (order ++ k ∷ []) place e
      above place j e (inl at) up' = stands-pushed place place e (omega arith) (placed.above place j e at up')
      above place j e (inr (at, same)) up' = stands-pushed (length order) place e (omega (arith, at)) (superclass_stands (super_of supers k) e (ap (super_of supers) same ∙ up') up)

      whole : (j : ℕ) → slice_index_or (slice_set marks k true) j false ≡ true → (b : Bool) → (j == k) ≡ b → StandsBefore (order ++ k ∷ []) (length (order ++ k ∷ [])) j
      whole j there true same =
          let is : j ≡ k = grind (arith, nat_tests, same) in
          record { at = length order; before = let n = length-append order (k ∷ []) in omega (arith, n); is = pushed-last order k ∙ ap Some (sym is) }
      whole j there false other =
          let n = length-append order (k ∷ []) in
          stands-pushed (length order) (length (order ++ k ∷ [])) j (omega (arith, n)) (placed.whole j (sym (elsewhere j (λ same. grind (arith, nat_tests, other, same))) ∙ there))

-- all are placed
pub order-whole : (supers : List (Option ℕ)) (marks : List Bool) (order : List ℕ) → ArePlaced supers marks order → ((k : ℕ) → k < length supers → slice_index_or marks k false ≡ true) → IsClassOrder supers order
order-whole supers marks order placed all = record {
  listed = λ place k at. let few = marked-inside marks k (placed.marked place k at) in omega (arith, few, placed.sizes);
  above = placed.above;
  whole = λ k inside. placed.whole k (all k inside);
  count = placed.count ∙ all-counted marks (λ k inside. all k (omega (arith, inside, placed.sizes))) ∙ placed.sizes;
}
