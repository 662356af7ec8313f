-- Classes in an order in which those below a class come right after it.
use Rattle.std.proofs.Common.{◌≡◌, ◌≢◌, ◌<◌, ◌≤◌, ◌⊎◌, inl, inr, ℕ, zero, suc, List, [], ◌∷◌, length, Option, Some, None, Bool, true, false, cond, slice_get, refl, sym, ap, ◌∙◌, subst, arith}
use Rattle.std.specs.Prelude.{◌==◌, ◌||◌, nat_lt, slice_index_or}
use Rattle.std.proofs.lemmas.Bool.{true≢false, or_cases, or_from, or_parts, or_left, or_right, false_from_ne_true}
use Rattle.std.proofs.lemmas.Bool.Decides.{nat_tests}
use Rattle.std.proofs.lemmas.Option.{same_Some}
use Rattle.msg_names.proofs.TestLemmas.{same_number, other_number, equal}
use Rattle.msg_tables.specs.declared.presence.Presence.{Presence}
use Rattle.msg_tables.specs.After.{of_class}
use Rattle.msg_tables.specs.Chain.{descends}
use Rattle.msg_tables.specs.Preorder.{is_in, deeper, first_depth, IsFollowed, AreFollowed, next_in, AreLinked}

-- ---- lists of classes

pub first-in : (k : ℕ) (ks : List ℕ) → is_in k (k ∷ ks) ≡ true
first-in k ks = or_left (k == k) (is_in k ks) (equal k)

pub later-in : (j k : ℕ) (ks : List ℕ) → is_in j ks ≡ true → is_in j (k ∷ ks) ≡ true
later-in j k ks e = or_right (k == j) (is_in j ks) e

-- two numbers differ if a list has just one of them
pub apart-in : (j k : ℕ) (ks : List ℕ) → is_in j ks ≡ true → is_in k ks ≡ false → j ≢ k
apart-in j k ks e f same = true≢false (sym e ∙ ap (λ n. is_in n ks) same ∙ f)

pub unlike : (j k : ℕ) → j ≢ k → (j == k) ≡ false
unlike j k ne = false_from_ne_true (j == k) (λ e. ne (same_number j k e))

-- what is at a place
pub element-at : (xs : List ℕ) (i : ℕ) → i < length xs → slice_get xs i ≡ Some (slice_index_or xs i 0)
element-at [] i inside = absurd (omega (arith, inside))
element-at (x ∷ xs) zero inside = refl
element-at (x ∷ xs) (suc i) inside = element-at xs i (omega (arith, inside))

pub in-order : (order : List ℕ) (i j : ℕ) → slice_get order i ≡ Some j → is_in j order ≡ true
in-order [] i j e = cc
in-order (x ∷ order) zero j e = ap (λ n. n || is_in j order) (ap (λ z. x == z) (sym (same_Some x j e)) ∙ equal x)
in-order (x ∷ order) (suc i) j e = later-in j x order (in-order order i j e)

-- a class goes right after another
abbrev pub placed : ℕ → ℕ → List ℕ → List ℕ
placed s n [] = []
placed s n (k ∷ ks) = cond (k == s) (k ∷ n ∷ ks) (k ∷ placed s n ks)

or-assoc : (a b c : Bool) → (a || (b || c)) ≡ ((a || b) || c)
or-assoc true b c = refl
or-assoc false b c = refl

or-swap : (a b c : Bool) → (a || (b || c)) ≡ ((a || c) || b)
or-swap true b c = refl
or-swap false true true = refl
or-swap false true false = refl
or-swap false false true = refl
or-swap false false false = refl

pub placed-in : (s n j : ℕ) (ks : List ℕ) → is_in j (placed s n ks) ≡ (is_in j ks || cond (is_in s ks) (n == j) false)
placed-in s n j [] = refl
placed-in s n j (k ∷ ks) = at (k == s) (placed-in s n j ks)
  where
    at : (b : Bool) → is_in j (placed s n ks) ≡ (is_in j ks || cond (is_in s ks) (n == j) false)
        → is_in j (cond b (k ∷ n ∷ ks) (k ∷ placed s n ks)) ≡ (((k == j) || is_in j ks) || cond (b || is_in s ks) (n == j) false)
    at true rest = or-swap (k == j) (n == j) (is_in j ks)
    at false rest = ap (λ b. (k == j) || b) rest ∙ or-assoc (k == j) (is_in j ks) (cond (is_in s ks) (n == j) false)

pub placed-length : (s n : ℕ) (ks : List ℕ) → is_in s ks ≡ true → length (placed s n ks) ≡ suc (length ks)
placed-length s n [] e = cc
placed-length s n (k ∷ ks) e = at (k == s) e (placed-length s n ks)
  where
    at : (b : Bool) → (b || is_in s ks) ≡ true → (is_in s ks ≡ true → length (placed s n ks) ≡ suc (length ks)) → length (cond b (k ∷ n ∷ ks) (k ∷ placed s n ks)) ≡ suc (length (k ∷ ks))
    at true e rest = omega arith
    at false e rest = let more = rest e in omega (arith, more)

-- the first stays the first
pub placed-first : (f : ℕ → ℕ) (s n : ℕ) (ks : List ℕ) → first_depth f (placed s n ks) ≡ first_depth f ks
placed-first f s n [] = refl
placed-first f s n (k ∷ ks) = at (k == s)
  where
    at : (b : Bool) → first_depth f (cond b (k ∷ n ∷ ks) (k ∷ placed s n ks)) ≡ f k
    at true = refl
    at false = refl

-- ---- the deeper ones

pub in-deeper : (f : ℕ → ℕ) (d j : ℕ) (ks : List ℕ) → is_in j (deeper f d ks) ≡ true → is_in j ks ≡ true
in-deeper f d j [] e = cc
in-deeper f d j (k ∷ ks) e = at (nat_lt d (f k)) e (in-deeper f d j ks)
  where
    at : (b : Bool) → is_in j (cond b (k ∷ deeper f d ks) []) ≡ true → (is_in j (deeper f d ks) ≡ true → is_in j ks ≡ true) → is_in j (k ∷ ks) ≡ true
    at false e rest = cc
    at true e rest = both (or_cases (k == j) (is_in j (deeper f d ks)) e)
      where
        both : ((k == j) ≡ true) ⊎ (is_in j (deeper f d ks) ≡ true) → is_in j (k ∷ ks) ≡ true
        both (inl h) = or_left (k == j) (is_in j ks) h
        both (inr h) = or_right (k == j) (is_in j ks) (rest h)

-- what isn't in a list isn't among its deeper ones
pub out-deeper : (f : ℕ → ℕ) (d j : ℕ) (ks : List ℕ) → is_in j ks ≡ false → is_in j (deeper f d ks) ≡ false
out-deeper f d j ks e = false_from_ne_true (is_in j (deeper f d ks)) (λ h. true≢false (sym (in-deeper f d j ks h) ∙ e))

pub deeper-none : (f : ℕ → ℕ) (d : ℕ) (ks : List ℕ) → first_depth f ks ≤ d → deeper f d ks ≡ []
deeper-none f d [] few = refl
deeper-none f d (k ∷ ks) few =
    let test : nat_lt d (f k) ≡ false = grind (arith, nat_tests) in
    rw test refl

-- depths that agree on a list
pub deeper-same : (f g : ℕ → ℕ) (d : ℕ) (ks : List ℕ) → ((k : ℕ) → is_in k ks ≡ true → f k ≡ g k) → deeper f d ks ≡ deeper g d ks
deeper-same f g d [] same = refl
deeper-same f g d (k ∷ ks) same =
    let here : f k ≡ g k = same k (first-in k ks) in
    let rest : deeper f d ks ≡ deeper g d ks = deeper-same f g d ks (λ j e. same j (later-in j k ks e)) in
    ap (λ n. cond (nat_lt d n) (k ∷ deeper f d ks) []) here ∙ ap (λ js. cond (nat_lt d (g k)) (k ∷ js) []) rest

pub first-same : (f g : ℕ → ℕ) (ks : List ℕ) → ((k : ℕ) → is_in k ks ≡ true → f k ≡ g k) → first_depth f ks ≡ first_depth g ks
first-same f g [] same = refl
first-same f g (k ∷ ks) same = same k (first-in k ks)

-- a class that is placed right after another, and is one deeper, is among the deeper ones if the
-- other is
pub deeper-placed : (f : ℕ → ℕ) (s n d j : ℕ) (ks : List ℕ) → f n ≡ suc (f s) → is_in j (deeper f d (placed s n ks)) ≡ (is_in j (deeper f d ks) || cond (is_in s (deeper f d ks)) (n == j) false)
deeper-placed f s n d j [] one = refl
deeper-placed f s n d j (k ∷ ks) one = at (k == s) refl (deeper-placed f s n d j ks one)
  where
    Rest : Type 0
    Rest = is_in j (deeper f d (placed s n ks)) ≡ (is_in j (deeper f d ks) || cond (is_in s (deeper f d ks)) (n == j) false)

    other : (c : Bool) → (k == s) ≡ false → Rest → is_in j (cond c (k ∷ deeper f d (placed s n ks)) []) ≡ (is_in j (cond c (k ∷ deeper f d ks) []) || cond (is_in s (cond c (k ∷ deeper f d ks) [])) (n == j) false)
    other false e rest = refl
    other true e rest = rw e (ap (λ b. (k == j) || b) rest ∙ or-assoc (k == j) (is_in j (deeper f d ks)) (cond (is_in s (deeper f d ks)) (n == j) false))

    itself : (c : Bool) → nat_lt d (f k) ≡ c → (k == s) ≡ true → is_in j (cond c (k ∷ deeper f d (n ∷ ks)) []) ≡ (is_in j (cond c (k ∷ deeper f d ks) []) || cond (is_in s (cond c (k ∷ deeper f d ks) [])) (n == j) false)
    itself false t e = refl
    itself true t e =
        let same : k ≡ s = same_number k s e in
        let deep : f n ≡ suc (f k) = one ∙ ap (λ i. suc (f i)) (sym same) in
        let test : nat_lt d (f n) ≡ true = grind (arith, nat_tests) in
        rw (e, test) (or-swap (k == j) (n == j) (is_in j (deeper f d ks)))

    at : (b : Bool) → (k == s) ≡ b → Rest → is_in j (deeper f d (cond b (k ∷ n ∷ ks) (k ∷ placed s n ks))) ≡ (is_in j (deeper f d (k ∷ ks)) || cond (is_in s (deeper f d (k ∷ ks))) (n == j) false)
    at true e rest = itself (nat_lt d (f k)) refl e
    at false e rest = other (nat_lt d (f k)) e rest

-- ---- one more class

-- what isn't below a class that comes later
not-below : (supers : List (Option Presence)) (depth : ℕ → ℕ) (all : List ℕ) (s : ℕ) → is_in s all ≡ true
    → (ks : List ℕ) → AreFollowed supers depth all ks → is_in s ks ≡ false → (k : ℕ) → is_in k ks ≡ true → descends supers (of_class k) (of_class s) ≡ false
not-below supers depth all s old [] is out k e = cc
not-below supers depth all s old (x ∷ ks) is out k e = at (or_cases (x == k) (is_in k ks) e) (not-below supers depth all s old ks is.1 parts.1 k)
  where
    parts : ((x == s) ≡ false) × (is_in s ks ≡ false)
    parts = or_parts (x == s) (is_in s ks) out

    at : ((x == k) ≡ true) ⊎ (is_in k ks ≡ true) → (is_in k ks ≡ true → descends supers (of_class k) (of_class s) ≡ false) → descends supers (of_class k) (of_class s) ≡ false
    at (inl here) rest =
        let none : is_in s (x ∷ deeper depth (depth x) ks) ≡ false = or_from (x == s) (is_in s (deeper depth (depth x) ks)) parts.0 (out-deeper depth (depth x) s ks parts.1) in
        subst (λ z. descends supers (of_class z) (of_class s) ≡ false) (same_number x k here) (sym (is.0.below s old) ∙ none)
    at (inr later) rest = rest later

-- A class is placed among others: `all` were there before, and `all'` are afterwards.
module _ (supers : List (Option Presence)) (depth depth' : ℕ → ℕ) (all all' : List ℕ) (n : ℕ)
    (grown : (j : ℕ) → is_in j all' ≡ true → (is_in j all ≡ true) ⊎ (j ≡ n))
    (fresh : is_in n all ≡ false)
    (same : (j : ℕ) → is_in j all ≡ true → depth' j ≡ depth j) where
  fresh-in : (ks : List ℕ) → ((j : ℕ) → is_in j ks ≡ true → is_in j all ≡ true) → is_in n ks ≡ false
  fresh-in ks sub = false_from_ne_true (is_in n ks) (λ e. true≢false (sym (sub n e) ∙ fresh))

  same-deeper : (k : ℕ) (ks : List ℕ) → is_in k all ≡ true → ((j : ℕ) → is_in j ks ≡ true → is_in j all ≡ true) → deeper depth' (depth' k) ks ≡ deeper depth (depth k) ks
  same-deeper k ks old sub = ap (λ d. deeper depth' d ks) (same k old) ∙ deeper-same depth' depth (depth k) ks (λ j e. same j (sub j e))

  -- those that the class is not below keep what comes after them
  followed-grown : (k : ℕ) (ks : List ℕ) → IsFollowed supers depth all k ks → ((j : ℕ) → is_in j (k ∷ ks) ≡ true → is_in j all ≡ true) → descends supers (of_class k) (of_class n) ≡ false → IsFollowed supers depth' all' k ks
  followed-grown k ks is sub none = record {
    below = λ j e. at j (grown j e);
    once = is.once;
    step = subst (λ d. d ≤ suc (depth' k)) (sym (first-same depth' depth ks (λ j e. same j (sub j (later-in j k ks e))))) (subst (λ d. first_depth depth ks ≤ suc d) (sym (same k (sub k (first-in k ks)))) is.step);
  }
    where
      is-same : deeper depth' (depth' k) ks ≡ deeper depth (depth k) ks
      is-same = same-deeper k ks (sub k (first-in k ks)) (λ j e. sub j (later-in j k ks e))

      at : (j : ℕ) → (is_in j all ≡ true) ⊎ (j ≡ n) → is_in j (k ∷ deeper depth' (depth' k) ks) ≡ descends supers (of_class k) (of_class j)
      at j (inl old) = ap (λ js. is_in j (k ∷ js)) is-same ∙ is.below j old
      at j (inr new) =
          let out : is_in n (k ∷ ks) ≡ false = fresh-in (k ∷ ks) sub in
          let parts = or_parts (k == n) (is_in n ks) out in
          let absent : is_in n (k ∷ deeper depth (depth k) ks) ≡ false = or_from (k == n) (is_in n (deeper depth (depth k) ks)) parts.0 (out-deeper depth (depth k) n ks parts.1) in
          subst (λ z. is_in z (k ∷ deeper depth' (depth' k) ks) ≡ descends supers (of_class k) (of_class z)) (sym new) (ap (λ js. is_in n (k ∷ js)) is-same ∙ absent ∙ sym none)

  pub preorder-grown : (ks : List ℕ) → AreFollowed supers depth all ks → ((j : ℕ) → is_in j ks ≡ true → is_in j all ≡ true) → ((k : ℕ) → is_in k ks ≡ true → descends supers (of_class k) (of_class n) ≡ false) → AreFollowed supers depth' all' ks
  preorder-grown [] is sub none = tt
  preorder-grown (k ∷ ks) is sub none =
      (followed-grown k ks is.0 sub (none k (first-in k ks)), preorder-grown ks is.1 (λ j e. sub j (later-in j k ks e)) (λ j e. none j (later-in j k ks e)))

  -- and a class with nothing below it is followed by what isn't deeper
  pub followed-new : (ks : List ℕ) → is_in n ks ≡ false → first_depth depth' ks ≤ depth' n → descends supers (of_class n) (of_class n) ≡ true → ((j : ℕ) → is_in j all ≡ true → descends supers (of_class n) (of_class j) ≡ false)
      → IsFollowed supers depth' all' n ks
  followed-new ks out shallow itself none = record {
    below = λ j e. at j (grown j e);
    once = out;
    step = omega (arith, shallow);
  }
    where
      alone : deeper depth' (depth' n) ks ≡ []
      alone = deeper-none depth' (depth' n) ks shallow

      at : (j : ℕ) → (is_in j all ≡ true) ⊎ (j ≡ n) → is_in j (n ∷ deeper depth' (depth' n) ks) ≡ descends supers (of_class n) (of_class j)
      at j (inl old) =
          let other : (n == j) ≡ false = unlike n j (λ e. apart-in j n all old fresh (sym e)) in
          rw (alone, other) (sym (none j old))
      at j (inr new) = subst (λ z. is_in z (n ∷ deeper depth' (depth' n) ks) ≡ descends supers (of_class n) (of_class z)) (sym new) (first-in n (deeper depth' (depth' n) ks) ∙ sym itself)

  -- A class below another one goes right after it.
  module _ (s : ℕ) (old : is_in s all ≡ true) (one : depth' n ≡ suc (depth s))
      (own : descends supers (of_class s) (of_class s) ≡ true)
      (itself : descends supers (of_class n) (of_class n) ≡ true)
      (leaf : (j : ℕ) → is_in j all ≡ true → descends supers (of_class n) (of_class j) ≡ false)
      (up : (k : ℕ) → is_in k all ≡ true → descends supers (of_class k) (of_class n) ≡ descends supers (of_class k) (of_class s)) where
    one' : depth' n ≡ suc (depth' s)
    one' = one ∙ ap suc (sym (same s old))

    -- the class itself
    followed-above : (k : ℕ) (ks : List ℕ) → k ≡ s → IsFollowed supers depth all k ks → ((j : ℕ) → is_in j (k ∷ ks) ≡ true → is_in j all ≡ true) → IsFollowed supers depth' all' k (n ∷ ks)
    followed-above k ks here is sub = record {
      below = λ j e. at j (grown j e);
      once = or_from (n == k) (is_in k ks) (unlike n k (λ e. apart-in s n all old fresh (sym here ∙ sym e))) is.once;
      step = subst (λ d. depth' n ≤ suc d) (sym (ap depth' here)) (omega (arith, one'));
    }
      where
        deep : depth' n ≡ suc (depth' k)
        deep = one' ∙ ap (λ z. suc (depth' z)) (sym here)

        test : nat_lt (depth' k) (depth' n) ≡ true
        test = grind (arith, nat_tests)

        is-same : deeper depth' (depth' k) ks ≡ deeper depth (depth k) ks
        is-same = same-deeper k ks (sub k (first-in k ks)) (λ j e. sub j (later-in j k ks e))

        at : (j : ℕ) → (is_in j all ≡ true) ⊎ (j ≡ n) → is_in j (k ∷ deeper depth' (depth' k) (n ∷ ks)) ≡ descends supers (of_class k) (of_class j)
        at j (inl e) =
            let other : (n == j) ≡ false = unlike n j (λ h. apart-in j n all e fresh (sym h)) in
            rw (test, other, is-same) (is.below j e)
        at j (inr new) =
            let below : descends supers (of_class k) (of_class n) ≡ true = ap (λ z. descends supers (of_class z) (of_class n)) here ∙ up s old ∙ own in
            let there : is_in n (k ∷ n ∷ deeper depth' (depth' k) ks) ≡ true = later-in n k (n ∷ deeper depth' (depth' k) ks) (first-in n (deeper depth' (depth' k) ks)) in
            subst (λ z. is_in z (k ∷ deeper depth' (depth' k) (n ∷ ks)) ≡ descends supers (of_class k) (of_class z)) (sym new) (rw test (there ∙ sym below))

    -- a class that comes before it
    followed-before : (k : ℕ) (ks : List ℕ) → (k == s) ≡ false → IsFollowed supers depth all k ks → ((j : ℕ) → is_in j (k ∷ ks) ≡ true → is_in j all ≡ true) → IsFollowed supers depth' all' k (placed s n ks)
    followed-before k ks other is sub = record {
      below = λ j e. at j (grown j e);
      once = placed-in s n k ks ∙ or_from (is_in k ks) (cond (is_in s ks) (n == k) false) is.once (nothing (is_in s ks));
      step = subst (λ d. d ≤ suc (depth' k)) (sym (placed-first depth' s n ks)) (subst (λ d. d ≤ suc (depth' k)) (sym (first-same depth' depth ks (λ j e. same j (sub j (later-in j k ks e))))) (subst (λ d. first_depth depth ks ≤ suc d) (sym (same k kept)) is.step));
    }
      where
        kept : is_in k all ≡ true
        kept = sub k (first-in k ks)

        differs : (n == k) ≡ false
        differs = unlike n k (λ e. apart-in k n all kept fresh (sym e))

        nothing : (b : Bool) → cond b (n == k) false ≡ false
        nothing true = differs
        nothing false = refl

        is-same : deeper depth' (depth' k) ks ≡ deeper depth (depth k) ks
        is-same = same-deeper k ks kept (λ j e. sub j (later-in j k ks e))

        spread : (j : ℕ) → is_in j (deeper depth' (depth' k) (placed s n ks)) ≡ (is_in j (deeper depth (depth k) ks) || cond (is_in s (deeper depth (depth k) ks)) (n == j) false)
        spread j = deeper-placed depth' s n (depth' k) j ks one' ∙ ap (λ js. is_in j js || cond (is_in s js) (n == j) false) is-same

        without : (b c : Bool) → (b || cond c false false) ≡ b
        without true c = refl
        without false true = refl
        without false false = refl

        whole : (c : Bool) → (false || cond c true false) ≡ c
        whole true = refl
        whole false = refl

        at : (j : ℕ) → (is_in j all ≡ true) ⊎ (j ≡ n) → is_in j (k ∷ deeper depth' (depth' k) (placed s n ks)) ≡ descends supers (of_class k) (of_class j)
        at j (inl e) =
            let apart : (n == j) ≡ false = unlike n j (λ h. apart-in j n all e fresh (sym h)) in
            ap (λ b. (k == j) || b) (spread j ∙ ap (λ b. is_in j (deeper depth (depth k) ks) || cond (is_in s (deeper depth (depth k) ks)) b false) apart ∙ without (is_in j (deeper depth (depth k) ks)) (is_in s (deeper depth (depth k) ks))) ∙ is.below j e
        at j (inr new) =
            let out : is_in n (k ∷ ks) ≡ false = fresh-in (k ∷ ks) sub in
            let parts = or_parts (k == n) (is_in n ks) out in
            let gone : is_in n (deeper depth (depth k) ks) ≡ false = out-deeper depth (depth k) n ks parts.1 in
            let itself' : (n == n) ≡ true = equal n in
            let fact : is_in n (k ∷ deeper depth' (depth' k) (placed s n ks)) ≡ is_in s (k ∷ deeper depth (depth k) ks) =
            ap (λ b. (k == n) || b) (spread n) ∙ rw (parts.0, gone, itself', other) (whole (is_in s (deeper depth (depth k) ks))) in
            subst (λ z. is_in z (k ∷ deeper depth' (depth' k) (placed s n ks)) ≡ descends supers (of_class k) (of_class z)) (sym new) (fact ∙ is.below s old ∙ sym (up k kept))

    pub preorder-placed : (ks : List ℕ) → AreFollowed supers depth all ks → ((j : ℕ) → is_in j ks ≡ true → is_in j all ≡ true) → AreFollowed supers depth' all' (placed s n ks)
    preorder-placed [] is sub = tt
    preorder-placed (k ∷ ks) is sub = at (k == s) refl (preorder-placed ks is.1 (λ j e. sub j (later-in j k ks e)))
      where
        later : (j : ℕ) → is_in j ks ≡ true → is_in j all ≡ true
        later j e = sub j (later-in j k ks e)

        at : (b : Bool) → (k == s) ≡ b → AreFollowed supers depth' all' (placed s n ks) → AreFollowed supers depth' all' (cond b (k ∷ n ∷ ks) (k ∷ placed s n ks))
        at false e rest = (followed-before k ks e is.0 sub, rest)
        at true e rest =
            let here : k ≡ s = same_number k s e in
            let gone : is_in s ks ≡ false = subst (λ z. is_in z ks ≡ false) here is.0.once in
            let shallow : first_depth depth' ks ≤ depth' n = omega (arith, first-same depth' depth ks (λ j h. same j (later j h)), is.0.step, ap depth here, one) in (
              followed-above k ks here is.0 sub,
              (
                followed-new ks (fresh-in ks later) shallow itself leaf,
                preorder-grown ks is.1 later (λ j h. up j (later j h) ∙ not-below supers depth all s old ks is.1 gone j h),
              ),
            )

-- ---- the links

module _ (depth depth' : ℕ → ℕ) (next next' : ℕ → Option ℕ) where
  pub next-same : (ks : List ℕ) → ((j : ℕ) → is_in j ks ≡ true → depth' j ≡ depth j) → next_in depth' ks ≡ next_in depth ks
  next-same [] same = refl
  next-same (k ∷ ks) same = ap (λ d. cond (d == 0) None (Some k)) (same k (first-in k ks))

  pub linked-same : (ks : List ℕ) → ((j : ℕ) → is_in j ks ≡ true → depth' j ≡ depth j) → ((j : ℕ) → is_in j ks ≡ true → next' j ≡ next j) → AreLinked depth next ks → AreLinked depth' next' ks
  linked-same [] same kept is = tt
  linked-same (k ∷ ks) same kept is = (
    kept k (first-in k ks) ∙ is.0 ∙ sym (next-same ks (λ j e. same j (later-in j k ks e))),
    linked-same ks (λ j e. same j (later-in j k ks e)) (λ j e. kept j (later-in j k ks e)) is.1,
  )

  -- if one more class goes right after another
  pub linked-placed : (supers : List (Option Presence)) (all : List ℕ) (s n : ℕ) (ks : List ℕ) → AreFollowed supers depth all ks
      → ((j : ℕ) → is_in j ks ≡ true → depth' j ≡ depth j) → ((j : ℕ) → is_in j ks ≡ true → j ≢ s → next' j ≡ next j)
      → next' s ≡ Some n → next' n ≡ next s → (depth' n == 0) ≡ false → AreLinked depth next ks → AreLinked depth' next' (placed s n ks)
  linked-placed supers all s n [] order same kept after-s after-n deep is = tt
  linked-placed supers all s n (k ∷ ks) order same kept after-s after-n deep is =
      at (k == s) refl (linked-placed supers all s n ks order.1 later (λ j e. kept j (later-in j k ks e)) after-s after-n deep is.1)
    where
      later : (j : ℕ) → is_in j ks ≡ true → depth' j ≡ depth j
      later j e = same j (later-in j k ks e)

      first : (xs : List ℕ) → next_in depth' (placed s n xs) ≡ next_in depth' xs
      first [] = refl
      first (x ∷ xs) = pick (x == s)
        where
          pick : (b : Bool) → next_in depth' (cond b (x ∷ n ∷ xs) (x ∷ placed s n xs)) ≡ next_in depth' (x ∷ xs)
          pick true = refl
          pick false = refl

      at : (b : Bool) → (k == s) ≡ b → AreLinked depth' next' (placed s n ks) → AreLinked depth' next' (cond b (k ∷ n ∷ ks) (k ∷ placed s n ks))
      at false e rest = (kept k (first-in k ks) (other_number k s e) ∙ is.0 ∙ sym (next-same ks later) ∙ sym (first ks), rest)
      at true e rest =
          let here : k ≡ s = same_number k s e in
          let gone : is_in s ks ≡ false = subst (λ z. is_in z ks ≡ false) here order.0.once in
          let first' : next' k ≡ cond (depth' n == 0) None (Some n) = ap next' here ∙ after-s ∙ sym (ap (λ b. cond b None (Some n)) deep) in
          (first', (after-n ∙ sym (ap next here) ∙ is.0 ∙ sym (next-same ks later), linked-same ks later (λ j h. kept j (later-in j k ks h) (apart-in j s ks h gone)) is.1))
