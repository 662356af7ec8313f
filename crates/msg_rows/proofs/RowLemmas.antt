-- The last row of a selector.
use Rattle.std.proofs.Common.{◌≡◌, ◌<◌, ℕ, suc, List, [], ◌∷◌, ◌++◌, length, get_or, Bool, true, false, cond, Option, Some, None, option_map, refl, sym, ap, ◌∙◌, arith}
use Rattle.std.specs.Prelude.{◌==◌, ◌&&◌, slice_set, is_none}
use Rattle.std.proofs.lemmas.Option.{same_Some}
use Rattle.msg_names.proofs.TestLemmas.{same_number}
use Rattle.msg_rows.specs.RowList.{or_else, own_in, last_index, set_last}
use Rattle.msg_rows.proofs.OrElseLemmas.{or_else_none, or_else-assoc}

-- if no row is last, there is none
pub last_none : (s : ℕ) (ms : List (ℕ × ℕ)) → last_index s ms ≡ None → own_in s ms ≡ None
last_none s [] e = refl
last_none s (m ∷ ms) e = step (last_index s ms) (m.0 == s) (last_none s ms) e
  where
    step : (o : Option ℕ) (b : Bool) → (o ≡ None → own_in s ms ≡ None) → or_else (option_map suc o) (cond b (Some 0) None) ≡ None → or_else (own_in s ms) (cond b (Some m.1) None) ≡ None
    step (Some q) b rest e = cc
    step None true rest e = cc
    step None false rest e = rw (rest refl) refl

-- the own row is the row at the last place
pub last_some : (s : ℕ) (ms : List (ℕ × ℕ)) (p : ℕ) (d : ℕ × ℕ) → last_index s ms ≡ Some p → (p < length ms) × (own_in s ms ≡ Some (get_or ms p d).1)
last_some s [] p d e = cc
last_some s (m ∷ ms) p d e = step (last_index s ms) (m.0 == s) (λ q. last_some s ms q d) (last_none s ms) e
  where
    step : (o : Option ℕ) (b : Bool) → ((q : ℕ) → o ≡ Some q → (q < length ms) × (own_in s ms ≡ Some (get_or ms q d).1)) → (o ≡ None → own_in s ms ≡ None) → or_else (option_map suc o) (cond b (Some 0) None) ≡ Some p
        → (p < length (m ∷ ms)) × (or_else (own_in s ms) (cond b (Some m.1) None) ≡ Some (get_or (m ∷ ms) p d).1)
    step (Some q) b rest none e =
        let (inside, own) = rest q refl in
        let at : suc q ≡ p = same_Some (suc q) p e in
        (omega arith, rw (← at, own) refl)
    step None true rest none e =
        let at : 0 ≡ p = same_Some 0 p e in
        (omega arith, rw (← at, none refl) refl)
    step None false rest none e = cc

-- there is an own row exactly if one is last
pub is_none-own_in : (s : ℕ) (ms : List (ℕ × ℕ)) → is_none (own_in s ms) ≡ is_none (last_index s ms)
is_none-own_in s [] = refl
is_none-own_in s (m ∷ ms) = step (own_in s ms) (last_index s ms) (m.0 == s) (is_none-own_in s ms)
  where
    step : (o p : Option ℕ) (b : Bool) → is_none o ≡ is_none p → is_none (or_else o (cond b (Some m.1) None)) ≡ is_none (or_else (option_map suc p) (cond b (Some 0) None))
    step None None true e = refl
    step None None false e = refl
    step (Some x) (Some y) b e = refl
    step None (Some y) b e = cc
    step (Some x) None b e = cc

-- if no row is last, none is rewritten
pub set_last-none : (s i : ℕ) (ms : List (ℕ × ℕ)) → last_index s ms ≡ None → ms ≡ set_last s i ms
set_last-none s i [] e = refl
set_last-none s i (m ∷ ms) e = step (last_index s ms) (m.0 == s) (set_last-none s i ms) e
  where
    step : (o : Option ℕ) (b : Bool) → (o ≡ None → ms ≡ set_last s i ms) → or_else (option_map suc o) (cond b (Some 0) None) ≡ None → m ∷ ms ≡ cond (b && is_none (own_in s ms)) (s, i) m ∷ set_last s i ms
    step (Some q) b rest e = cc
    step None true rest e = cc
    step None false rest e = ap (λ ys. m ∷ ys) (rest refl)

-- writing at the last place rewrites the last row
pub set-last_place : (s i : ℕ) (ms : List (ℕ × ℕ)) (p : ℕ) → last_index s ms ≡ Some p → slice_set ms p (s, i) ≡ set_last s i ms
set-last_place s i [] p e = cc
set-last_place s i (m ∷ ms) p e = step (last_index s ms) (m.0 == s) (is_none-own_in s ms) (set-last_place s i ms) (set_last-none s i ms) e
  where
    tail : (b : Bool) (q : ℕ) → slice_set ms q (s, i) ≡ set_last s i ms → m ∷ slice_set ms q (s, i) ≡ cond (b && false) (s, i) m ∷ set_last s i ms
    tail true q h = ap (λ xs. m ∷ xs) h
    tail false q h = ap (λ xs. m ∷ xs) h

    step : (o : Option ℕ) (b : Bool) → is_none (own_in s ms) ≡ is_none o → ((q : ℕ) → o ≡ Some q → slice_set ms q (s, i) ≡ set_last s i ms) → (o ≡ None → ms ≡ set_last s i ms) → or_else (option_map suc o) (cond b (Some 0) None) ≡ Some p
        → slice_set (m ∷ ms) p (s, i) ≡ cond (b && is_none (own_in s ms)) (s, i) m ∷ set_last s i ms
    step (Some q) b some rest none e =
        let at : suc q ≡ p = same_Some (suc q) p e in
        rw (← at, some) (tail b q (rest q refl))
    step None true some rest none e =
        let at : 0 ≡ p = same_Some 0 p e in
        rw (← at, some) (ap (λ xs. (s, i) ∷ xs) (none refl))
    step None false some rest none e = cc

-- where the second of two lists has a row of the selector, its last one is the own row
pub own_in-append : (s : ℕ) (xs ys : List (ℕ × ℕ)) → own_in s (xs ++ ys) ≡ or_else (own_in s ys) (own_in s xs)
own_in-append s [] ys = sym (or_else_none (own_in s ys))
own_in-append s (m ∷ xs) ys =
    ap (λ o. or_else o (cond (m.0 == s) (Some m.1) None)) (own_in-append s xs ys) ∙ or_else-assoc (own_in s ys) (own_in s xs) (cond (m.0 == s) (Some m.1) None)
