-- Rows whose implementations are listed.
use Rattle.std.proofs.Common.{◌≡◌, ◌≤◌, ℕ, zero, suc, List, [], ◌∷◌, ◌++◌, Option, Some, None, option_map, Bool, true, false, cond, refl, sym, subst, arith}
use Rattle.std.specs.Prelude.{◌==◌, ◌&&◌, nat_le, slice_index_or, slice_set, reverse, is_some, is_none, IfSome}
use Rattle.std.specs.List.{list_all}
use Rattle.std.proofs.lemmas.Bool.Decides.{nat_tests}
use Rattle.std.proofs.lemmas.Option.{same_Some}
use Rattle.std.proofs.lemmas.List.{reverse-append}
use Rattle.msg_names.specs.declared.value.ImpRef.{ImpRef}
use Rattle.msg_names.specs.Number.{imp_number}
use Rattle.msg_names.proofs.TestLemmas.{both}
use Rattle.msg_rows.specs.RowList.{or_else, own_in, set_last}
use Rattle.msg_tables.specs.Origin.{are_listed}

pub and_both : (a b : Bool) → a ≡ true → b ≡ true → (a && b) ≡ true
and_both a b e f = rw (e, f) refl

-- the own row's implementation is listed
pub own_in-listed : (n s i : ℕ) (rows : List (ℕ × ℕ)) → are_listed n rows ≡ true → own_in s rows ≡ Some i → i ≤ n
own_in-listed n s i [] all e = cc
own_in-listed n s i (m ∷ ms) all e =
    let (first, rest) = both (nat_le m.1 n) (are_listed n ms) all in
    step (own_in s ms) (m.0 == s) first (λ j. own_in-listed n s j ms rest) e
  where
    step : (o : Option ℕ) (b : Bool) → nat_le m.1 n ≡ true → ((j : ℕ) → o ≡ Some j → j ≤ n) → or_else o (cond b (Some m.1) None) ≡ Some i → i ≤ n
    step (Some j) b first rest e = rest i e
    step None true first rest e = let same : m.1 ≡ i = same_Some m.1 i e in grind (arith, nat_tests)
    step None false first rest e = cc

-- so is the implementation of each of the lists
pub listed_at : (n k : ℕ) (lists : List (List (ℕ × ℕ))) → list_all (are_listed n) lists ≡ true → are_listed n (slice_index_or lists k []) ≡ true
listed_at n k [] all = refl
listed_at n zero (ms ∷ lists) all = (both (are_listed n ms) (list_all (are_listed n) lists) all).0
listed_at n (suc k) (ms ∷ lists) all = listed_at n k lists (both (are_listed n ms) (list_all (are_listed n) lists) all).1

-- rows that are appended
pub listed-append : (n : ℕ) (xs ys : List (ℕ × ℕ)) → are_listed n xs ≡ true → are_listed n ys ≡ true → are_listed n (xs ++ ys) ≡ true
listed-append n [] ys a b = b
listed-append n (x ∷ xs) ys a b =
    let (first, rest) = both (nat_le x.1 n) (are_listed n xs) a in
    and_both (nat_le x.1 n) (are_listed n (xs ++ ys)) first (listed-append n xs ys rest b)

-- in the other order
pub listed-reverse : (n : ℕ) (xs : List (ℕ × ℕ)) → are_listed n xs ≡ true → are_listed n (reverse xs) ≡ true
listed-reverse n [] a = refl
listed-reverse n (x ∷ xs) a =
    let (first, rest) = both (nat_le x.1 n) (are_listed n xs) a in
    subst (λ ys. are_listed n ys ≡ true) (sym (reverse-append (x ∷ []) xs)) (listed-append n (reverse xs) (x ∷ []) (listed-reverse n xs rest) (and_both (nat_le x.1 n) true first refl))

-- the last row of a selector rewritten
pub listed-set_last : (n s i : ℕ) (xs : List (ℕ × ℕ)) → i ≤ n → are_listed n xs ≡ true → are_listed n (set_last s i xs) ≡ true
listed-set_last n s i [] inside a = refl
listed-set_last n s i (x ∷ xs) inside a =
    let (first, rest) = both (nat_le x.1 n) (are_listed n xs) a in
    step ((x.0 == s) && is_none (own_in s xs)) first (listed-set_last n s i xs inside rest)
  where
    step : (b : Bool) → nat_le x.1 n ≡ true → are_listed n (set_last s i xs) ≡ true → are_listed n (cond b (s, i) x ∷ set_last s i xs) ≡ true
    step true first rest = and_both (nat_le i n) (are_listed n (set_last s i xs)) (grind (arith, nat_tests)) rest
    step false first rest = and_both (nat_le x.1 n) (are_listed n (set_last s i xs)) first rest

-- one of the lists written
pub listed-put : (n k : ℕ) (lists : List (List (ℕ × ℕ))) (ms : List (ℕ × ℕ)) → list_all (are_listed n) lists ≡ true → are_listed n ms ≡ true → list_all (are_listed n) (slice_set lists k ms) ≡ true
listed-put n k [] ms all a = refl
listed-put n zero (xs ∷ lists) ms all a = and_both (are_listed n ms) (list_all (are_listed n) lists) a (both (are_listed n xs) (list_all (are_listed n) lists) all).1
listed-put n (suc k) (xs ∷ lists) ms all a =
    let (first, rest) = both (are_listed n xs) (list_all (are_listed n) lists) all in
    and_both (are_listed n xs) (list_all (are_listed n) (slice_set lists k ms)) first (listed-put n k lists ms rest a)

-- a selector with a row has one afterwards
pub own_in-set_last : (q s i : ℕ) (xs : List (ℕ × ℕ)) → is_some (own_in q (set_last s i xs)) ≡ is_some (own_in q xs)
own_in-set_last q s i [] = refl
own_in-set_last q s i (x ∷ xs) = step ((x.0 == s) && is_none (own_in s xs)) refl (own_in-set_last q s i xs)
  where
    same : (o p : Option ℕ) (b : Bool) (j k : ℕ) → is_some o ≡ is_some p → is_some (or_else o (cond b (Some j) None)) ≡ is_some (or_else p (cond b (Some k) None))
    same (Some a) (Some c) b j k e = refl
    same None None true j k e = refl
    same None None false j k e = refl
    same (Some a) None b j k e = cc
    same None (Some c) b j k e = cc

    step : (b : Bool) → ((x.0 == s) && is_none (own_in s xs)) ≡ b → is_some (own_in q (set_last s i xs)) ≡ is_some (own_in q xs) → is_some (own_in q (cond b (s, i) x ∷ set_last s i xs)) ≡ is_some (own_in q (x ∷ xs))
    step false e rest = same (own_in q (set_last s i xs)) (own_in q xs) (x.0 == q) x.1 x.1 rest
    step true e rest =
        let named : x.0 ≡ s = same_name x.0 s (both (x.0 == s) (is_none (own_in s xs)) e).0 in
        rw named (same (own_in q (set_last s i xs)) (own_in q xs) (s == q) i x.1 rest)
      where
        same_name : (a b : ℕ) → (a == b) ≡ true → a ≡ b
        same_name a b h = grind (arith, nat_tests)

-- an implementation that is found in a list
pub found-listed : (n s : ℕ) (o : Option ImpRef) (rows : List (ℕ × ℕ)) → are_listed n rows ≡ true → option_map imp_number o ≡ own_in s rows → IfSome o (λ i. imp_number i ≤ n)
found-listed n s None rows all e = tt
found-listed n s (Some i) rows all e = own_in-listed n s (imp_number i) rows all (sym e)
