-- A way back never has more rows than its list had at some time.
use Rattle.std.proofs.Common.{◌≡◌, ◌≤◌, ◌+◌, ℕ, List, [], ◌∷◌, ◌++◌, Option, Some, None, Bool, true, false, cond, reverse, refl, sym, ap, ◌∙◌, subst, arith}
use Rattle.std.specs.Prelude.{◌==◌, ◌&&◌, not, is_some}
use Rattle.std.specs.List.{list_all}
use Rattle.std.specs.Option.{option_map_or}
use Rattle.msg_names.proofs.TestLemmas.{both}
use Rattle.msg_names.specs.declared.value.ClassRef.{ClassRef}
use Rattle.msg_names.specs.declared.value.Selector.{Selector}
use Rattle.msg_names.specs.ClassRef.{same_class}
use Rattle.msg_names.specs.Number.{selector_number, selector_of, imp_number, imp_ref_of}
use Rattle.msg_tables.specs.declared.change.Change.{Change}
use Rattle.msg_tables.specs.declared.change.Change.TheVariants.{Add, Replace, SetImp, Exchange, Attach, AddClass, Remove, DisposeClass}
use Rattle.msg_tables.specs.declared.presence.Presence.{Presence}
use Rattle.msg_tables.specs.After.{of_class, of_meta, row, rows_at, set_own, without_own, without_class, table_after}
use Rattle.msg_tables.specs.Chain.{presence_of}
use Rattle.msg_tables.specs.ListLaws.{HoldsAtMost, IsMadeAt}
use Rattle.msg_tables.specs.Log.{Log, and_then, table, table_after_all}
use Rattle.msg_tables.specs.Origin.{OriginView}
use Rattle.msg_tables.specs.Rows.{Row, ClassTable, holder_at, lookup_at, own}
use Rattle.msg_tables.specs.Several.{and_all}
use Rattle.msg_tables.specs.Undo.{AreAlike, are_numbered, count_at, covering, covering_all, old_at, removing, undo, undo_all}
use Rattle.msg_tables.proofs.AgainstLemmas.{May, MayAll, accepted-may_all}
use Rattle.msg_tables.proofs.AlikeLemmas.{alike-after, alike-sym}
use Rattle.msg_tables.proofs.ImpsLemmas.{count-append, count-set, count-without, count-without_class}
use Rattle.msg_tables.proofs.KeptLemmas.{Kept, all-append, kept-after}
use Rattle.msg_tables.proofs.LogLemmas.{table-and_then}
use Rattle.msg_tables.proofs.SeveralLemmas.{table-and_all}
use Rattle.msg_tables.proofs.WayBackLemmas.{back}
use Rattle.msg_tables.proofs.WayBackAllLemmas.{back-all, kept-at, numbered-parts}

-- ---- changes that only add rows, or only remove rows

rises : Change → Bool
rises (Replace c s i) = true
rises (Attach k ms cs) = true
rises (AddClass k d) = true
rises _ = false

falls : Change → Bool
falls (Remove c s) = true
falls (DisposeClass k) = true
falls _ = false

module _ (test : ClassRef → Bool) where
  abbrev count : ClassTable → ℕ
  count t = count_at test t.rows

  fewer : (k : ℕ) (rows : List Row) → count_at (λ c. test c && not (c.class == k)) rows ≤ count_at test rows
  fewer k [] = omega arith
  fewer k (r ∷ rs) = step (test r.class) (not (r.class.class == k)) (fewer k rs)
    where
      step : (a b : Bool) → count_at (λ c. test c && not (c.class == k)) rs ≤ count_at test rs → cond (a && b) 1 0 + count_at (λ c. test c && not (c.class == k)) rs ≤ cond a 1 0 + count_at test rs
      step true true rest = omega (arith, rest)
      step true false rest = omega (arith, rest)
      step false b rest = omega (arith, rest)

  rise : (t : ClassTable) (x : Change) → rises x ≡ true → count t ≤ count (table_after t x)
  unfolding rises table_after
  rise t (Add c s i) e = cc
  rise t (Replace c s i) e = step (is_some (own t.rows c (selector_number s)))
    where
      step : (b : Bool) → count t ≤ count_at test (cond b (set_own c (selector_number s) (imp_number i) t.rows) (t.rows ++ row c s i ∷ []))
      step true = let same = count-set c (selector_number s) (imp_number i) test t.rows in omega (arith, same)
      step false = let more = count-append test t.rows (row c s i ∷ []) in omega (arith, more)
  rise t (SetImp c s i) e = cc
  rise t (Exchange c s d u) e = cc
  rise t (Attach k ms cs) e =
      let one = count-append test t.rows (rows_at (of_class k) (reverse ms)) in
      let two = count-append test (t.rows ++ rows_at (of_class k) (reverse ms)) (rows_at (of_meta k) (reverse cs)) in
      omega (arith, one, two)
  rise t (AddClass k d) e = omega arith
  rise t (Remove c s) e = cc
  rise t (DisposeClass k) e = cc

  fall : (t : ClassTable) (x : Change) → falls x ≡ true → count (table_after t x) ≤ count t
  unfolding falls table_after
  fall t (Add c s i) e = cc
  fall t (Replace c s i) e = cc
  fall t (SetImp c s i) e = cc
  fall t (Exchange c s d u) e = cc
  fall t (Attach k ms cs) e = cc
  fall t (AddClass k d) e = cc
  fall t (Remove c s) e = let less = count-without c (selector_number s) test t.rows in omega (arith, less)
  fall t (DisposeClass k) e = let same = count-without_class k test t.rows in let few = fewer k t.rows in omega (arith, same, few)

  -- ---- never more than n

  abbrev Within : ℕ → ClassTable → List Change → Type 0
  Within n t [] = count t ≤ n
  Within n t (x ∷ xs) = (count t ≤ n) × Within n (table_after t x) xs

  first : (n : ℕ) (t : ClassTable) (xs : List Change) → Within n t xs → count t ≤ n
  first n t [] w = w
  first n t (x ∷ xs) w = w.0

  within-append : (n : ℕ) (t : ClassTable) (xs ys : List Change) → Within n t xs → Within n (table_after_all t xs) ys → Within n t (xs ++ ys)
  within-append n t [] ys w v = v
  within-append n t (x ∷ xs) ys w v = (w.0, within-append n (table_after t x) xs ys w.1 v)

  within-alike : (n : ℕ) (t u : ClassTable) (xs : List Change) → AreAlike t u → Within n t xs → Within n u xs
  within-alike n t u [] e w = let same = e.count test in omega (arith, same, w)
  within-alike n t u (x ∷ xs) e w = let same = e.count test in (let one = w.0 in omega (arith, same, one), within-alike n (table_after t x) (table_after u x) xs (alike-after t u x e) w.1)

  rising : (n : ℕ) (t : ClassTable) (xs : List Change) → list_all rises xs ≡ true → count (table_after_all t xs) ≤ n → Within n t xs
  rising n t [] all few = few
  rising n t (x ∷ xs) all few =
      let parts = both (rises x) (list_all rises xs) all in
      let rest = rising n (table_after t x) xs parts.1 few in
      let next = first n (table_after t x) xs rest in
      let up = rise t x parts.0 in
      (omega (arith, next, up), rest)

  falling : (n : ℕ) (t : ClassTable) (xs : List Change) → list_all falls xs ≡ true → count t ≤ n → Within n t xs
  falling n t [] all few = few
  falling n t (x ∷ xs) all few =
      let parts = both (falls x) (list_all falls xs) all in
      let down = fall t x parts.0 in
      (few, falling n (table_after t x) xs parts.1 (omega (arith, few, down)))

  -- ---- what takes a change back

  old-rises : (h : Option ClassRef) (s : Selector) (i : ℕ) → list_all rises (old_at h s i) ≡ true
  unfolding rises
  old-rises None s i = refl
  old-rises (Some p) s i = refl

  removing-falls : (c : ClassRef) (ms : List (ℕ × ℕ)) → list_all falls (removing c ms) ≡ true
  unfolding falls
  removing-falls c [] = refl
  removing-falls c (m ∷ ms) = removing-falls c ms

  covering-rises : (c : ClassRef) (s i : ℕ) → rises (covering c s i) ≡ true
  unfolding rises
  covering-rises c s i = step c.meta
    where
      step : (b : Bool) → rises (cond b (Attach c.class [] ((s, i) ∷ [])) (Attach c.class ((s, i) ∷ []) [])) ≡ true
      step true = refl
      step false = refl

  covering_all-rises : (c : ClassRef) (rs : List Row) → list_all rises (covering_all c rs) ≡ true
  covering_all-rises c [] = refl
  covering_all-rises c (r ∷ rs) = step (same_class r.class c) (covering_all-rises c rs)
    where
      step : (b : Bool) → list_all rises (covering_all c rs) ≡ true → list_all rises (cond b (covering c r.sel r.imp ∷ covering_all c rs) (covering_all c rs)) ≡ true
      step true rest = rw (covering-rises c r.sel r.imp) rest
      step false rest = rest

  one : (o : OriginView) (t : ClassTable) (x : Change) (n : ℕ) → Kept o t → May o t x → are_numbered x ≡ true → count t ≤ n → count (table_after t x) ≤ n → Within n (table_after t x) (undo t x)
  unfolding rises falls
  one o t x n kept e numbered was now = at x (back o t x kept e numbered) now
    where
      up : (x : Change) → AreAlike (table_after_all (table_after t x) (undo t x)) t → list_all rises (undo t x) ≡ true → Within n (table_after t x) (undo t x)
      up x alike all = let same = alike.count test in rising n (table_after t x) (undo t x) all (omega (arith, same, was))

      down : (x : Change) → count (table_after t x) ≤ n → list_all falls (undo t x) ≡ true → Within n (table_after t x) (undo t x)
      down x now all = falling n (table_after t x) (undo t x) all now

      at : (x : Change) → AreAlike (table_after_all (table_after t x) (undo t x)) t → count (table_after t x) ≤ n → Within n (table_after t x) (undo t x)
      at (Add c s i) alike now = down (Add c s i) now refl
      at (Replace c s i) alike now = step (own t.rows c (selector_number s)) refl
        where
          step : (v : Option ℕ) → own t.rows c (selector_number s) ≡ v → Within n (table_after t (Replace c s i)) (undo t (Replace c s i))
          step None is = down (Replace c s i) now (rw is refl)
          step (Some old) is = up (Replace c s i) alike (rw is refl)
      at (SetImp c s i) alike now = up (SetImp c s i) alike (old-rises (holder_at t c (selector_number s)) s (lookup_at t c (selector_number s)))
      at (Exchange c s d u) alike now =
          up (Exchange c s d u) alike
          (all-append rises (old_at (holder_at t d (selector_number u)) u (lookup_at t d (selector_number u))) (old_at (holder_at t c (selector_number s)) s (lookup_at t c (selector_number s)))
          (old-rises (holder_at t d (selector_number u)) u (lookup_at t d (selector_number u))) (old-rises (holder_at t c (selector_number s)) s (lookup_at t c (selector_number s))))
      at (Attach k ms cs) alike now = down (Attach k ms cs) now (all-append falls (removing (of_meta k) cs) (removing (of_class k) ms) (removing-falls (of_meta k) cs) (removing-falls (of_class k) ms))
      at (AddClass k d) alike now = down (AddClass k d) now refl
      at (Remove c s) alike now = up (Remove c s) alike (step (own t.rows c (selector_number s)))
        where
          step : (v : Option ℕ) → list_all rises (option_map_or (λ old. covering c (selector_number s) old ∷ []) v []) ≡ true
          step None = refl
          step (Some old) = rw (covering-rises c (selector_number s) old) refl
      at (DisposeClass k) alike now = up (DisposeClass k) alike (step (presence_of t.supers k))
        where
          step : (v : Option Presence) → list_all rises (option_map_or (λ (p : Presence). AddClass k p.superclass ∷ covering_all (of_class k) t.rows ++ covering_all (of_meta k) t.rows) v []) ≡ true
          step None = refl
          step (Some p) = all-append rises (covering_all (of_class k) t.rows) (covering_all (of_meta k) t.rows) (covering_all-rises (of_class k) t.rows) (covering_all-rises (of_meta k) t.rows)

  all : (o : OriginView) (t : ClassTable) (xs : List Change) (n : ℕ) → Kept o t → MayAll o t xs → list_all are_numbered xs ≡ true → Within n t xs → Within n (table_after_all t xs) (undo_all t xs)
  all o t [] n kept may numbered w = w
  all o t (x ∷ xs) n kept may numbered w =
      let parts = numbered-parts x xs numbered in
      let next = table_after t x in
      let then = kept-after o t x kept may.0 in
      let rest = all o next xs n then may.1 parts.1 w.1 in
      let last = one o t x n kept may.0 parts.0 w.0 (first n next xs w.1) in
      within-append n (table_after_all next xs) (undo_all next xs) (undo t x) rest
      (within-alike n next (table_after_all (table_after_all next xs) (undo_all next xs)) (undo t x) (alike-sym _ _ (back-all o next xs then may.1 parts.1)) last)

-- ---- of logs

module _ (c : ClassRef) (n : ℕ) where
  to-tables : (h : Log) (xs : List Change) → HoldsAtMost n c h xs → Within (λ d. same_class d c) n (table h) xs
  to-tables h [] w = w
  to-tables h (x ∷ xs) w = (w.0, subst (λ t. Within (λ d. same_class d c) n t xs) (table-and_then h x) (to-tables (and_then h x) xs w.1))

  of-tables : (h : Log) (xs : List Change) → Within (λ d. same_class d c) n (table h) xs → HoldsAtMost n c h xs
  of-tables h [] w = w
  of-tables h (x ∷ xs) w = (w.0, of-tables (and_then h x) xs (subst (λ t. Within (λ d. same_class d c) n t xs) (sym (table-and_then h x)) w.1))

  pub holds-back : (h : Log) (xs : List Change) → IsMadeAt h xs → HoldsAtMost n c h xs → HoldsAtMost n c (and_all h xs) (undo_all (table h) xs)
  holds-back h xs is w =
      let back' = all (λ d. same_class d c) h.origin (table h) xs n (kept-at h is.sound is.fit is.log) (accepted-may_all h xs is.accepted) is.numbered (to-tables h xs w) in
      of-tables (and_all h xs) (undo_all (table h) xs) (subst (λ t. Within (λ d. same_class d c) n t (undo_all (table h) xs)) (sym (table-and_all h xs)) back')
