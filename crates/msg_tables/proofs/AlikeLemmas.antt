-- Tables that no lookup and no change distinguishes.
use Rattle.std.proofs.Common.{◌≡◌, ◌+◌, ℕ, List, [], ◌∷◌, ◌++◌, length, Option, Some, None, Bool, true, cond, refl, sym, ap, ◌∙◌, reverse, arith}
use Rattle.std.specs.Prelude.{◌==◌, ◌&&◌, not, is_some}
use Rattle.msg_names.specs.declared.value.ClassRef.{ClassRef}
use Rattle.msg_names.specs.ClassRef.{same_class}
use Rattle.msg_names.specs.Number.{selector_number, imp_number}
use Rattle.msg_tables.specs.declared.change.Change.{Change}
use Rattle.msg_tables.specs.declared.change.Change.TheVariants.{Add, Replace, SetImp, Exchange, Attach, AddClass, Remove, DisposeClass}
use Rattle.msg_tables.specs.After.{of_class, of_meta, row, rows_at, set_own, set_method, without_own, without_class, rows_after, supers_after, table_after}
use Rattle.msg_tables.specs.Chain.{chain_of}
use Rattle.msg_tables.specs.Log.{table_after_all}
use Rattle.msg_tables.specs.Rows.{Row, ClassTable, own, holder_in, lookup_in, holder_at, lookup_at}
use Rattle.msg_tables.specs.Undo.{AreAlike, imps_of, count_at}
use Rattle.msg_tables.proofs.ImpsLemmas.{last_of, set_end, drop_end, own-imps, imps-append, count-append, imps-set, count-set, imps-without, count-without, imps-without_class, count-without_class, count-all}
use Rattle.msg_tables.proofs.OwnLemmas.{holder-same, lookup-same}

-- rows that no lookup distinguishes
pub record SameRows (xs ys : List Row) : Type 0 where
  pub imps : (c : ClassRef) (s : ℕ) → imps_of c s xs ≡ imps_of c s ys
  pub count : (test : ClassRef → Bool) → count_at test xs ≡ count_at test ys

pub same-then : (xs ys zs : List Row) → SameRows xs ys → SameRows ys zs → SameRows xs zs
same-then xs ys zs e f = record { imps = λ c s. e.imps c s ∙ f.imps c s; count = λ test. e.count test ∙ f.count test }

pub same-is : (xs ys : List Row) → xs ≡ ys → SameRows xs ys
same-is xs ys e = record { imps = λ c s. ap (imps_of c s) e; count = λ test. ap (count_at test) e }

pub alike-refl : (t : ClassTable) → AreAlike t t
alike-refl t = record { supers = refl; imps = λ c s. refl; count = λ test. refl }

pub alike-is : (t u : ClassTable) → t ≡ u → AreAlike t u
alike-is t u e = record { supers = ap (λ t. t.supers) e; imps = λ c s. ap (λ (t : ClassTable). imps_of c s t.rows) e; count = λ test. ap (λ (t : ClassTable). count_at test t.rows) e }

pub alike-sym : (t u : ClassTable) → AreAlike t u → AreAlike u t
alike-sym t u e = record { supers = sym e.supers; imps = λ c s. sym (e.imps c s); count = λ test. sym (e.count test) }

pub alike-then : (t u v : ClassTable) → AreAlike t u → AreAlike u v → AreAlike t v
alike-then t u v e f = record { supers = e.supers ∙ f.supers; imps = λ c s. e.imps c s ∙ f.imps c s; count = λ test. e.count test ∙ f.count test }

pub alike-rows : (t u : ClassTable) → AreAlike t u → SameRows t.rows u.rows
alike-rows t u e = record { imps = e.imps; count = e.count }

pub rows-alike : (t u : ClassTable) → t.supers ≡ u.supers → SameRows t.rows u.rows → AreAlike t u
rows-alike t u e f = record { supers = e; imps = f.imps; count = f.count }

-- ---- what is found in them

pub own-alike : (xs ys : List Row) → SameRows xs ys → (c : ClassRef) (s : ℕ) → own xs c s ≡ own ys c s
own-alike xs ys e c s = own-imps xs c s ∙ ap last_of (e.imps c s) ∙ sym (own-imps ys c s)

pub length-alike : (xs ys : List Row) → SameRows xs ys → length xs ≡ length ys
length-alike xs ys e = sym (count-all xs) ∙ e.count (λ c. true) ∙ count-all ys

pub holder-alike : (t u : ClassTable) → AreAlike t u → (c : ClassRef) (s : ℕ) → holder_at t c s ≡ holder_at u c s
holder-alike t u e c s =
    ap (λ supers. holder_in t.rows (chain_of supers c) s) e.supers
    ∙ holder-same u.rows t.rows (chain_of u.supers c) s (λ d. ap is_some (own-alike t.rows u.rows (alike-rows t u e) d s))

pub lookup-alike : (t u : ClassTable) → AreAlike t u → (c : ClassRef) (s : ℕ) → lookup_at t c s ≡ lookup_at u c s
lookup-alike t u e c s =
    ap (λ supers. lookup_in t.rows (chain_of supers c) s) e.supers
    ∙ lookup-same u.rows t.rows (chain_of u.supers c) s (λ d among. own-alike t.rows u.rows (alike-rows t u e) d s)

-- ---- what is written in them

pub append-alike : (xs ys zs : List Row) → SameRows xs ys → SameRows (xs ++ zs) (ys ++ zs)
append-alike xs ys zs e = record {
  imps = λ c s. imps-append c s xs zs ∙ ap (λ is. is ++ imps_of c s zs) (e.imps c s) ∙ sym (imps-append c s ys zs);
  count = λ test. count-append test xs zs ∙ ap (λ n. n + count_at test zs) (e.count test) ∙ sym (count-append test ys zs);
}

pub set-alike : (xs ys : List Row) (c : ClassRef) (s i : ℕ) → SameRows xs ys → SameRows (set_own c s i xs) (set_own c s i ys)
set-alike xs ys c s i e = record {
  imps = λ d u. imps-set c s i d u xs ∙ ap (λ is. cond (same_class c d && (s == u)) (set_end i is) is) (e.imps d u) ∙ sym (imps-set c s i d u ys);
  count = λ test. count-set c s i test xs ∙ e.count test ∙ sym (count-set c s i test ys);
}

pub method-alike : (o : Option ClassRef) (xs ys : List Row) (s i : ℕ) → SameRows xs ys → SameRows (set_method o s i xs) (set_method o s i ys)
method-alike None xs ys s i e = e
method-alike (Some c) xs ys s i e = set-alike xs ys c s i e

pub without-alike : (xs ys : List Row) (c : ClassRef) (s : ℕ) → SameRows xs ys → SameRows (without_own c s xs) (without_own c s ys)
without-alike xs ys c s e = record {
  imps = λ d u. imps-without c s d u xs ∙ ap (λ is. cond (same_class c d && (s == u)) (drop_end is) is) (e.imps d u) ∙ sym (imps-without c s d u ys);
  count = λ test. same (count_at test (without_own c s xs)) (count_at test (without_own c s ys)) (count_at test xs) (count_at test ys) (gone test (own xs c s)) (gone test (own ys c s))
      (count-without c s test xs) (count-without c s test ys) (ap (gone test) (own-alike xs ys e c s)) (e.count test);
}
  where
    gone : (ClassRef → Bool) → Option ℕ → ℕ
    gone test o = cond (is_some o) (cond (test c) 1 0) 0

    same : (a b n m i j : ℕ) → a + i ≡ n → b + j ≡ m → i ≡ j → n ≡ m → a ≡ b
    same a b n m i j first second gone all = omega (arith, first, second, gone, all)

pub without_class-alike : (xs ys : List Row) (k : ℕ) → SameRows xs ys → SameRows (without_class k xs) (without_class k ys)
without_class-alike xs ys k e = record {
  imps = λ d u. imps-without_class k d u xs ∙ ap (λ is. cond (d.class == k) [] is) (e.imps d u) ∙ sym (imps-without_class k d u ys);
  count = λ test. count-without_class k test xs ∙ e.count (λ c. test c && not (c.class == k)) ∙ sym (count-without_class k test ys);
}

-- ---- a change of them

rows-after : (t u : ClassTable) (x : Change) → AreAlike t u → SameRows (rows_after t x) (rows_after u x)
rows-after t u (Add c s i) e = append-alike t.rows u.rows (row c s i ∷ []) (alike-rows t u e)
rows-after t u (Replace c s i) e = step (own t.rows c (selector_number s)) (own u.rows c (selector_number s)) (own-alike t.rows u.rows (alike-rows t u e) c (selector_number s))
  where
    step : (o v : Option ℕ) → o ≡ v → SameRows (cond (is_some o) (set_own c (selector_number s) (imp_number i) t.rows) (t.rows ++ row c s i ∷ [])) (cond (is_some v) (set_own c (selector_number s) (imp_number i) u.rows) (u.rows ++ row c s i ∷ []))
    step None None same = append-alike t.rows u.rows (row c s i ∷ []) (alike-rows t u e)
    step (Some j) (Some k) same = set-alike t.rows u.rows c (selector_number s) (imp_number i) (alike-rows t u e)
    step None (Some k) same = cc
    step (Some j) None same = cc
rows-after t u (SetImp c s i) e =
    same-then _ _ _ (method-alike (holder_at t c (selector_number s)) t.rows u.rows (selector_number s) (imp_number i) (alike-rows t u e))
    (same-is _ _ (ap (λ o. set_method o (selector_number s) (imp_number i) u.rows) (holder-alike t u e c (selector_number s))))
rows-after t u (Exchange c s d v) e =
    let n = selector_number s in
    let m = selector_number v in
    let inner = method-alike (holder_at t d m) t.rows u.rows m (lookup_at t c n) (alike-rows t u e) in
    let outer = method-alike (holder_at t c n) (set_method (holder_at t d m) m (lookup_at t c n) t.rows) (set_method (holder_at t d m) m (lookup_at t c n) u.rows) n (lookup_at t d m) inner in
    let p = holder-alike t u e c n in
    let q = holder-alike t u e d m in
    let one = lookup-alike t u e c n in
    let two = lookup-alike t u e d m in
    same-then _ _ _ outer (same-is _ _ (λ k. set_method (p k) n (two k) (set_method (q k) m (one k) u.rows)))
rows-after t u (Attach k ms cs) e = append-alike (t.rows ++ rows_at (of_class k) (reverse ms)) (u.rows ++ rows_at (of_class k) (reverse ms)) (rows_at (of_meta k) (reverse cs)) (append-alike t.rows u.rows (rows_at (of_class k) (reverse ms)) (alike-rows t u e))
rows-after t u (AddClass k d) e = alike-rows t u e
rows-after t u (Remove c s) e = without-alike t.rows u.rows c (selector_number s) (alike-rows t u e)
rows-after t u (DisposeClass k) e = without_class-alike t.rows u.rows k (alike-rows t u e)

pub alike-after : (t u : ClassTable) (x : Change) → AreAlike t u → AreAlike (table_after t x) (table_after u x)
unfolding table_after
alike-after t u x e = rows-alike _ _ (ap (λ supers. supers_after supers x) e.supers) (rows-after t u x e)

pub alike-after_all : (t u : ClassTable) (xs : List Change) → AreAlike t u → AreAlike (table_after_all t xs) (table_after_all u xs)
alike-after_all t u [] e = e
alike-after_all t u (x ∷ xs) e = alike-after_all (table_after t x) (table_after u x) xs (alike-after t u x e)
