-- The changes that take one change back leave the tables as they were, except for the order of rows
-- that no lookup compares.
use Rattle.std.proofs.Common.{◌≡◌, ◌<◌, ◌+◌, ℕ, zero, suc, List, [], ◌∷◌, ◌++◌, length, Option, Some, None, Bool, true, false, cond, reverse, refl, sym, ap, ap₂, ◌∙◌, subst, append-nil, append_assoc, arith}
use Rattle.std.specs.Prelude.{◌==◌, ◌&&◌, not, nat_lt, is_some, is_none, slice_set}
use Rattle.std.specs.List.{list_all}
use Rattle.std.specs.Option.{option_map_or}
use Rattle.std.proofs.lemmas.Bool.Decides.{nat_tests}
use Rattle.std.proofs.lemmas.List.{reverse-append}
use Rattle.msg_names.proofs.TestLemmas.{both, same_number, equal, other_number}
use Rattle.msg_names.proofs.ClassRefLemmas.{same_class-is, same_class-refl}
use Rattle.msg_names.specs.declared.value.ClassRef.{ClassRef}
use Rattle.msg_names.specs.declared.value.ImpRef.{ImpRef}
use Rattle.msg_names.specs.declared.value.Selector.{Selector}
use Rattle.msg_names.specs.ClassRef.{same_class, same_truth}
use Rattle.msg_names.specs.Number.{selector_number, selector_of, imp_number, imp_ref_of}
use Rattle.msg_tables.specs.declared.change.Change.{Change}
use Rattle.msg_tables.specs.declared.change.Change.TheVariants.{Add, Replace, SetImp, Exchange, Attach, AddClass, Remove, DisposeClass}
use Rattle.msg_tables.specs.declared.presence.Presence.{Presence}
use Rattle.msg_tables.specs.After.{of_class, of_meta, row, rows_at, without_own, without_class, rows_after, supers_after, table_after}
use Rattle.msg_tables.specs.Chain.{presence_of, is_present}
use Rattle.msg_tables.specs.Log.{table_after_all}
use Rattle.msg_tables.specs.Origin.{OriginView}
use Rattle.msg_rows.specs.RowList.{or_else}
use Rattle.msg_tables.specs.Rows.{Row, ClassTable, is_at, own}
use Rattle.msg_tables.specs.Undo.{AreAlike, are_numbered, covering, covering_all, count_at, imps_of, is_numbered, removing, undo}
use Rattle.msg_tables.proofs.AgainstLemmas.{May, against}
use Rattle.msg_tables.proofs.AlikeLemmas.{SameRows, alike-is, rows-alike}
use Rattle.msg_tables.proofs.ImpsLemmas.{drop_end, drop-back, own-imps, imps-append, count-append, imps-without, count-without, imps-without_class, count-without_class}
use Rattle.msg_tables.proofs.KeptLemmas.{Kept, makes, leaves, is_sound_row}
use Rattle.msg_tables.proofs.LimitLemmas.{none_holds}
use Rattle.msg_tables.proofs.OwnLemmas.{own-append}
use Rattle.msg_tables.proofs.UndoLemmas.{replace-back, set-back, exchange-back, after_all-append}

with_rows : ClassTable → List Row → ClassTable
with_rows t rows = record { supers = t.supers; rows = rows }

-- ---- a row that was added

-- the last row is removed
pub without-last : (c : ClassRef) (s : ℕ) (rows : List Row) (r : Row) → is_at c s r ≡ true → without_own c s (rows ++ r ∷ []) ≡ rows
without-last c s [] r at = rw at refl
without-last c s (x ∷ xs) r at =
    step (is_at c s x) (is_none (own (xs ++ r ∷ []) c s)) (ap is_none (own-append xs (r ∷ []) c s ∙ ap (λ b. or_else (cond b (Some r.imp) None) (own xs c s)) at)) (without-last c s xs r at)
  where
    step : (b n : Bool) → n ≡ false → without_own c s (xs ++ r ∷ []) ≡ xs → cond (b && n) (xs ++ r ∷ []) (x ∷ without_own c s (xs ++ r ∷ [])) ≡ x ∷ xs
    step true true e rest = cc
    step true false e rest = ap (λ rows. x ∷ rows) rest
    step false n e rest = ap (λ rows. x ∷ rows) rest

pub here-at : (c : ClassRef) (s i : ℕ) → is_at c s (record { class = c; sel = s; imp = i }) ≡ true
here-at c s i = rw (same_class-refl c, equal s) refl

add-back : (t : ClassTable) (c : ClassRef) (s : Selector) (i : ImpRef) → table_after (table_after t (Add c s i)) (Remove c s) ≡ t
unfolding table_after
add-back t c s i = ap (λ rows. record { supers = t.supers; rows = rows }) (without-last c (selector_number s) t.rows (row c s i) (here-at c (selector_number s) (imp_number i)))

-- ---- methods that were attached

pub selector-is : (n : ℕ) → nat_lt 0 n ≡ true → selector_number (selector_of n) ≡ n
selector-is zero e = absurd (grind (arith, nat_tests, e))
selector-is (suc n) e = refl

pub rows_at-append : (c : ClassRef) (xs ys : List (ℕ × ℕ)) → rows_at c (xs ++ ys) ≡ rows_at c xs ++ rows_at c ys
rows_at-append c [] ys = refl
rows_at-append c (x ∷ xs) ys = ap (λ rows. record { class = c; sel = x.0; imp = x.1 } ∷ rows) (rows_at-append c xs ys)

-- the first entry is last
pub attached-last : (rows : List Row) (c : ClassRef) (m : ℕ × ℕ) (ms : List (ℕ × ℕ)) → rows ++ rows_at c (reverse (m ∷ ms)) ≡ (rows ++ rows_at c (reverse ms)) ++ record { class = c; sel = m.0; imp = m.1 } ∷ []
attached-last rows c m ms =
    ap (λ ns. rows ++ rows_at c ns) (reverse-append (m ∷ []) ms) ∙ ap (λ more. rows ++ more) (rows_at-append c (reverse ms) (m ∷ [])) ∙ sym (append_assoc rows (rows_at c (reverse ms)) (rows_at c (m ∷ [])))

pub remove-last : (supers : List (Option Presence)) (rows : List Row) (c : ClassRef) (m : ℕ × ℕ) (ms : List (ℕ × ℕ)) → is_numbered m ≡ true
    → table_after (record { supers = supers; rows = rows ++ rows_at c (reverse (m ∷ ms)) }) (Remove c (selector_of m.0)) ≡ record { supers = supers; rows = rows ++ rows_at c (reverse ms) }
unfolding table_after
remove-last supers rows c m ms numbered =
    ap (λ rest. record { supers = supers; rows = rest })
    (ap₂ (λ n rest. without_own c n rest) (selector-is m.0 numbered) (attached-last rows c m ms)
    ∙ without-last c m.0 (rows ++ rows_at c (reverse ms)) (record { class = c; sel = m.0; imp = m.1 }) (here-at c m.0 m.1))

pub removed : (supers : List (Option Presence)) (rows : List Row) (c : ClassRef) (ms : List (ℕ × ℕ)) → list_all is_numbered ms ≡ true
    → table_after_all (record { supers = supers; rows = rows ++ rows_at c (reverse ms) }) (removing c ms) ≡ record { supers = supers; rows = rows }
removed supers rows c [] all = ap (λ rest. record { supers = supers; rows = rest }) (append-nil rows)
removed supers rows c (m ∷ ms) all =
    let parts = both (is_numbered m) (list_all is_numbered ms) all in
    ap (λ t. table_after_all t (removing c ms)) (remove-last supers rows c m ms parts.0) ∙ removed supers rows c ms parts.1

attach-back : (t : ClassTable) (k : ℕ) (ms cs : List (ℕ × ℕ)) → are_numbered (Attach k ms cs) ≡ true
    → table_after_all (table_after t (Attach k ms cs)) (removing (of_meta k) cs ++ removing (of_class k) ms) ≡ t
unfolding table_after
attach-back t k ms cs all =
    let parts = both (list_all is_numbered ms) (list_all is_numbered cs) all in
    after_all-append (record { supers = t.supers; rows = t.rows ++ rows_at (of_class k) (reverse ms) ++ rows_at (of_meta k) (reverse cs) }) (removing (of_meta k) cs) (removing (of_class k) ms)
    ∙ ap (λ u. table_after_all u (removing (of_class k) ms)) (removed t.supers (t.rows ++ rows_at (of_class k) (reverse ms)) (of_meta k) cs parts.1)
    ∙ removed t.supers t.rows (of_class k) ms parts.0

-- ---- a class that was made

pub none-of : {A : Type 0} (o : Option A) → is_some o ≡ false → o ≡ None
none-of None e = refl
none-of (Some a) e = cc

pub set-twice : (supers : List (Option Presence)) (k : ℕ) (v w : Option Presence) → k < length supers → presence_of supers k ≡ w → slice_set (slice_set supers k v) k w ≡ supers
set-twice [] k v w inside is = absurd (omega (arith, inside))
set-twice (x ∷ xs) zero v w inside is = ap (λ y. y ∷ xs) (sym is)
set-twice (x ∷ xs) (suc k) v w inside is = ap (λ ys. x ∷ ys) (set-twice xs k v w (omega (arith, inside)) is)

-- no row is at a class that isn't present
pub without-absent : (o : OriginView) (supers : List (Option Presence)) (k : ℕ) (rows : List Row) → is_present supers k ≡ false → list_all (is_sound_row o supers) rows ≡ true → without_class k rows ≡ rows
without-absent o supers k [] gone all = refl
without-absent o supers k (r ∷ rs) gone all =
    let parts = both (is_sound_row o supers r) (list_all (is_sound_row o supers) rs) all in
    let here = (both (is_present supers r.class.class) _ parts.0).0 in
    step (r.class.class == k) refl here (without-absent o supers k rs gone parts.1)
  where
    step : (b : Bool) → (r.class.class == k) ≡ b → is_present supers r.class.class ≡ true → without_class k rs ≡ rs → cond b (without_class k rs) (r ∷ without_class k rs) ≡ r ∷ rs
    step true e here rest = let clash : is_present supers k ≡ true = subst (λ j. is_present supers j ≡ true) (same_number r.class.class k e) here in cc
    step false e here rest = ap (λ rows. r ∷ rows) rest

make-back : (o : OriginView) (t : ClassTable) (k : ℕ) (d : Option ℕ) → Kept o t → May o t (AddClass k d) → table_after (table_after t (AddClass k d)) (DisposeClass k) ≡ t
unfolding table_after
make-back o t k d kept e =
    let m = makes o t kept k d e in
    let supers = set-twice t.supers k (Some (record { superclass = d })) None m.inside (none-of (presence_of t.supers k) m.gone) in
    let rows = without-absent o t.supers k t.rows m.gone kept.rows in
    λ j. record { supers = supers j; rows = rows j }

-- ---- a row that was removed

-- a category of one method adds its row
pub covering-supers : (supers : List (Option Presence)) (c : ClassRef) (s i : ℕ) → supers_after supers (covering c s i) ≡ supers
covering-supers supers c s i = step c.meta
  where
    step : (b : Bool) → supers_after supers (cond b (Attach c.class [] ((s, i) ∷ [])) (Attach c.class ((s, i) ∷ []) [])) ≡ supers
    step true = refl
    step false = refl

pub covering-rows : (t : ClassTable) (c : ClassRef) (s i : ℕ) → rows_after t (covering c s i) ≡ t.rows ++ record { class = c; sel = s; imp = i } ∷ []
covering-rows t c s i = step c.meta refl
  where
    step : (b : Bool) → c.meta ≡ b → rows_after t (cond b (Attach c.class [] ((s, i) ∷ [])) (Attach c.class ((s, i) ∷ []) [])) ≡ t.rows ++ record { class = c; sel = s; imp = i } ∷ []
    step true e = let back = sym e in ap (λ rows. rows ++ record { class = of_meta c.class; sel = s; imp = i } ∷ []) (append-nil t.rows) ∙ (λ j. t.rows ++ record { class = record { class = c.class; meta = back j }; sel = s; imp = i } ∷ [])
    step false e = let back = sym e in append-nil (t.rows ++ record { class = of_class c.class; sel = s; imp = i } ∷ []) ∙ (λ j. t.rows ++ record { class = record { class = c.class; meta = back j }; sel = s; imp = i } ∷ [])

pub covered : (t : ClassTable) (c : ClassRef) (s i : ℕ) → table_after t (covering c s i) ≡ record { supers = t.supers; rows = t.rows ++ record { class = c; sel = s; imp = i } ∷ [] }
unfolding table_after
covered t c s i = let supers = covering-supers t.supers c s i in let rows = covering-rows t c s i in λ j. record { supers = supers j; rows = rows j }

-- a row is removed and added again
pub comes-again : (rows : List Row) (c : ClassRef) (s i : ℕ) → own rows c s ≡ Some i → SameRows (without_own c s rows ++ record { class = c; sel = s; imp = i } ∷ []) rows
comes-again rows c s i is = record {
  imps = λ d u. imps-append d u (without_own c s rows) (record { class = c; sel = s; imp = i } ∷ []) ∙ ap (λ l. l ++ imps_of d u (record { class = c; sel = s; imp = i } ∷ [])) (imps-without c s d u rows) ∙ at d u (same_class c d) refl (s == u) refl;
  count = λ test. count-append test (without_own c s rows) (record { class = c; sel = s; imp = i } ∷ []) ∙ counted test (count-without c s test rows);
}
  where
    at : (d : ClassRef) (u : ℕ) (a : Bool) → same_class c d ≡ a → (b : Bool) → (s == u) ≡ b → cond (a && b) (drop_end (imps_of d u rows)) (imps_of d u rows) ++ cond (a && b) (i ∷ []) [] ≡ imps_of d u rows
    at d u true e true f =
        let class = same_class-is c d e in
        let sel = same_number s u f in
        drop-back (imps_of d u rows) i (sym (own-imps rows d u) ∙ sym (ap₂ (λ z n. own rows z n) class sel) ∙ is)
    at d u true e false f = append-nil (imps_of d u rows)
    at d u false e b f = append-nil (imps_of d u rows)

    counted : (test : ClassRef → Bool) → count_at test (without_own c s rows) + cond (is_some (own rows c s)) (cond (test c) 1 0) 0 ≡ count_at test rows
        → count_at test (without_own c s rows) + (cond (test c) 1 0 + 0) ≡ count_at test rows
    counted test e = let f : count_at test (without_own c s rows) + cond (test c) 1 0 ≡ count_at test rows = subst (λ o. count_at test (without_own c s rows) + cond (is_some o) (cond (test c) 1 0) 0 ≡ count_at test rows) is e in omega (arith, f)

-- ---- a class that was disposed of

-- the rows of a class reference
abbrev pub rows_of : ClassRef → List Row → List Row
rows_of c [] = []
rows_of c (r ∷ rs) = cond (same_class r.class c) (record { class = c; sel = r.sel; imp = r.imp } ∷ rows_of c rs) (rows_of c rs)

-- they are added again one by one
pub covered-all : (supers : List (Option Presence)) (rows : List Row) (c : ClassRef) (rs : List Row) → table_after_all (record { supers = supers; rows = rows }) (covering_all c rs) ≡ record { supers = supers; rows = rows ++ rows_of c rs }
covered-all supers rows c [] = ap (λ rest. record { supers = supers; rows = rest }) (sym (append-nil rows))
covered-all supers rows c (r ∷ rs) = step (same_class r.class c) refl (covered-all supers rows c rs) (covered-all supers (rows ++ record { class = c; sel = r.sel; imp = r.imp } ∷ []) c rs)
  where
    new : Row
    new = record { class = c; sel = r.sel; imp = r.imp }

    step : (b : Bool) → same_class r.class c ≡ b → table_after_all (record { supers = supers; rows = rows }) (covering_all c rs) ≡ record { supers = supers; rows = rows ++ rows_of c rs }
        → table_after_all (record { supers = supers; rows = rows ++ record { class = c; sel = r.sel; imp = r.imp } ∷ [] }) (covering_all c rs) ≡ record { supers = supers; rows = (rows ++ record { class = c; sel = r.sel; imp = r.imp } ∷ []) ++ rows_of c rs }
        → table_after_all (record { supers = supers; rows = rows }) (cond b (covering c r.sel r.imp ∷ covering_all c rs) (covering_all c rs)) ≡ record { supers = supers; rows = rows ++ cond b (record { class = c; sel = r.sel; imp = r.imp } ∷ rows_of c rs) (rows_of c rs) }
    step true e skip rest =
        ap (λ t. table_after_all t (covering_all c rs)) (covered (record { supers = supers; rows = rows }) c r.sel r.imp)
        ∙ rest ∙ ap (λ more. record { supers = supers; rows = more }) (append_assoc rows (record { class = c; sel = r.sel; imp = r.imp } ∷ []) (rows_of c rs))
    step false e skip rest = skip

imps-rows_of : (c d : ClassRef) (u : ℕ) (rs : List Row) → imps_of d u (rows_of c rs) ≡ cond (same_class c d) (imps_of d u rs) []
imps-rows_of c d u [] = step (same_class c d)
  where
    step : (b : Bool) → ◌≡◌ {A = List ℕ} [] (cond b [] [])
    step true = refl
    step false = refl
imps-rows_of c d u (r ∷ rs) = step (same_class r.class c) refl (same_class c d) refl (imps-rows_of c d u rs)
  where
    step : (a : Bool) → same_class r.class c ≡ a → (b : Bool) → same_class c d ≡ b → imps_of d u (rows_of c rs) ≡ cond b (imps_of d u rs) []
        → imps_of d u (cond a (record { class = c; sel = r.sel; imp = r.imp } ∷ rows_of c rs) (rows_of c rs)) ≡ cond b (cond (same_class r.class d && (r.sel == u)) (r.imp ∷ imps_of d u rs) (imps_of d u rs)) []
    step true e true f rest = rw (f, ap (λ z. same_class z d) (same_class-is r.class c e) ∙ f) (here (r.sel == u) rest)
      where
        here : (x : Bool) → imps_of d u (rows_of c rs) ≡ imps_of d u rs → cond x (r.imp ∷ imps_of d u (rows_of c rs)) (imps_of d u (rows_of c rs)) ≡ cond x (r.imp ∷ imps_of d u rs) (imps_of d u rs)
        here true rest = ap (λ l. r.imp ∷ l) rest
        here false rest = rest
    step true e false f rest = rw f rest
    step false e true f rest = rw (other e f) rest
      where
        other : same_class r.class c ≡ false → same_class c d ≡ true → same_class r.class d ≡ false
        other e f = ap (same_class r.class) (sym (same_class-is c d f)) ∙ e
    step false e false f rest = rest

-- a row is in just one of three parts
one-part : (test : ClassRef → Bool) (k : ℕ) (z : ClassRef) → cond (test z && not (z.class == k)) 1 0 + (cond (test z && same_class z (of_class k)) 1 0 + cond (test z && same_class z (of_meta k)) 1 0) ≡ cond (test z) 1 0
one-part test k z = step (test z) (z.class == k) z.meta
  where
    step : (a b m : Bool) → cond (a && not b) 1 0 + (cond (a && (b && same_truth m false)) 1 0 + cond (a && (b && same_truth m true)) 1 0) ≡ cond a 1 0
    step true true true = refl
    step true true false = refl
    step true false true = refl
    step true false false = refl
    step false true true = refl
    step false true false = refl
    step false false true = refl
    step false false false = refl

count-rows_of : (test : ClassRef → Bool) (c : ClassRef) (rs : List Row) → count_at test (rows_of c rs) ≡ count_at (λ z. test z && same_class z c) rs
count-rows_of test c [] = refl
count-rows_of test c (r ∷ rs) = step (same_class r.class c) refl (count-rows_of test c rs)
  where
    both-ways : (b : Bool) → (b && true) ≡ b
    both-ways true = refl
    both-ways false = refl

    none : (b : Bool) → (b && false) ≡ false
    none true = refl
    none false = refl

    step : (a : Bool) → same_class r.class c ≡ a → count_at test (rows_of c rs) ≡ count_at (λ z. test z && same_class z c) rs
        → count_at test (cond a (record { class = c; sel = r.sel; imp = r.imp } ∷ rows_of c rs) (rows_of c rs)) ≡ cond (test r.class && a) 1 0 + count_at (λ z. test z && same_class z c) rs
    step true e rest = ap₂ (λ z n. cond (test z) 1 0 + n) (sym (same_class-is r.class c e)) rest ∙ ap (λ b. cond b 1 0 + count_at (λ z. test z && same_class z c) rs) (sym (both-ways (test r.class)))
    step false e rest = rw (none (test r.class)) (omega (arith, rest))

parts : (test : ClassRef → Bool) (k : ℕ) (rows : List Row)
    → count_at (λ z. test z && not (z.class == k)) rows + (count_at (λ z. test z && same_class z (of_class k)) rows + count_at (λ z. test z && same_class z (of_meta k)) rows) ≡ count_at test rows
parts test k [] = refl
parts test k (r ∷ rs) =
    add (cond (test r.class && not (r.class.class == k)) 1 0) (cond (test r.class && same_class r.class (of_class k)) 1 0) (cond (test r.class && same_class r.class (of_meta k)) 1 0) (cond (test r.class) 1 0)
    (count_at (λ z. test z && not (z.class == k)) rs) (count_at (λ z. test z && same_class z (of_class k)) rs) (count_at (λ z. test z && same_class z (of_meta k)) rs) (count_at test rs)
    (one-part test k r.class) (parts test k rs)
  where
    add : (a b c d i j l m : ℕ) → a + (b + c) ≡ d → i + (j + l) ≡ m → (a + i) + ((b + j) + (c + l)) ≡ d + m
    add a b c d i j l m e f = omega (arith, e, f)

-- the rows without those of a class, and those, are the rows
pub same-parts : (k : ℕ) (rows : List Row) → SameRows ((without_class k rows ++ rows_of (of_class k) rows) ++ rows_of (of_meta k) rows) rows
same-parts k rows = record {
  imps = λ d u.
      imps-append d u (without_class k rows ++ rows_of (of_class k) rows) (rows_of (of_meta k) rows)
      ∙ ap (λ l. l ++ imps_of d u (rows_of (of_meta k) rows)) (imps-append d u (without_class k rows) (rows_of (of_class k) rows))
      ∙ (let a = imps-without_class k d u rows in let b = imps-rows_of (of_class k) d u rows in let c = imps-rows_of (of_meta k) d u rows in λ j. (a j ++ b j) ++ c j)
      ∙ at (d.class == k) (k == d.class) (turned d.class) d.meta (imps_of d u rows);
  count = λ test.
      count-append test (without_class k rows ++ rows_of (of_class k) rows) (rows_of (of_meta k) rows)
      ∙ sum test (count-append test (without_class k rows) (rows_of (of_class k) rows)) (count-without_class k test rows) (count-rows_of test (of_class k) rows) (count-rows_of test (of_meta k) rows) (parts test k rows);
}
  where
    turned : (j : ℕ) → (j == k) ≡ (k == j)
    turned j = step (j == k) refl
      where
        step : (b : Bool) → (j == k) ≡ b → b ≡ (k == j)
        step true e = sym (ap (λ n. n == j) (sym (same_number j k e)) ∙ equal j)
        step false e = back (k == j) refl
          where
            back : (c : Bool) → (k == j) ≡ c → false ≡ c
            back false f = refl
            back true f = absurd (other_number j k e (sym (same_number k j f)))

    at : (a b : Bool) → a ≡ b → (m : Bool) (l : List ℕ) → (cond a [] l ++ cond (b && same_truth false m) l []) ++ cond (b && same_truth true m) l [] ≡ l
    at true true e true l = refl
    at true true e false l = append-nil l
    at true false e m l = cc
    at false true e m l = cc
    at false false e m l = append-nil (l ++ []) ∙ append-nil l

    sum : (test : ClassRef → Bool) → count_at test (without_class k rows ++ rows_of (of_class k) rows) ≡ count_at test (without_class k rows) + count_at test (rows_of (of_class k) rows)
        → count_at test (without_class k rows) ≡ count_at (λ z. test z && not (z.class == k)) rows → count_at test (rows_of (of_class k) rows) ≡ count_at (λ z. test z && same_class z (of_class k)) rows
        → count_at test (rows_of (of_meta k) rows) ≡ count_at (λ z. test z && same_class z (of_meta k)) rows
        → count_at (λ z. test z && not (z.class == k)) rows + (count_at (λ z. test z && same_class z (of_class k)) rows + count_at (λ z. test z && same_class z (of_meta k)) rows) ≡ count_at test rows
        → count_at test (without_class k rows ++ rows_of (of_class k) rows) + count_at test (rows_of (of_meta k) rows) ≡ count_at test rows
    sum test a b c d e = omega (arith, a, b, c, d, e)

-- the class with its superclass
pub present-is : (supers : List (Option Presence)) (k : ℕ) → is_present supers k ≡ true → (p : Presence) × (presence_of supers k ≡ Some p)
present-is supers k e = step (presence_of supers k) refl e
  where
    step : (o : Option Presence) → presence_of supers k ≡ o → is_some o ≡ true → (p : Presence) × (presence_of supers k ≡ Some p)
    step None is e = cc
    step (Some p) is e = (p, is)

dispose-back : (o : OriginView) (t : ClassTable) (k : ℕ) (p : Presence) → Kept o t → May o t (DisposeClass k) → presence_of t.supers k ≡ Some p
    → AreAlike (table_after_all (table_after t (DisposeClass k)) (AddClass k p.superclass ∷ covering_all (of_class k) t.rows ++ covering_all (of_meta k) t.rows)) t
unfolding table_after
dispose-back o t k p kept e is =
    let l = leaves o t kept k e in
    let made = slice_set (slice_set t.supers k None) k (Some (record { superclass = p.superclass })) in
    let supers = set-twice t.supers k None (Some p) l.inside is in
    let comes : table_after_all (record { supers = made; rows = without_class k t.rows }) (covering_all (of_class k) t.rows ++ covering_all (of_meta k) t.rows)
    ≡ record { supers = made; rows = (without_class k t.rows ++ rows_of (of_class k) t.rows) ++ rows_of (of_meta k) t.rows } =
    after_all-append (record { supers = made; rows = without_class k t.rows }) (covering_all (of_class k) t.rows) (covering_all (of_meta k) t.rows)
    ∙ ap (λ u. table_after_all u (covering_all (of_meta k) t.rows)) (covered-all made (without_class k t.rows) (of_class k) t.rows)
    ∙ covered-all made (without_class k t.rows ++ rows_of (of_class k) t.rows) (of_meta k) t.rows in
    subst (λ u. AreAlike u t) (sym comes) (rows-alike (record { supers = made; rows = (without_class k t.rows ++ rows_of (of_class k) t.rows) ++ rows_of (of_meta k) t.rows }) t supers (same-parts k t.rows))

-- ---- one change

pub back : (o : OriginView) (t : ClassTable) (x : Change) → Kept o t → May o t x → are_numbered x ≡ true → AreAlike (table_after_all (table_after t x) (undo t x)) t
unfolding table_after
back o t (Add c s i) kept e numbered = alike-is _ _ (add-back t c s i)
back o t (Replace c s i) kept e numbered = step (own t.rows c (selector_number s)) refl
  where
    appended : own t.rows c (selector_number s) ≡ None → table_after t (Replace c s i) ≡ table_after t (Add c s i)
    appended is = rw is refl

    step : (v : Option ℕ) → own t.rows c (selector_number s) ≡ v → AreAlike (table_after_all (table_after t (Replace c s i)) (option_map_or (λ old. Replace c s (imp_ref_of old)) v (Remove c s) ∷ [])) t
    step None is = alike-is _ _ (ap (λ u. table_after u (Remove c s)) (appended is) ∙ add-back t c s i)
    step (Some old) is = alike-is _ _ (replace-back t c s i old is)
back o t (SetImp c s i) kept e numbered = alike-is _ _ (set-back t c s i)
back o t (Exchange c s d u) kept e numbered = alike-is _ _ (exchange-back t c d s u)
back o t (Attach k ms cs) kept e numbered = alike-is _ _ (attach-back t k ms cs numbered)
back o t (AddClass k d) kept e numbered = alike-is _ _ (make-back o t k d kept e)
back o t (Remove c s) kept e numbered = step (own t.rows c (selector_number s)) refl (none_holds (against false o t (Remove c s)) 2 e)
  where
    step : (v : Option ℕ) → own t.rows c (selector_number s) ≡ v → not (is_some v) ≡ false
        → AreAlike (table_after_all (table_after t (Remove c s)) (option_map_or (λ old. covering c (selector_number s) old ∷ []) v [])) t
    step None is there = cc
    step (Some old) is there =
        subst (λ u. AreAlike u t) (sym (covered (record { supers = t.supers; rows = without_own c (selector_number s) t.rows }) c (selector_number s) old))
        (rows-alike (record { supers = t.supers; rows = without_own c (selector_number s) t.rows ++ record { class = c; sel = selector_number s; imp = old } ∷ [] }) t refl (comes-again t.rows c (selector_number s) old is))
back o t (DisposeClass k) kept e numbered =
    let l = leaves o t kept k e in
    let here = present-is t.supers k l.here in
    subst (λ v. AreAlike (table_after_all (table_after t (DisposeClass k)) (option_map_or (λ (p : Presence). AddClass k p.superclass ∷ covering_all (of_class k) t.rows ++ covering_all (of_meta k) t.rows) v [])) t)
    (sym here.1) (dispose-back o t k here.0 kept e here.1)
