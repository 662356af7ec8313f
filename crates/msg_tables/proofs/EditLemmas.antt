-- Rows that are removed, and the number of rows.
use Rattle.std.proofs.Common.{◌≡◌, ◌≢◌, ◌<◌, ◌+◌, ℕ, zero, suc, List, [], ◌∷◌, ◌++◌, length, length-append, Option, Some, None, Bool, true, false, cond, refl, sym, ap, ◌∙◌, subst, arith}
use Rattle.msg_tables.specs.Origin.{are_listed}
use Rattle.msg_tables.proofs.ListedLemmas.{and_both}
use Rattle.std.specs.Prelude.{◌==◌, ◌&&◌, nat_le, is_none, is_some, IsSome, reverse, slice_index_or, slice_set, sum_by}
use Rattle.std.proofs.lemmas.List.Sums.{sum_by-cons}
use Rattle.std.proofs.lemmas.List.{get_or-set_other, get_or-set_same, length-reverse, length-set}
use Rattle.msg_names.specs.ClassRef.{same_class, same_truth, slot_of}
use Rattle.msg_names.specs.Number.{selector_number, imp_number}
use Rattle.msg_names.specs.declared.value.ClassRef.{ClassRef}
use Rattle.msg_names.proofs.ClassRefLemmas.{same_class-is}
use Rattle.msg_names.proofs.TestLemmas.{both, equal, same_number}
use Rattle.msg_tables.specs.After.{of_class, of_meta, rows_at, without_class, without_own}
use Rattle.msg_tables.specs.Edits.{IsOfTables, added, edited, removed, rewritten}
use Rattle.msg_rows.specs.RowList.{or_else, own_in, set_last, without_row}
use Rattle.msg_tables.specs.Rows.{Row, is_at, own}
use Rattle.msg_tables.specs.Stands.{Holds, pairs_at}
use Rattle.msg_tables.specs.View.{TablesView, kept}
use Rattle.msg_tables.specs.declared.edit.Edit.{Edit}
use Rattle.msg_tables.specs.declared.edit.Edit.TheVariants as edit
use Rattle.msg_tables.proofs.HoldsLemmas.{class-apart, holds-put, kept-other, length-rows_at, length-set_own}
use Rattle.msg_tables.proofs.LookupLemmas.{own-pairs_at}

-- ---- the own row is removed

pub pairs_at-without_own : (c : ClassRef) (s : ℕ) (rows : List Row) → pairs_at c (without_own c s rows) ≡ without_row s (pairs_at c rows)
pairs_at-without_own c s [] = refl
pairs_at-without_own c s (r ∷ rs) = step (same_class r.class c) refl (r.sel == s) refl (own rs c s) (own-pairs_at c s rs) (pairs_at-without_own c s rs)
  where
    step : (b : Bool) → same_class r.class c ≡ b → (d : Bool) → (r.sel == s) ≡ d → (o : Option ℕ) → o ≡ own_in s (pairs_at c rs) → pairs_at c (without_own c s rs) ≡ without_row s (pairs_at c rs)
        → pairs_at c (cond ((b && d) && is_none o) rs (r ∷ without_own c s rs)) ≡ without_row s (cond b ((r.sel, r.imp) ∷ pairs_at c rs) (pairs_at c rs))
    step false e d f o is rest = rw e rest
    step true e true f None is rest = rw (f, ← is) refl
    step true e true f (Some j) is rest = rw (e, f, ← is) (ap (λ ps. (r.sel, r.imp) ∷ ps) rest)
    step true e false f o is rest = rw (e, f) (ap (λ ps. (r.sel, r.imp) ∷ ps) rest)

pub pairs_at-without_other : (c d : ClassRef) (s : ℕ) (rows : List Row) → same_class c d ≡ false → pairs_at d (without_own c s rows) ≡ pairs_at d rows
pairs_at-without_other c d s [] apart = refl
pairs_at-without_other c d s (r ∷ rs) apart = step (same_class r.class c) refl (r.sel == s) (is_none (own rs c s)) (pairs_at-without_other c d s rs apart)
  where
    kept-row : pairs_at d (without_own c s rs) ≡ pairs_at d rs → pairs_at d (r ∷ without_own c s rs) ≡ pairs_at d (r ∷ rs)
    kept-row rest = ap (λ ps. cond (same_class r.class d) ((r.sel, r.imp) ∷ ps) ps) rest

    step : (b : Bool) → same_class r.class c ≡ b → (x n : Bool) → pairs_at d (without_own c s rs) ≡ pairs_at d rs → pairs_at d (cond ((b && x) && n) rs (r ∷ without_own c s rs)) ≡ pairs_at d (r ∷ rs)
    step true e true true rest =
        let other : same_class r.class d ≡ false = subst (λ z. same_class z d ≡ false) (sym (same_class-is r.class c e)) apart in
        rw other refl
    step true e true false rest = kept-row rest
    step true e false n rest = kept-row rest
    step false e x n rest = kept-row rest

pub holds-remove : (lists : List (List (ℕ × ℕ))) (rows : List Row) (c : ClassRef) (s : ℕ) → slot_of c < length lists → Holds lists rows → Holds (slice_set lists (slot_of c) (without_row s (kept lists c))) (without_own c s rows)
holds-remove lists rows c s inside holds =
    holds-put lists rows (without_own c s rows) c (without_row s (kept lists c)) inside holds (ap (without_row s) (holds.at c) ∙ sym (pairs_at-without_own c s rows)) (λ d e. pairs_at-without_other c d s rows e)

pub length-without_own : (c : ClassRef) (s : ℕ) (rows : List Row) → is_some (own rows c s) ≡ true → suc (length (without_own c s rows)) ≡ length rows
length-without_own c s [] there = cc
length-without_own c s (r ∷ rs) there = step (own rs c s) refl (is_at c s r) there (length-without_own c s rs)
  where
    step : (o : Option ℕ) → own rs c s ≡ o → (b : Bool) → is_some (or_else o (cond b (Some r.imp) None)) ≡ true → (is_some (own rs c s) ≡ true → suc (length (without_own c s rs)) ≡ length rs)
        → suc (length (cond (b && is_none o) rs (r ∷ without_own c s rs))) ≡ length (r ∷ rs)
    step (Some i) e true there rest = ap suc (rest (ap is_some e))
    step (Some i) e false there rest = ap suc (rest (ap is_some e))
    step None e true there rest = refl
    step None e false there rest = cc

-- ---- the rows of a class and of its metaclass are removed

of-class : (c d : ClassRef) (k : ℕ) → same_class c d ≡ true → (c.class == k) ≡ (d.class == k)
of-class c d k e = ap (λ (z : ClassRef). z.class == k) (same_class-is c d e)

pub pairs_at-gone : (d : ClassRef) (k : ℕ) (rows : List Row) → (d.class == k) ≡ true → pairs_at d (without_class k rows) ≡ []
pairs_at-gone d k [] of = refl
pairs_at-gone d k (r ∷ rs) of = step (r.class.class == k) refl (same_class r.class d) refl (pairs_at-gone d k rs of)
  where
    step : (b : Bool) → (r.class.class == k) ≡ b → (a : Bool) → same_class r.class d ≡ a → pairs_at d (without_class k rs) ≡ [] → pairs_at d (cond b (without_class k rs) (r ∷ without_class k rs)) ≡ []
    step true e a f rest = rest
    step false e true f rest = let clash = sym e ∙ of-class r.class d k f ∙ of in cc
    step false e false f rest = rw f rest

pub pairs_at-stays : (d : ClassRef) (k : ℕ) (rows : List Row) → (d.class == k) ≡ false → pairs_at d (without_class k rows) ≡ pairs_at d rows
pairs_at-stays d k [] of = refl
pairs_at-stays d k (r ∷ rs) of = step (r.class.class == k) refl (same_class r.class d) refl (pairs_at-stays d k rs of)
  where
    step : (b : Bool) → (r.class.class == k) ≡ b → (a : Bool) → same_class r.class d ≡ a → pairs_at d (without_class k rs) ≡ pairs_at d rs
        → pairs_at d (cond b (without_class k rs) (r ∷ without_class k rs)) ≡ cond a ((r.sel, r.imp) ∷ pairs_at d rs) (pairs_at d rs)
    step true e true f rest = let clash = sym e ∙ of-class r.class d k f ∙ of in cc
    step true e false f rest = rest
    step false e true f rest = rw f (ap (λ ps. (r.sel, r.imp) ∷ ps) rest)
    step false e false f rest = rw f rest

-- both lists are emptied
pub holds-dispose : (lists : List (List (ℕ × ℕ))) (rows : List Row) (k : ℕ) → slot_of (of_meta k) < length lists → Holds lists rows
    → Holds (slice_set (slice_set lists (slot_of (of_meta k)) []) (slot_of (of_class k)) []) (without_class k rows)
holds-dispose lists rows k inside holds = record { at = λ d. at d (d.class == k) refl d.meta refl }
  where
    first : List (List (ℕ × ℕ))
    first = slice_set lists (slot_of (of_meta k)) []

    after : List (List (ℕ × ℕ))
    after = slice_set (slice_set lists (slot_of (of_meta k)) []) (slot_of (of_class k)) []

    own-gone : kept (slice_set (slice_set lists (slot_of (of_meta k)) []) (slot_of (of_class k)) []) (of_class k) ≡ []
    own-gone = get_or-set_same (slice_set lists (slot_of (of_meta k)) []) (slot_of (of_class k)) [] [] (omega (arith, inside, length-set lists (slot_of (of_meta k)) []))

    meta-gone : kept (slice_set (slice_set lists (slot_of (of_meta k)) []) (slot_of (of_class k)) []) (of_meta k) ≡ []
    meta-gone = kept-other (slice_set lists (slot_of (of_meta k)) []) (of_class k) (of_meta k) [] (class-apart k) ∙ get_or-set_same lists (slot_of (of_meta k)) [] [] inside

    stays : (d : ClassRef) → (d.class == k) ≡ false → kept (slice_set (slice_set lists (slot_of (of_meta k)) []) (slot_of (of_class k)) []) d ≡ kept lists d
    stays d e =
        kept-other (slice_set lists (slot_of (of_meta k)) []) (of_class k) d [] (other (of_class k) refl) ∙ kept-other lists (of_meta k) d [] (other (of_meta k) refl)
      where
        other : (c : ClassRef) → c.class ≡ k → same_class c d ≡ false
        other c is = step (same_class c d) refl
          where
            step : (b : Bool) → same_class c d ≡ b → b ≡ false
            step false f = refl
            step true f =
                let there : (d.class == k) ≡ true = sym (of-class c d k f) ∙ ap (λ n. n == k) is ∙ equal k in
                let clash : true ≡ false = sym there ∙ e in cc

    at : (d : ClassRef) (b : Bool) → (d.class == k) ≡ b → (m : Bool) → d.meta ≡ m → kept (slice_set (slice_set lists (slot_of (of_meta k)) []) (slot_of (of_class k)) []) d ≡ pairs_at d (without_class k rows)
    at d false e m f = stays d e ∙ holds.at d ∙ sym (pairs_at-stays d k rows e)
    at d true e true f =
        let is : d ≡ of_meta k = λ i. record { class = same_number d.class k e i; meta = f i } in
        ap (kept (slice_set (slice_set lists (slot_of (of_meta k)) []) (slot_of (of_class k)) [])) is ∙ meta-gone ∙ sym (pairs_at-gone d k rows e)
    at d true e false f =
        let is : d ≡ of_class k = λ i. record { class = same_number d.class k e i; meta = f i } in
        ap (kept (slice_set (slice_set lists (slot_of (of_meta k)) []) (slot_of (of_class k)) [])) is ∙ own-gone ∙ sym (pairs_at-gone d k rows e)

pub length-without_class : (k : ℕ) (rows : List Row) → length (without_class k rows) + (length (pairs_at (of_class k) rows) + length (pairs_at (of_meta k) rows)) ≡ length rows
length-without_class k [] = omega arith
length-without_class k (r ∷ rs) = step (r.class.class == k) r.class.meta (length-without_class k rs)
  where
    step : (b m : Bool) → length (without_class k rs) + (length (pairs_at (of_class k) rs) + length (pairs_at (of_meta k) rs)) ≡ length rs
        → length (cond b (without_class k rs) (r ∷ without_class k rs))
        + (length (cond (b && same_truth m false) ((r.sel, r.imp) ∷ pairs_at (of_class k) rs) (pairs_at (of_class k) rs)) + length (cond (b && same_truth m true) ((r.sel, r.imp) ∷ pairs_at (of_meta k) rs) (pairs_at (of_meta k) rs))) ≡ length (r ∷ rs)
    step true true rest = omega (arith, rest)
    step true false rest = omega (arith, rest)
    step false m rest = omega (arith, rest)

-- ---- the number of rows after an edit

module _ (t : TablesView) (rows : List Row) (holds : Holds t.lists rows) where
  own-there : (c : ClassRef) (s : ℕ) → IsSome (own_in s (kept t.lists c)) → is_some (own rows c s) ≡ true
  own-there c s there = ap is_some (own-pairs_at c s rows ∙ ap (own_in s) (sym (holds.at c))) ∙ there

  pub length-edited : (e : Edit) → IsOfTables t e → length (edited e rows) + removed t e ≡ length rows + added e
  length-edited (edit.Append r) named = let n = length-append rows (record { class = r.class; sel = selector_number r.sel; imp = imp_number r.imp } ∷ []) in omega (arith, n)
  length-edited (edit.Rewrite r) named = omega (arith, length-set_own r.class (selector_number r.sel) (imp_number r.imp) rows)
  length-edited (edit.RewriteBoth a b) named = omega (arith, length-set_own a.class (selector_number a.sel) (imp_number a.imp) (rewritten b rows), length-set_own b.class (selector_number b.sel) (imp_number b.imp) rows)
  length-edited (edit.Attach k methods class_methods) named =
      let own = rows_at (of_class k) (reverse methods.now) in
      let meta = rows_at (of_meta k) (reverse class_methods.now) in
      let total : length (rows ++ own ++ meta) ≡ length rows + (length methods.now + length class_methods.now) = omega (arith, length-append (rows ++ own) meta, length-append rows own, length-rows_at (of_class k) (reverse methods.now), length-rows_at (of_meta k) (reverse class_methods.now), length-reverse methods.now, length-reverse class_methods.now) in
      omega (arith, total)
  length-edited (edit.Make k d) named = omega arith
  length-edited (edit.Remove c s) named = let n = length-without_own c (selector_number s) rows (own-there c (selector_number s) named.1) in omega (arith, n)
  length-edited (edit.Dispose k) named =
      let n = length-without_class k rows in
      let own = ap length (holds.at (of_class k)) in
      let meta = ap length (holds.at (of_meta k)) in
      omega (arith, n, own, meta)

-- ---- the number of rows in lists

pub sum-put : (lists : List (List (ℕ × ℕ))) (k : ℕ) (ms : List (ℕ × ℕ)) → k < length lists → sum_by length (slice_set lists k ms) + length (slice_index_or lists k []) ≡ sum_by length lists + length ms
sum-put [] k ms inside = absurd (omega (arith, inside))
sum-put (x ∷ xs) zero ms inside =
    let a = sum_by-cons (length {A = ℕ × ℕ}) ms xs in
    let b = sum_by-cons (length {A = ℕ × ℕ}) x xs in
    let c : sum_by length (ms ∷ xs) + length x ≡ sum_by length (x ∷ xs) + length ms = omega (arith, a, b) in
    c
sum-put (x ∷ xs) (suc k) ms inside =
    let a = sum_by-cons (length {A = ℕ × ℕ}) x (slice_set xs k ms) in
    let b = sum_by-cons (length {A = ℕ × ℕ}) x xs in
    let rest = sum-put xs k ms (omega (arith, inside)) in
    let c : sum_by length (x ∷ slice_set xs k ms) + length (slice_index_or xs k []) ≡ sum_by length (x ∷ xs) + length ms = omega (arith, a, b, rest) in
    c

-- one list was written
pub counted-put : (lists new : List (List (ℕ × ℕ))) (k n : ℕ) (ms : List (ℕ × ℕ)) → k < length lists → new ≡ slice_set lists k ms → n ≡ sum_by length lists → sum_by length new + length (slice_index_or lists k []) ≡ n + length ms
counted-put lists new k n ms inside is count = let sum = sum-put lists k ms inside in let e = ap (sum_by length) is in omega (arith, sum, e, count)

pub length-set_last : (s i : ℕ) (ms : List (ℕ × ℕ)) → length (set_last s i ms) ≡ length ms
length-set_last s i [] = refl
length-set_last s i (m ∷ ms) = ap suc (length-set_last s i ms)

-- two neighbours grew
pub counted-two : (lists new : List (List (ℕ × ℕ))) (k n : ℕ) (ms cs : List (ℕ × ℕ)) → k + 1 < length lists → new ≡ slice_set (slice_set lists k (slice_index_or lists k [] ++ ms)) (k + 1) (slice_index_or lists (k + 1) [] ++ cs)
    → n ≡ sum_by length lists → sum_by length new ≡ n + (length ms + length cs)
counted-two lists new k n ms cs inside is count =
    let first = slice_set lists k (slice_index_or lists k [] ++ ms) in
    let one = sum-put lists k (slice_index_or lists k [] ++ ms) (omega (arith, inside)) in
    let many : length first ≡ length lists = length-set lists k (slice_index_or lists k [] ++ ms) in
    let two = sum-put first (k + 1) (slice_index_or lists (k + 1) [] ++ cs) (omega (arith, inside, many)) in
    let apart : k + 1 ≢ k = omega arith in
    let other : length (slice_index_or first (k + 1) []) ≡ length (slice_index_or lists (k + 1) []) = ap length (get_or-set_other lists k (k + 1) (slice_index_or lists k [] ++ ms) [] apart) in
    let e = ap (sum_by length) is in
    omega (arith, one, two, other, e, count, length-append (slice_index_or lists k []) ms, length-append (slice_index_or lists (k + 1) []) cs)

pub listed-without_row : (n s : ℕ) (ms : List (ℕ × ℕ)) → are_listed n ms ≡ true → are_listed n (without_row s ms) ≡ true
listed-without_row n s [] all = refl
listed-without_row n s (m ∷ ms) all =
    let (first, rest) = both (nat_le m.1 n) (are_listed n ms) all in
    step ((m.0 == s) && is_none (own_in s ms)) first rest (listed-without_row n s ms rest)
  where
    step : (b : Bool) → nat_le m.1 n ≡ true → are_listed n ms ≡ true → are_listed n (without_row s ms) ≡ true → are_listed n (cond b ms (m ∷ without_row s ms)) ≡ true
    step true first rest less = rest
    step false first rest less = and_both (nat_le m.1 n) (are_listed n (without_row s ms)) first less
