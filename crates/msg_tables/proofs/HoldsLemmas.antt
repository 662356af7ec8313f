-- Lists that hold the rows, while rows are added and rewritten.
use Rattle.std.proofs.Common.{◌≡◌, ◌≢◌, ◌<◌, ◌+◌, ℕ, suc, List, [], ◌∷◌, ◌++◌, length, get_or-set_same, Option, Some, None, Bool, true, false, cond, refl, sym, ap, ◌∙◌, subst, arith, append-nil}
use Rattle.std.specs.Prelude.{◌==◌, ◌&&◌, is_none, is_some, slice_set, slice_index_or}
use Rattle.std.proofs.lemmas.List.{get_or-set_other, length-map}
use Rattle.std.proofs.Math.ListN.{length-set}
use Rattle.msg_names.specs.declared.value.ClassRef.{ClassRef}
use Rattle.msg_names.specs.declared.value.ImpRef.{ImpRef}
use Rattle.msg_names.specs.declared.value.Selector.{Selector}
use Rattle.msg_names.specs.Number.{selector_number, imp_number}
use Rattle.msg_rows.specs.Methods.{method_numbers}
use Rattle.msg_names.specs.ClassRef.{same_class, slot_of}
use Rattle.msg_tables.specs.Rows.{Row, own}
use Rattle.msg_rows.specs.RowList.{own_in, set_last}
use Rattle.msg_tables.specs.After.{rows_at, of_class, of_meta, set_own}
use Rattle.msg_tables.specs.Stands.{Holds, pairs_at}
use Rattle.msg_tables.specs.View.{kept}
use Rattle.msg_tables.proofs.ListedLemmas.{own_in-set_last}
use Rattle.msg_tables.proofs.LookupLemmas.{own-pairs_at}
use Rattle.msg_names.proofs.ClassRefLemmas.{slot_of-same, same_class-is, same_class-refl}

-- two different class references have different places
slot_of-apart : (c d : ClassRef) → same_class c d ≡ false → slot_of d ≢ slot_of c
slot_of-apart c d e h =
    let same : d ≡ c = slot_of-same d c h in
    let yes' : same_class c d ≡ true = subst (λ z. same_class c z ≡ true) (sym same) (same_class-refl c) in
    let clash : true ≡ false = sym yes' ∙ e in
    cc

-- what the other class references keep
pub kept-other : (lists : List (List (ℕ × ℕ))) (c d : ClassRef) (ms : List (ℕ × ℕ)) → same_class c d ≡ false → kept (slice_set lists (slot_of c) ms) d ≡ kept lists d
kept-other lists c d ms e = get_or-set_other lists (slot_of c) (slot_of d) ms [] (slot_of-apart c d e)

-- one list is written
pub holds-put : (lists : List (List (ℕ × ℕ))) (rows after : List Row) (c : ClassRef) (ms : List (ℕ × ℕ)) → slot_of c < length lists → Holds lists rows
    → ms ≡ pairs_at c after → ((d : ClassRef) → same_class c d ≡ false → pairs_at d after ≡ pairs_at d rows) → Holds (slice_set lists (slot_of c) ms) after
holds-put lists rows after c ms inside holds here others = record { at = λ d. at d (same_class c d) refl }
  where
    at : (d : ClassRef) (b : Bool) → same_class c d ≡ b → kept (slice_set lists (slot_of c) ms) d ≡ pairs_at d after
    at d true e = subst (λ z. kept (slice_set lists (slot_of c) ms) z ≡ pairs_at z after) (same_class-is c d e) (get_or-set_same lists (slot_of c) ms [] inside ∙ here)
    at d false e = kept-other lists c d ms e ∙ holds.at d ∙ sym (others d e)

pub pairs_at-append : (d : ClassRef) (xs ys : List Row) → pairs_at d (xs ++ ys) ≡ pairs_at d xs ++ pairs_at d ys
pairs_at-append d [] ys = refl
pairs_at-append d (x ∷ xs) ys = step (same_class x.class d) (pairs_at-append d xs ys)
  where
    step : (b : Bool) → pairs_at d (xs ++ ys) ≡ pairs_at d xs ++ pairs_at d ys → cond b ((x.sel, x.imp) ∷ pairs_at d (xs ++ ys)) (pairs_at d (xs ++ ys)) ≡ cond b ((x.sel, x.imp) ∷ pairs_at d xs) (pairs_at d xs) ++ pairs_at d ys
    step true e = ap (λ ps. (x.sel, x.imp) ∷ ps) e
    step false e = e

pub pairs_at-rows_at : (c d : ClassRef) (b : Bool) (ms : List (ℕ × ℕ)) → same_class c d ≡ b → pairs_at d (rows_at c ms) ≡ cond b ms []
pairs_at-rows_at c d true [] e = refl
pairs_at-rows_at c d false [] e = refl
pairs_at-rows_at c d true (m ∷ ms) e = rw e (ap (λ ps. m ∷ ps) (pairs_at-rows_at c d true ms e))
pairs_at-rows_at c d false (m ∷ ms) e = rw e (pairs_at-rows_at c d false ms e)

-- methods are added
pub holds-append : (lists : List (List (ℕ × ℕ))) (rows : List Row) (c : ClassRef) (ms : List (ℕ × ℕ)) → slot_of c < length lists → Holds lists rows → Holds (slice_set lists (slot_of c) (kept lists c ++ ms)) (rows ++ rows_at c ms)
holds-append lists rows c ms inside holds =
    holds-put lists rows (rows ++ rows_at c ms) c (kept lists c ++ ms) inside holds
    (ap (λ ps. ps ++ ms) (holds.at c) ∙ ap (λ ps. pairs_at c rows ++ ps) (sym (pairs_at-rows_at c c true ms (same_class-refl c))) ∙ sym (pairs_at-append c rows (rows_at c ms)))
    (λ d e. pairs_at-append d rows (rows_at c ms) ∙ ap (λ ps. pairs_at d rows ++ ps) (pairs_at-rows_at c d false ms e) ∙ append-nil (pairs_at d rows))

-- a class and its metaclass are different
pub class-apart : (k : ℕ) → same_class (of_class k) (of_meta k) ≡ false
class-apart k = step (k == k)
  where
    step : (b : Bool) → (b && false) ≡ false
    step true = refl
    step false = refl

pub meta-apart : (k : ℕ) → same_class (of_meta k) (of_class k) ≡ false
meta-apart k = step (k == k)
  where
    step : (b : Bool) → (b && false) ≡ false
    step true = refl
    step false = refl

-- methods are added to a class and to its metaclass
pub holds-attach : (lists : List (List (ℕ × ℕ))) (rows : List Row) (k at : ℕ) (ms cs : List (ℕ × ℕ)) → at ≡ slot_of (of_class k) → at + 1 < length lists → Holds lists rows
    → Holds (slice_set (slice_set lists at (slice_index_or lists at [] ++ ms)) (at + 1) (slice_index_or lists (at + 1) [] ++ cs)) (rows ++ rows_at (of_class k) ms ++ rows_at (of_meta k) cs)
holds-attach lists rows k at ms cs here inside holds =
    let after = slice_set lists (slot_of (of_class k)) (kept lists (of_class k) ++ ms) in
    let first = holds-append lists rows (of_class k) ms (omega arith) holds in
    let room : slot_of (of_meta k) < length after = omega (arith, length-set lists (slot_of (of_class k)) (kept lists (of_class k) ++ ms)) in
    let second = holds-append after (rows ++ rows_at (of_class k) ms) (of_meta k) cs room first in
    let beside : at + 1 ≡ slot_of (of_meta k) = omega arith in
    let same : kept after (of_meta k) ≡ kept lists (of_meta k) = kept-other lists (of_class k) (of_meta k) (kept lists (of_class k) ++ ms) (class-apart k) in
    rw (beside, here, ← same) second

-- ---- the own row is rewritten

pub pairs_at-set_own : (c : ClassRef) (s i : ℕ) (rows : List Row) → pairs_at c (set_own c s i rows) ≡ set_last s i (pairs_at c rows)
pairs_at-set_own c s i [] = refl
pairs_at-set_own c s i (r ∷ rs) = step (same_class r.class c) refl (r.sel == s) refl (own rs c s) (own-pairs_at c s rs) (pairs_at-set_own c s i rs)
  where
    new : Row
    new = record { class = c; sel = s; imp = i }

    step : (b : Bool) → same_class r.class c ≡ b → (d : Bool) → (r.sel == s) ≡ d → (o : Option ℕ) → o ≡ own_in s (pairs_at c rs) → pairs_at c (set_own c s i rs) ≡ set_last s i (pairs_at c rs)
        → pairs_at c (cond ((b && d) && is_none o) new r ∷ set_own c s i rs) ≡ set_last s i (cond b ((r.sel, r.imp) ∷ pairs_at c rs) (pairs_at c rs))
    step false e d f o is rest = rw e rest
    step true e true f None is rest = rw (same_class-refl c, f, ← is) (ap (λ ps. (s, i) ∷ ps) rest)
    step true e true f (Some j) is rest = rw (e, f, ← is) (ap (λ ps. (r.sel, r.imp) ∷ ps) rest)
    step true e false f o is rest = rw (e, f) (ap (λ ps. (r.sel, r.imp) ∷ ps) rest)

pub pairs_at-set_other : (c d : ClassRef) (s i : ℕ) (rows : List Row) → same_class c d ≡ false → pairs_at d (set_own c s i rows) ≡ pairs_at d rows
pairs_at-set_other c d s i [] apart = refl
pairs_at-set_other c d s i (r ∷ rs) apart = step (same_class r.class c) refl (r.sel == s) (is_none (own rs c s)) (pairs_at-set_other c d s i rs apart)
  where
    new : Row
    new = record { class = c; sel = s; imp = i }

    kept-row : pairs_at d (set_own c s i rs) ≡ pairs_at d rs → pairs_at d (r ∷ set_own c s i rs) ≡ pairs_at d (r ∷ rs)
    kept-row rest = ap (λ ps. cond (same_class r.class d) ((r.sel, r.imp) ∷ ps) ps) rest

    step : (b : Bool) → same_class r.class c ≡ b → (x n : Bool) → pairs_at d (set_own c s i rs) ≡ pairs_at d rs → pairs_at d (cond ((b && x) && n) new r ∷ set_own c s i rs) ≡ pairs_at d (r ∷ rs)
    step true e true true rest =
        let other : same_class r.class d ≡ false = subst (λ z. same_class z d ≡ false) (sym (same_class-is r.class c e)) apart in
        rw (apart, other) rest
    step true e true false rest = kept-row rest
    step true e false n rest = kept-row rest
    step false e x n rest = kept-row rest

pub holds-rewrite : (lists : List (List (ℕ × ℕ))) (rows : List Row) (c : ClassRef) (s i : ℕ) → slot_of c < length lists → Holds lists rows → Holds (slice_set lists (slot_of c) (set_last s i (kept lists c))) (set_own c s i rows)
holds-rewrite lists rows c s i inside holds =
    holds-put lists rows (set_own c s i rows) c (set_last s i (kept lists c)) inside holds (ap (set_last s i) (holds.at c) ∙ sym (pairs_at-set_own c s i rows)) (λ d e. pairs_at-set_other c d s i rows e)

pub length-set_own : (c : ClassRef) (s i : ℕ) (rows : List Row) → length (set_own c s i rows) ≡ length rows
length-set_own c s i [] = refl
length-set_own c s i (r ∷ rs) = ap suc (length-set_own c s i rs)

-- the others' own rows stay
pub own-rewritten : (lists : List (List (ℕ × ℕ))) (c d : ClassRef) (q s i : ℕ) → slot_of c < length lists → is_some (own_in q (kept (slice_set lists (slot_of c) (set_last s i (kept lists c))) d)) ≡ is_some (own_in q (kept lists d))
own-rewritten lists c d q s i inside = step (same_class c d) refl
  where
    after : List (List (ℕ × ℕ))
    after = slice_set lists (slot_of c) (set_last s i (kept lists c))

    step : (b : Bool) → same_class c d ≡ b → is_some (own_in q (kept after d)) ≡ is_some (own_in q (kept lists d))
    step true e = subst (λ z. is_some (own_in q (kept after z)) ≡ is_some (own_in q (kept lists z))) (same_class-is c d e) (ap (λ ms. is_some (own_in q ms)) (get_or-set_same lists (slot_of c) (set_last s i (kept lists c)) [] inside) ∙ own_in-set_last q s i (kept lists c))
    step false e = ap (λ ms. is_some (own_in q ms)) (kept-other lists c d (set_last s i (kept lists c)) e)

pub length-rows_at : (c : ClassRef) (ms : List (ℕ × ℕ)) → length (rows_at c ms) ≡ length ms
length-rows_at c ms = length-map ms (λ m. record { class = c; sel = m.0; imp = m.1 })

pub length-method_numbers : (ms : List (Selector × ImpRef)) → length (method_numbers ms) ≡ length ms
length-method_numbers ms = length-map ms (λ m. (selector_number m.0, imp_number m.1))
