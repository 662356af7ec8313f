-- Changes that were judged.
use Rattle.std.proofs.Common.{◌≡◌, ℕ, List, [], ◌∷◌, ◌++◌, Option, Some, None, Bool, true, false, cond, refl, ◌∙◌}
use Rattle.std.specs.Prelude.{is_none, ◌||◌, not}
use Rattle.msg_names.specs.declared.value.ClassRef.{ClassRef}
use Rattle.msg_names.specs.declared.value.Selector.{Selector}
use Rattle.msg_names.specs.declared.value.ImpRef.{ImpRef}
use Rattle.msg_names.specs.Number.{selector_number, imp_number}
use Rattle.msg_tables.specs.declared.change.Change.TheVariants.{Add, Replace, SetImp, Exchange, AddClass, Remove, DisposeClass}
use Rattle.msg_tables.specs.declared.fault.ChangeFault.{ChangeFault}
use Rattle.msg_tables.specs.declared.fault.ChangeFault.TheVariants.{NoClass, ArgumentCount, MethodPresent, NoMethod, Limit, DuplicateClass, ClassInUse}
use Rattle.msg_tables.specs.After.{of_class, row, set_own, rows_after}
use Rattle.msg_tables.specs.Log.{Log, table, holder, lookup}
use Rattle.msg_tables.specs.Refusal.{least_change_fault, unfit, no_class, no_number, no_superclass, unlike, has_own, no_method, is_full, is_in_use, refusal}

-- the least of the first faults is the least of all
pub least-first : (first more : List (Bool × ChangeFault)) (f : ChangeFault) → least_change_fault first ≡ Some f → least_change_fault (first ++ more) ≡ Some f
least-first [] more f e = cc
least-first (x ∷ xs) more f e = at_test x.0 (least-first xs more f) e
  where
    at_test : (b : Bool) → (least_change_fault xs ≡ Some f → least_change_fault (xs ++ more) ≡ Some f) → cond b (Some x.1) (least_change_fault xs) ≡ Some f → cond b (Some x.1) (least_change_fault (xs ++ more)) ≡ Some f
    at_test true rest h = h
    at_test false rest h = rest h

-- if none of the first holds, the others are left
pub least-next : (first more : List (Bool × ChangeFault)) → least_change_fault first ≡ None → least_change_fault (first ++ more) ≡ least_change_fault more
least-next [] more e = refl
least-next (x ∷ xs) more e = at_test x.0 (least-next xs more) e
  where
    at_test : (b : Bool) → (least_change_fault xs ≡ None → least_change_fault (xs ++ more) ≡ least_change_fault more) → cond b (Some x.1) (least_change_fault xs) ≡ None → cond b (Some x.1) (least_change_fault (xs ++ more)) ≡ least_change_fault more
    at_test true rest h = cc
    at_test false rest h = rest h

module _ (h : Log) (c : ClassRef) (s : Selector) (i : ImpRef) where
  -- if the row could not be there, that is the fault
  pub unfit-add : (f : ChangeFault) → least_change_fault (unfit h c s i) ≡ Some f → refusal h (Add c s i) ≡ Some f
  unfolding refusal
  unfit-add f e = least-first (unfit h c s i) ((has_own h c (selector_number s), MethodPresent) ∷ (is_full h 1, Limit) ∷ []) f e

  pub unfit-replace : (f : ChangeFault) → least_change_fault (unfit h c s i) ≡ Some f → refusal h (Replace c s i) ≡ Some f
  unfolding refusal
  unfit-replace f e = least-first (unfit h c s i) ((is_full h (cond (has_own h c (selector_number s)) 0 1), Limit) ∷ []) f e

  pub unfit-set : (f : ChangeFault) → least_change_fault (unfit h c s i) ≡ Some f → refusal h (SetImp c s i) ≡ Some f
  unfolding refusal
  unfit-set f e = least-first (unfit h c s i) ((no_method h c (selector_number s), NoMethod) ∷ (is_full h 0, Limit) ∷ []) f e

  -- else the other tests decide
  pub fit-add : (present full : Bool) → least_change_fault (unfit h c s i) ≡ None → has_own h c (selector_number s) ≡ present → is_full h 1 ≡ full → refusal h (Add c s i) ≡ least_change_fault ((present, MethodPresent) ∷ (full, Limit) ∷ [])
  unfolding refusal
  fit-add present full e p f = least-next (unfit h c s i) ((has_own h c (selector_number s), MethodPresent) ∷ (is_full h 1, Limit) ∷ []) e ∙ rw (p, f) refl

  pub fit-replace : (present full : Bool) → least_change_fault (unfit h c s i) ≡ None → has_own h c (selector_number s) ≡ present → is_full h (cond present 0 1) ≡ full → refusal h (Replace c s i) ≡ least_change_fault ((full, Limit) ∷ [])
  unfolding refusal
  fit-replace present full e p f = least-next (unfit h c s i) ((is_full h (cond (has_own h c (selector_number s)) 0 1), Limit) ∷ []) e ∙ rw (p, f) refl

  pub fit-set : (found : Option ClassRef) (full : Bool) → least_change_fault (unfit h c s i) ≡ None → holder h c (selector_number s) ≡ found → is_full h 0 ≡ full → refusal h (SetImp c s i) ≡ least_change_fault ((is_none found, NoMethod) ∷ (full, Limit) ∷ [])
  unfolding refusal no_method
  fit-set found full e p f = least-next (unfit h c s i) ((no_method h c (selector_number s), NoMethod) ∷ (is_full h 0, Limit) ∷ []) e ∙ rw (p, f) refl

  pub rows-replace : (present : Bool) → has_own h c (selector_number s) ≡ present → rows_after (table h) (Replace c s i) ≡ cond present (set_own c (selector_number s) (imp_number i) (table h).rows) ((table h).rows ++ row c s i ∷ [])
  unfolding has_own
  rows-replace present p = rw p refl

  pub rows-set : (found : ClassRef) → holder h c (selector_number s) ≡ Some found → rows_after (table h) (SetImp c s i) ≡ set_own found (selector_number s) (imp_number i) (table h).rows
  unfolding holder
  rows-set found p = rw p refl

-- the faults of an exchange, by what each test says
pub refusal-exchange : (h : Log) (c : ClassRef) (s : Selector) (d : ClassRef) (u : Selector) (absent odd : Bool) (first second : Option ClassRef) (full : Bool) → (no_class h c || no_class h d) ≡ absent → unlike h (selector_number s) (selector_number u) ≡ odd
    → holder h c (selector_number s) ≡ first → holder h d (selector_number u) ≡ second → is_full h 0 ≡ full
    → refusal h (Exchange c s d u) ≡ least_change_fault ((absent, NoClass) ∷ (odd, ArgumentCount) ∷ (is_none first || is_none second, NoMethod) ∷ (full, Limit) ∷ [])
unfolding refusal no_method
refusal-exchange h c s d u absent odd first second full a b e f g = rw (a, b, e, f, g) refl

pub rows-exchange : (h : Log) (c : ClassRef) (s : Selector) (d : ClassRef) (u : Selector) (first second : ClassRef) (i j : ℕ) → holder h c (selector_number s) ≡ Some first → holder h d (selector_number u) ≡ Some second
    → lookup h c (selector_number s) ≡ i → lookup h d (selector_number u) ≡ j
    → rows_after (table h) (Exchange c s d u) ≡ set_own first (selector_number s) j (set_own second (selector_number u) i (table h).rows)
unfolding holder lookup
rows-exchange h c s d u first second i j e f k l = rw (e, f, k, l) refl

-- the faults of a class that is to be made, by what each test says
pub refusal-make : (h : Log) (k : ℕ) (d : Option ℕ) (lacking full absent : Bool) → (no_number h k || no_superclass h d) ≡ lacking → is_full h 0 ≡ full → no_class h (of_class k) ≡ absent
    → refusal h (AddClass k d) ≡ least_change_fault ((lacking, NoClass) ∷ (full, Limit) ∷ (not absent, DuplicateClass) ∷ [])
unfolding refusal
refusal-make h k d lacking full absent a b e = rw (a, b, e) refl

-- the faults of a row that is to be removed
pub refusal-remove : (h : Log) (c : ClassRef) (s : Selector) (absent odd has full : Bool) → no_class h c ≡ absent → unlike h (selector_number s) (selector_number s) ≡ odd → has_own h c (selector_number s) ≡ has → is_full h 0 ≡ full
    → refusal h (Remove c s) ≡ least_change_fault ((absent, NoClass) ∷ (odd, ArgumentCount) ∷ (not has, NoMethod) ∷ (full, Limit) ∷ [])
unfolding refusal
refusal-remove h c s absent odd has full a b e f = rw (a, b, e, f) refl

-- and of a class that is to be disposed of
pub refusal-dispose : (h : Log) (k : ℕ) (absent full used : Bool) → no_class h (of_class k) ≡ absent → is_full h 0 ≡ full → is_in_use h k ≡ used
    → refusal h (DisposeClass k) ≡ least_change_fault ((absent, NoClass) ∷ (full, Limit) ∷ (used, ClassInUse) ∷ [])
unfolding refusal
refusal-dispose h k absent full used a b e = rw (a, b, e) refl
