-- Methods that are attached.
use Rattle.std.proofs.Common.{◌≡◌, ℕ, ◌+◌, List, [], ◌∷◌, ◌++◌, length, length-append, Some, None, Bool, true, false, refl, sym, ap, ◌∙◌, arith}
use Rattle.std.specs.Prelude.{◌||◌, ◌&&◌, ◌==◌, nat_lt, nat_le}
use Rattle.std.specs.List.{list_any}
use Rattle.std.proofs.lemmas.Bool.Decides.{nat_tests}
use Rattle.std.proofs.lemmas.List.{length-map}
use Rattle.std.proofs.lemmas.List.Folds.{list_any-append}
use Rattle.msg_names.proofs.TestLemmas.{neither, list_any-map}
use Rattle.msg_names.specs.declared.value.Selector.{Selector}
use Rattle.msg_names.specs.declared.value.ImpRef.{ImpRef}
use Rattle.msg_names.specs.Number.{selector_number, imp_number}
use Rattle.msg_rows.specs.Methods.{method_numbers}
use Rattle.msg_tables.specs.declared.change.Change.TheVariants.{Attach}
use Rattle.msg_tables.specs.declared.fault.ChangeFault.{ChangeFault}
use Rattle.msg_tables.specs.declared.fault.ChangeFault.TheVariants.{NoClass, Limit}
use Rattle.msg_tables.specs.After.{of_class}
use Rattle.msg_tables.specs.Log.{Log}
use Rattle.msg_tables.specs.Refusal.{least_change_fault, unfit_methods, no_class, no_imp, misfits, is_full, refusal}
use Rattle.msg_tables.specs.Stands.{StandsAt}
use Rattle.msg_tables.specs.Origin.{last_imp, lacks_imp, misfits_in, are_listed}
use Rattle.msg_tables.specs.View.{TablesView}
use Rattle.msg_tables.proofs.JudgeLemmas.{least-first, least-next}
use Rattle.msg_tables.proofs.StandsLemmas.{imp-stands, misfits-stand}

list_any-same : {A : Type 0} (p q : A → Bool) → ((x : A) → p x ≡ q x) → (xs : List A) → list_any p xs ≡ list_any q xs
list_any-same p q same [] = refl
list_any-same p q same (x ∷ xs) = rw (same x, list_any-same p q same xs) refl

abbrev numbers : Selector × ImpRef → ℕ × ℕ
numbers m = (selector_number m.0, imp_number m.1)

module _ (t : TablesView) (h : Log) (stands : StandsAt t h) where
  -- two lists, tested one after the other
  pub no_imp-both : (own meta : List (Selector × ImpRef)) → (list_any (λ m. lacks_imp t.counts (imp_number m.1)) own || list_any (λ m. lacks_imp t.counts (imp_number m.1)) meta) ≡ list_any (λ (m : ℕ × ℕ). no_imp h m.1) (method_numbers own ++ method_numbers meta)
  no_imp-both own meta =
      sym (list_any-append (λ (m : ℕ × ℕ). no_imp h m.1) (method_numbers own) (method_numbers meta) ∙ rw (one own, one meta) refl)
    where
      one : (ms : List (Selector × ImpRef)) → list_any (λ (m : ℕ × ℕ). no_imp h m.1) (method_numbers ms) ≡ list_any (λ m. lacks_imp t.counts (imp_number m.1)) ms
      one ms = list_any-map (λ (m : ℕ × ℕ). no_imp h m.1) numbers ms ∙ list_any-same _ _ (λ m. sym (imp-stands t h stands (imp_number m.1))) ms

  pub misfits-both : (own meta : List (Selector × ImpRef)) → (list_any (λ m. misfits_in t.counts (selector_number m.0) (imp_number m.1)) own || list_any (λ m. misfits_in t.counts (selector_number m.0) (imp_number m.1)) meta) ≡ list_any (λ (m : ℕ × ℕ). misfits h m.0 m.1) (method_numbers own ++ method_numbers meta)
  misfits-both own meta =
      sym (list_any-append (λ (m : ℕ × ℕ). misfits h m.0 m.1) (method_numbers own) (method_numbers meta) ∙ rw (one own, one meta) refl)
    where
      one : (ms : List (Selector × ImpRef)) → list_any (λ (m : ℕ × ℕ). misfits h m.0 m.1) (method_numbers ms) ≡ list_any (λ m. misfits_in t.counts (selector_number m.0) (imp_number m.1)) ms
      one ms = list_any-map (λ (m : ℕ × ℕ). misfits h m.0 m.1) numbers ms ∙ list_any-same _ _ (λ m. sym (misfits-stand t h stands (selector_number m.0) (imp_number m.1))) ms

-- methods none of which lacks its implementation are listed
pub listed : (t : TablesView) (ms : List (Selector × ImpRef)) → list_any (λ m. lacks_imp t.counts (imp_number m.1)) ms ≡ false → are_listed (last_imp t.counts) (method_numbers ms) ≡ true
listed t [] e = refl
listed t (m ∷ ms) e = step (imp_number m.1) (list_any (λ x. lacks_imp t.counts (imp_number x.1)) ms) e (listed t ms)
  where
    step : (i : ℕ) (rest : Bool) → (lacks_imp t.counts i || rest) ≡ false → (rest ≡ false → are_listed (last_imp t.counts) (method_numbers ms) ≡ true) → (nat_le i (last_imp t.counts) && are_listed (last_imp t.counts) (method_numbers ms)) ≡ true
    step i rest h more =
        let (first, others) = neither (lacks_imp t.counts i) rest h in
        let within : nat_le i (last_imp t.counts) ≡ true = inside (i == 0) (nat_lt (last_imp t.counts) i) first refl in
        rw (within, more others) refl
      where
        inside : (a b : Bool) → (a || b) ≡ false → nat_lt (last_imp t.counts) i ≡ b → nat_le i (last_imp t.counts) ≡ true
        inside true b g k = cc
        inside false true g k = cc
        inside false false g k = grind (arith, nat_tests)

-- the faults of an attached category, by what each test says
pub attach-absent : (h : Log) (k : ℕ) (ms cs : List (ℕ × ℕ)) → no_class h (of_class k) ≡ true → refusal h (Attach k ms cs) ≡ Some NoClass
unfolding refusal
attach-absent h k ms cs e = rw e refl

pub attach-unfit : (h : Log) (k : ℕ) (ms cs : List (ℕ × ℕ)) (f : ChangeFault) → no_class h (of_class k) ≡ false → least_change_fault (unfit_methods h (ms ++ cs)) ≡ Some f → refusal h (Attach k ms cs) ≡ Some f
unfolding refusal
attach-unfit h k ms cs f e u = rw e (least-first (unfit_methods h (ms ++ cs)) ((is_full h (length (ms ++ cs)), Limit) ∷ []) f u)

pub attach-fit : (h : Log) (k : ℕ) (ms cs : List (ℕ × ℕ)) (full : Bool) → no_class h (of_class k) ≡ false → least_change_fault (unfit_methods h (ms ++ cs)) ≡ None → is_full h (length (ms ++ cs)) ≡ full → refusal h (Attach k ms cs) ≡ least_change_fault ((full, Limit) ∷ [])
unfolding refusal
attach-fit h k ms cs full e u f = rw e (least-next (unfit_methods h (ms ++ cs)) ((is_full h (length (ms ++ cs)), Limit) ∷ []) u ∙ rw f refl)

pub count-both : (own meta : List (Selector × ImpRef)) (ms cs : List (ℕ × ℕ)) → method_numbers own ≡ ms → method_numbers meta ≡ cs → length (ms ++ cs) ≡ length own + length meta
count-both own meta ms cs e f = omega (arith, length-append ms cs, ap length e, ap length f, length-map own numbers, length-map meta numbers)
