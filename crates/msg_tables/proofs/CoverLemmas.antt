-- A category of one method that was judged.
use Rattle.std.proofs.Common.{◌≡◌, [], ◌∷◌, ◌++◌, Some, None, Bool, true, false, cond, refl, ◌∙◌}
use Rattle.std.specs.Prelude.{◌||◌}
use Rattle.msg_names.specs.declared.value.ClassRef.{ClassRef}
use Rattle.msg_names.specs.declared.value.Selector.{Selector}
use Rattle.msg_names.specs.declared.value.ImpRef.{ImpRef}
use Rattle.msg_names.specs.Number.{selector_number, imp_number}
use Rattle.msg_tables.specs.declared.change.Change.TheVariants.{Attach}
use Rattle.msg_tables.specs.declared.fault.ChangeFault.{ChangeFault}
use Rattle.msg_tables.specs.declared.fault.ChangeFault.TheVariants.{NoClass, NoImp, ArgumentCount, Limit}
use Rattle.msg_tables.specs.Affected.{written_refs}
use Rattle.msg_tables.specs.Log.{Log}
use Rattle.msg_tables.specs.Refusal.{least_change_fault, unfit, no_class, no_imp, misfits, is_full, refusal}
use Rattle.msg_tables.specs.Several.{made_by}
use Rattle.msg_tables.specs.Undo.{covering}
use Rattle.msg_tables.proofs.JudgeLemmas.{least-first, least-next}

or-false : (a : Bool) → (a || false) ≡ a
or-false true = refl
or-false false = refl

refusal-cover : (h : Log) (c : ClassRef) (s : Selector) (i : ImpRef) → refusal h (covering c (selector_number s) (imp_number i)) ≡ least_change_fault (unfit h c s i ++ (is_full h 1, Limit) ∷ [])
unfolding refusal no_class
refusal-cover h c s i = step c.meta
  where
    same : least_change_fault ((no_class h c, NoClass) ∷ (no_imp h (imp_number i) || false, NoImp) ∷ (misfits h (selector_number s) (imp_number i) || false, ArgumentCount) ∷ (is_full h 1, Limit) ∷ [])
        ≡ least_change_fault (unfit h c s i ++ (is_full h 1, Limit) ∷ [])
    same =
        let a = or-false (no_imp h (imp_number i)) in
        let b = or-false (misfits h (selector_number s) (imp_number i)) in
        λ k. least_change_fault ((no_class h c, NoClass) ∷ (a k, NoImp) ∷ (b k, ArgumentCount) ∷ (is_full h 1, Limit) ∷ [])

    step : (b : Bool) → refusal h (cond b (Attach c.class [] ((selector_number s, imp_number i) ∷ [])) (Attach c.class ((selector_number s, imp_number i) ∷ []) [])) ≡ least_change_fault (unfit h c s i ++ (is_full h 1, Limit) ∷ [])
    step true = same
    step false = same

module _ (h : Log) (c : ClassRef) (s : Selector) (i : ImpRef) where
  pub unfit-cover : (f : ChangeFault) → least_change_fault (unfit h c s i) ≡ Some f → refusal h (covering c (selector_number s) (imp_number i)) ≡ Some f
  unfit-cover f e = refusal-cover h c s i ∙ least-first (unfit h c s i) ((is_full h 1, Limit) ∷ []) f e

  pub fit-cover : (full : Bool) → least_change_fault (unfit h c s i) ≡ None → is_full h 1 ≡ full → refusal h (covering c (selector_number s) (imp_number i)) ≡ least_change_fault ((full, Limit) ∷ [])
  fit-cover full e f = refusal-cover h c s i ∙ least-next (unfit h c s i) ((is_full h 1, Limit) ∷ []) e ∙ rw f refl

  pub places-cover : c ∷ [] ≡ written_refs h (covering c (selector_number s) (imp_number i))
  unfolding written_refs
  places-cover = step c.meta refl
    where
      step : (b : Bool) → c.meta ≡ b → c ∷ [] ≡ written_refs h (cond b (Attach c.class [] ((selector_number s, imp_number i) ∷ [])) (Attach c.class ((selector_number s, imp_number i) ∷ []) []))
      step true e = λ k. record { class = c.class; meta = e k } ∷ []
      step false e = λ k. record { class = c.class; meta = e k } ∷ []

  pub made-cover : [] ≡ made_by (covering c (selector_number s) (imp_number i))
  made-cover = step c.meta
    where
      step : (b : Bool) → [] ≡ made_by (cond b (Attach c.class [] ((selector_number s, imp_number i) ∷ [])) (Attach c.class ((selector_number s, imp_number i) ∷ []) []))
      step true = refl
      step false = refl
