-- The classes that an accepted change names are those of the origin.
use Rattle.std.proofs.Common.{◌≡◌, ◌<◌, ◌||◌, ℕ, List, [], ◌∷◌, Bool, cond, Option, None, true, false, refl, arith}
use Rattle.msg_names.proofs.TestLemmas.{not_false}
use Rattle.msg_names.specs.declared.value.ClassRef.{ClassRef}
use Rattle.msg_names.specs.declared.value.ImpRef.{ImpRef}
use Rattle.msg_names.specs.declared.value.Selector.{Selector}
use Rattle.msg_tables.specs.After.{of_class}
use Rattle.msg_tables.specs.declared.change.Change.TheVariants.{Add, Replace, SetImp, Exchange, Attach, AddClass, Remove, DisposeClass}
use Rattle.msg_tables.specs.Log.{Log, table}
use Rattle.msg_tables.specs.Origin.{class_total}
use Rattle.msg_tables.specs.Undo.{covering}
use Rattle.msg_tables.specs.Refusal.{refusal, conditions, no_class}
use Rattle.msg_tables.proofs.LogLemmas.{length-supers}
use Rattle.msg_tables.proofs.LimitLemmas.{none_holds}
use Rattle.msg_tables.proofs.OrderLemmas.{present-inside}
use Rattle.msg_tables.proofs.PresenceLemmas.{may_be_made}

module _ (h : Log) where
  of_origin : (c : ClassRef) → no_class h c ≡ false → c.class < class_total h.origin
  unfolding no_class
  of_origin c e =
      let inside = present-inside (table h).supers c.class (not_false _ e) in
      let count = length-supers h in
      omega (arith, inside, count)

  pub of_origin-add : (c : ClassRef) (s : Selector) (i : ImpRef) → refusal h (Add c s i) ≡ None → c.class < class_total h.origin
  unfolding refusal
  of_origin-add c s i e = of_origin c (none_holds (conditions h (Add c s i)) 0 e)

  pub of_origin-replace : (c : ClassRef) (s : Selector) (i : ImpRef) → refusal h (Replace c s i) ≡ None → c.class < class_total h.origin
  unfolding refusal
  of_origin-replace c s i e = of_origin c (none_holds (conditions h (Replace c s i)) 0 e)

  pub of_origin-set : (c : ClassRef) (s : Selector) (i : ImpRef) → refusal h (SetImp c s i) ≡ None → c.class < class_total h.origin
  unfolding refusal
  of_origin-set c s i e = of_origin c (none_holds (conditions h (SetImp c s i)) 0 e)

  pub of_origin-exchange : (c : ClassRef) (s : Selector) (d : ClassRef) (u : Selector) → refusal h (Exchange c s d u) ≡ None → (c.class < class_total h.origin) × (d.class < class_total h.origin)
  unfolding refusal
  of_origin-exchange c s d u e =
      let both = apart (no_class h c) (no_class h d) (none_holds (conditions h (Exchange c s d u)) 0 e) in (of_origin c both.0, of_origin d both.1)
    where
      apart : (a b : Bool) → (a || b) ≡ false → (a ≡ false) × (b ≡ false)
      apart true b e = cc
      apart false b e = (refl, e)

  pub of_origin-attach : (k : ℕ) (ms cs : List (ℕ × ℕ)) → refusal h (Attach k ms cs) ≡ None → k < class_total h.origin
  unfolding refusal
  of_origin-attach k ms cs e = of_origin (of_class k) (none_holds (conditions h (Attach k ms cs)) 0 e)

  pub of_origin-make : (k : ℕ) (d : Option ℕ) → refusal h (AddClass k d) ≡ None → k < class_total h.origin
  of_origin-make k d e =
      let may = may_be_made h k d e in
      let count = length-supers h in
      omega (arith, may.inside, count)

  pub of_origin-remove : (c : ClassRef) (s : Selector) → refusal h (Remove c s) ≡ None → c.class < class_total h.origin
  unfolding refusal
  of_origin-remove c s e = of_origin c (none_holds (conditions h (Remove c s)) 0 e)

  pub of_origin-dispose : (k : ℕ) → refusal h (DisposeClass k) ≡ None → k < class_total h.origin
  unfolding refusal
  of_origin-dispose k e = of_origin (of_class k) (none_holds (conditions h (DisposeClass k)) 0 e)

  pub of_origin-cover : (c : ClassRef) (s i : ℕ) → refusal h (covering c s i) ≡ None → c.class < class_total h.origin
  of_origin-cover c s i e = step c.meta e
    where
      step : (b : Bool) → refusal h (cond b (Attach c.class [] ((s, i) ∷ [])) (Attach c.class ((s, i) ∷ []) [])) ≡ None → c.class < class_total h.origin
      step true e = of_origin-attach c.class [] ((s, i) ∷ []) e
      step false e = of_origin-attach c.class ((s, i) ∷ []) [] e
