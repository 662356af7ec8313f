-- Superclasses when classes are made and disposed of.
use Rattle.std.proofs.Common.{◌≡◌, ◌≢◌, ◌<◌, ℕ, zero, suc, List, [], ◌∷◌, length, Option, Some, None, Bool, true, false, cond, refl, sym, ap, ◌∙◌, subst, arith}
use Rattle.std.specs.Prelude.{◌==◌, is_some, slice_set}
use Rattle.std.specs.Option.{option_map_or}
use Rattle.std.proofs.lemmas.List.{get_or-set_same, get_or-set_other}
use Rattle.std.proofs.lemmas.Option.{same_Some}
use Rattle.msg_names.proofs.TestLemmas.{neither, same_number, other_number}
use Rattle.msg_tables.specs.declared.presence.Presence.{Presence}
use Rattle.msg_tables.specs.Chain.{presence_of, is_present, is_directly_below, has_subclass}

-- ---- the superclasses

-- each class that is present is deeper than its superclass, which is present
pub record Grounded (supers : List (Option Presence)) : Type 0 where
  pub rank : ℕ → ℕ
  pub above : (k d : ℕ) (p : Presence) → presence_of supers k ≡ Some p → p.superclass ≡ Some d → (is_present supers d ≡ true) × (rank d < rank k)

-- ---- the classes

no_superclass-is : (d : Option ℕ) (k : ℕ) → option_map_or (λ e. e == k) d false ≡ false → (e : ℕ) → d ≡ Some e → e ≢ k
no_superclass-is None k none e is = cc
no_superclass-is (Some d) k none e is = subst (λ j. j ≢ k) (same_Some d e is) (other_number d k none)

-- no class is directly below one that has no subclass
pub no_subclass : (supers : List (Option Presence)) (k : ℕ) → has_subclass supers k ≡ false → (j e : ℕ) (p : Presence) → presence_of supers j ≡ Some p → p.superclass ≡ Some e → e ≢ k
no_subclass [] k none j e p is up = cc
no_subclass (x ∷ xs) k none zero e p is up =
    let first = (neither (is_directly_below k x) (has_subclass xs k) none).0 in
    no_superclass-is p.superclass k (sym (ap (is_directly_below k) is) ∙ first) e up
no_subclass (x ∷ xs) k none (suc j) e p is up = no_subclass xs k (neither (is_directly_below k x) (has_subclass xs k) none).1 j e p is up

-- a class that is made
module _ (supers : List (Option Presence)) (k : ℕ) (d : Option ℕ) (inside : k < length supers) (gone : is_present supers k ≡ false) where
  made-apart : (j : ℕ) → is_present supers j ≡ true → j ≢ k
  made-apart j there same = let clash : is_present supers k ≡ true = subst (λ i. is_present supers i ≡ true) same there in cc

  pub made-other : (j : ℕ) → j ≢ k → presence_of (slice_set supers k (Some (record { superclass = d }))) j ≡ presence_of supers j
  made-other j ne = get_or-set_other supers k j (Some (record { superclass = d })) None ne

  pub made-same : presence_of (slice_set supers k (Some (record { superclass = d }))) k ≡ Some (record { superclass = d })
  made-same = get_or-set_same supers k (Some (record { superclass = d })) None inside

  pub made-stays : (j : ℕ) → is_present supers j ≡ true → is_present (slice_set supers k (Some (record { superclass = d }))) j ≡ true
  made-stays j there = ap is_some (made-other j (made-apart j there)) ∙ there

  pub made-grounded : ((e : ℕ) → d ≡ Some e → is_present supers e ≡ true) → Grounded supers → Grounded (slice_set supers k (Some (record { superclass = d })))
  made-grounded up g = record { rank = λ j. cond (j == k) (suc (over d)) (g.rank j); above = λ j e p is is-up. at j e p is is-up (j == k) refl }
    where
      over : Option ℕ → ℕ
      over None = 0
      over (Some e) = g.rank e

      over-is : (o : Option ℕ) (e : ℕ) → o ≡ Some e → over o ≡ g.rank e
      over-is None e is = cc
      over-is (Some f) e is = ap g.rank (same_Some f e is)

      other : (e : ℕ) → is_present supers e ≡ true → (e == k) ≡ false
      other e there = step (e == k) refl
        where
          step : (b : Bool) → (e == k) ≡ b → (e == k) ≡ false
          step false f = f
          step true f = absurd (made-apart e there (same_number e k f))

      rank-of : ℕ → ℕ
      rank-of j = cond (j == k) (suc (over d)) (g.rank j)

      at : (j e : ℕ) (p : Presence) → presence_of (slice_set supers k (Some (record { superclass = d }))) j ≡ Some p → p.superclass ≡ Some e → (b : Bool) → (j == k) ≡ b
          → (is_present (slice_set supers k (Some (record { superclass = d }))) e ≡ true) × (cond (e == k) (suc (over d)) (g.rank e) < cond (j == k) (suc (over d)) (g.rank j))
      at j e p is is-up true f =
          let here : presence_of (slice_set supers k (Some (record { superclass = d }))) k ≡ Some p = subst (λ i. presence_of (slice_set supers k (Some (record { superclass = d }))) i ≡ Some p) (same_number j k f) is in
          let made : Some (record { superclass = d }) ≡ Some p = sym made-same ∙ here in
          let of : d ≡ Some e = ap (λ (q : Presence). q.superclass) (same_Some (record { superclass = d }) p made) ∙ is-up in
          let there = up e of in
          let low = over-is d e of in
          (made-stays e there, rw (other e there, f) (omega (arith, low)))
      at j e p is is-up false f =
          let before = g.above j e p (sym (made-other j (other_number j k f)) ∙ is) is-up in
          (made-stays e before.0, rw (other e before.0, f) before.1)

-- a class that is disposed of
module _ (supers : List (Option Presence)) (k : ℕ) where
  pub gone-other : (j : ℕ) → j ≢ k → presence_of (slice_set supers k None) j ≡ presence_of supers j
  gone-other j ne = get_or-set_other supers k j None None ne

  pub gone-same : k < length supers → presence_of (slice_set supers k None) k ≡ None
  gone-same inside = get_or-set_same supers k None None inside

  pub gone-stays : (j : ℕ) → j ≢ k → is_present supers j ≡ true → is_present (slice_set supers k None) j ≡ true
  gone-stays j ne there = ap is_some (gone-other j ne) ∙ there

  pub gone-grounded : k < length supers → has_subclass supers k ≡ false → Grounded supers → Grounded (slice_set supers k None)
  gone-grounded inside none g = record { rank = g.rank; above = λ j e p is up. at j e p is up (j == k) refl }
    where
      at : (j e : ℕ) (p : Presence) → presence_of (slice_set supers k None) j ≡ Some p → p.superclass ≡ Some e → (b : Bool) → (j == k) ≡ b → (is_present (slice_set supers k None) e ≡ true) × (g.rank e < g.rank j)
      at j e p is up true f =
          let here : presence_of (slice_set supers k None) k ≡ Some p = subst (λ i. presence_of (slice_set supers k None) i ≡ Some p) (same_number j k f) is in
          let clash : None ≡ Some p = sym (gone-same inside) ∙ here in cc
      at j e p is up false f =
          let before : presence_of supers j ≡ Some p = sym (gone-other j (other_number j k f)) ∙ is in
          let above = g.above j e p before up in
          (gone-stays e (no_subclass supers k none j e p before up) above.0, above.1)
