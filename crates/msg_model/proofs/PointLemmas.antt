-- Functions that are changed at one point.
use Rattle.std.proofs.Common.{◌≡◌, ◌≢◌, ℕ, ◌⊎◌, Bool, true, false, cond, refl, sym, ap, ◌∙◌, inl, inr, ⊎_elim, eq-eqb, ne_eqb}
use Rattle.std.specs.Prelude.{Some}
use mathlib.Core.Logic.{dite}
use native.Mathlib.Decide.{ℕ_discrete}
use Rattle.msg_names.specs.declared.value.ClassRef.{ClassRef}
use Rattle.msg_names.specs.ClassRef.{same_class}
use Rattle.msg_names.proofs.ClassRefLemmas.{same_class-is, same_class-refl}
use Rattle.msg_model.specs.Steps.{at, at_class, stored}

pub number_or : (x y : ℕ) → (x ≡ y) ⊎ (x ≢ y)
number_or x y = dite (ℕ_discrete x y) (λ e. inl e) (λ e. inr e)

pub class_or : (c d : ClassRef) → (c ≡ d) ⊎ (c ≢ d)
class_or c d = step (same_class c d) refl
  where
    step : (b : Bool) → same_class c d ≡ b → (c ≡ d) ⊎ (c ≢ d)
    step true e = inl (same_class-is c d e)
    step false e = inr (λ same. let u : true ≡ false = sym (same_class-refl c) ∙ ap (same_class c) same ∙ e in cc)

class_apart : (c d : ClassRef) → c ≢ d → same_class c d ≡ false
class_apart c d ne = step (same_class c d) refl
  where
    step : (b : Bool) → same_class c d ≡ b → same_class c d ≡ false
    step true e = absurd (ne (same_class-is c d e))
    step false e = e

pub at_same : {A : Type 0} (f : ℕ → A) (n : ℕ) (x : A) → at f n x n ≡ x
at_same f n x = ap (λ b. cond b x (f n)) (eq-eqb n n refl)

pub at_other : {A : Type 0} (f : ℕ → A) (n : ℕ) (x : A) (m : ℕ) → m ≢ n → at f n x m ≡ f m
at_other f n x m ne = ap (λ b. cond b x (f m)) (ne_eqb m n ne)

pub at_class_same : {A : Type 0} (f : ClassRef → A) (c : ClassRef) (x : A) → at_class f c x c ≡ x
at_class_same f c x = ap (λ b. cond b x (f c)) (same_class-refl c)

pub at_class_other : {A : Type 0} (f : ClassRef → A) (c : ClassRef) (x : A) (d : ClassRef) → d ≢ c → at_class f c x d ≡ f d
at_class_other f c x d ne = ap (λ b. cond b x (f d)) (class_apart d c ne)

-- a word that was stored, and the others
pub stored_or : (f : ℕ → ℕ → ℕ) (a p w b q : ℕ) → (stored f (Some a) p w b q ≡ f b q) ⊎ ((b ≡ a) × (stored f (Some a) p w b q ≡ w))
stored_or f a p w b q = ⊎_elim
    (λ (e : b ≡ a). ⊎_elim
    (λ (e' : q ≡ p). inr (e, ap (λ g. g q) (ap (λ x. cond x (at (f a) p w) (f b)) (eq-eqb b a e)) ∙ ap (λ x. cond x w (f a q)) (eq-eqb q p e')))
    (λ (ne : q ≢ p). inl (ap (λ g. g q) (ap (λ x. cond x (at (f a) p w) (f b)) (eq-eqb b a e)) ∙ ap (λ x. cond x w (f a q)) (ne_eqb q p ne) ∙ ap (λ x. f x q) (sym e)))
    (number_or q p))
    (λ (ne : b ≢ a). inl (ap (λ g. g q) (ap (λ x. cond x (at (f a) p w) (f b)) (ne_eqb b a ne))))
    (number_or b a)
