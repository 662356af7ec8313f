-- Tests of the numbers below a number.
use Rattle.std.proofs.Common.{◌≡◌, ◌<◌, ℕ, zero, suc, Bool, true, false, refl, ◌∙◌, ap, sym, arith, ⊎_elim, ne_eqb}
use Rattle.std.specs.Prelude.{◌||◌, ◌≢◌, not}
use Rattle.msg_names.proofs.TestLemmas.{neither}
use Rattle.msg_model.specs.Steps.{some_below, is_entry}
use Rattle.msg_model.proofs.PointLemmas.{number_or}

or_true : (b : Bool) → (b || true) ≡ true
or_true true = refl
or_true false = refl

-- if a number passes, some number passes
pub some_below-true : (n k : ℕ) (test : ℕ → Bool) → k < n → test k ≡ true → some_below n test ≡ true
some_below-true zero k test lt e = absurd (omega arith)
some_below-true (suc n) k test lt e = ⊎_elim
    (λ (is : k ≡ n). ap (λ b. some_below n test || b) (ap test (sym is) ∙ e) ∙ or_true (some_below n test))
    (λ ne. let inside : k < n = omega arith in ap (λ b. b || test n) (some_below-true n k test inside e))
    (number_or k n)

-- and if none passes, each fails
pub some_below-false : (n k : ℕ) (test : ℕ → Bool) → some_below n test ≡ false → k < n → test k ≡ false
some_below-false zero k test e lt = absurd (omega arith)
some_below-false (suc n) k test e lt =
    let (before, last) = neither (some_below n test) (test n) e in
    ⊎_elim (λ (is : k ≡ n). ap test is ∙ last) (λ ne. let inside : k < n = omega arith in some_below-false n k test before inside) (number_or k n)

pub entry : (word : ℕ) → word ≢ 0 → is_entry word ≡ true
entry word ne = ap not (ne_eqb word 0 ne)
