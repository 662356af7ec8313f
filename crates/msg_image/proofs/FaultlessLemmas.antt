-- What a form without fault doesn't have.
use Rattle.std.proofs.Common.{◌≡◌, ℕ, zero, suc, List, [], ◌∷◌, Bool, true, false, cond, None, Some, slice_get, refl, sym, ap, ◌∙◌}
use Rattle.std.proofs.lemmas.Option.{same_Some}
use Rattle.msg_form.specs.Form.{Form}
use Rattle.msg_form.specs.Faults.{Condition, conditions, first_of, fault_of, is_over_limit, has_duplicate_class, has_unknown_superclass, has_unknown_class, has_duplicate_object, has_unknown_object, has_duplicate_imp, has_unknown_imp, has_bad_selector, has_wrong_argument_count, has_wrong_argument_index, has_too_deep_body, has_class_cycle}

-- the conditions that an image needs
pub record IsFaultless (f : Form) : Type 0 where
  pub limit : is_over_limit f ≡ false
  pub one_class : has_duplicate_class f ≡ false
  pub superclasses : has_unknown_superclass f ≡ false
  pub classes : has_unknown_class f ≡ false
  pub one_object : has_duplicate_object f ≡ false
  pub objects : has_unknown_object f ≡ false
  pub one_imp : has_duplicate_imp f ≡ false
  pub imps : has_unknown_imp f ≡ false
  pub selectors : has_bad_selector f ≡ false
  pub counts : has_wrong_argument_count f ≡ false
  pub indices : has_wrong_argument_index f ≡ false
  pub bodies : has_too_deep_body f ≡ false
  pub cycle : has_class_cycle f ≡ false

-- the first condition isn't met, nor one of the others
past : (c : Condition) (cs : List Condition) (f : Form) → first_of (c ∷ cs) f ≡ None → (c.1 f ≡ false) × (first_of cs f ≡ None)
past c cs f e = at_test (c.1 f) e
  where
    at_test : (b : Bool) → cond b (Some c.0) (first_of cs f) ≡ None → (b ≡ false) × (first_of cs f ≡ None)
    at_test true e = cc
    at_test false e = (refl, e)

-- the condition at a place isn't met
unmet : (f : Form) (cs : List Condition) (place : ℕ) (c : Condition) → first_of cs f ≡ None → slice_get cs place ≡ Some c → c.1 f ≡ false
unmet f [] place c e at = cc
unmet f (d ∷ cs) zero c e at = ap (λ (x : Condition). x.1 f) (sym (same_Some d c at)) ∙ (past d cs f e).0
unmet f (d ∷ cs) (suc place) c e at = unmet f cs place c (past d cs f e).1 at

pub faultless : (f : Form) → fault_of f ≡ None → IsFaultless f
unfolding fault_of
faultless f e = record {
  limit = unmet f conditions 1 _ e refl;
  one_class = unmet f conditions 2 _ e refl;
  superclasses = unmet f conditions 3 _ e refl;
  classes = unmet f conditions 4 _ e refl;
  one_object = unmet f conditions 5 _ e refl;
  objects = unmet f conditions 6 _ e refl;
  one_imp = unmet f conditions 7 _ e refl;
  imps = unmet f conditions 8 _ e refl;
  selectors = unmet f conditions 9 _ e refl;
  counts = unmet f conditions 11 _ e refl;
  indices = unmet f conditions 12 _ e refl;
  bodies = unmet f conditions 13 _ e refl;
  cycle = unmet f conditions 14 _ e refl;
}
