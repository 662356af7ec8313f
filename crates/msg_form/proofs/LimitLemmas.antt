-- What a form within the limits has.
use Rattle.std.proofs.Common.{◌≡◌, ◌≤◌, ◌+◌, Bool, true, false, ◌||◌, List, length, refl, sym, ◌∙◌, arith}
use Rattle.std.specs.Prelude.{nat_lt}
use Rattle.std.proofs.lemmas.Bool.Decides.{nat_tests}
use Rattle.msg_form.specs.Faults.{is_over_limit, has_long_list, has_many_entries, has_many_selectors}
use Rattle.msg_form.specs.Form.{Form}
use Rattle.msg_names.specs.declared.names.TheConstants.{MAX_NAMES}
use Rattle.msg_form.specs.declared.limits.TheConstants.{MAX_CATEGORIES, MAX_CLASSES, MAX_IMPS, MAX_ITEMS, MAX_OBJECTS}
use Rattle.msg_form.specs.Text.{Text, distinct, AreDistinct}
use Rattle.msg_form.specs.Walk.{selector_texts}

third : (a b c : Bool) → (a || b || c) ≡ false → c ≡ false
third true b c h = cc
third false true c h = cc
third false false c h = h

-- the names are all the different texts at places of selectors
pub all_selectors : (f : Form) (names : List Text) (r : Bool) → AreDistinct names (selector_texts f) → r ≡ is_over_limit f → r ≡ false → names ≡ distinct (selector_texts f)
unfolding is_over_limit has_many_selectors
all_selectors f names r are is within =
    let few : nat_lt MAX_NAMES (length names) ≡ false = are.many ∙ third (has_long_list f) (has_many_entries f) (has_many_selectors f) (sym is ∙ within) in
    let le : length names ≤ MAX_NAMES = grind (arith, nat_tests) in
    are.all le

-- and no more classes than the limit
pub few_classes : (f : Form) (r : Bool) → r ≡ is_over_limit f → r ≡ false → length f.classes ≤ MAX_CLASSES
unfolding is_over_limit has_long_list
few_classes f r is within =
    let none : is_over_limit f ≡ false = sym is ∙ within in
    at (nat_lt MAX_CLASSES (length f.classes + length f.made)) refl (first5 (nat_lt MAX_CLASSES (length f.classes + length f.made)) (nat_lt MAX_CATEGORIES (length f.categories)) (nat_lt MAX_OBJECTS (length f.objects)) (nat_lt MAX_IMPS (length f.imps)) (nat_lt MAX_ITEMS (length f.items)) (has_many_entries f) (has_many_selectors f) none)
  where
    first5 : (a b c d e g h : Bool) → ((a || b || c || d || e) || g || h) ≡ false → a ≡ false
    first5 false b c d e g h n = refl
    first5 true b c d e g h n = cc

    at : (b : Bool) → nat_lt MAX_CLASSES (length f.classes + length f.made) ≡ b → b ≡ false → length f.classes ≤ MAX_CLASSES
    at true e n = cc
    at false e n = grind (arith, nat_tests, e)
