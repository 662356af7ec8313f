-- The classes of categories, objects and implementations.
use Rattle.std.proofs.Common.{◌≡◌, Bool, true, false, ◌||◌, List, ◌++◌, refl, sym, ap, ◌∙◌}
use Rattle.std.specs.List.{list_any}
use Rattle.std.proofs.lemmas.List.Folds.{list_any-append}
use Rattle.msg_form.specs.Faults.{has_unknown_class}
use Rattle.msg_form.specs.Form as form
use Rattle.msg_form.specs.Lists.{listed_names, class_names, body_classes, home_classes, item_classes, other_classes}
use Rattle.msg_form.specs.Text.{Text, is_unknown, distinct}
use Rattle.msg_form.specs.Views.{form_view, item_view}
use Rattle.msg_form.specs.declared.form.Form.{Form}
use Rattle.msg_form.proofs.AnyLemmas.{list_any-map, list_any-flat_map}
use Rattle.msg_form.proofs.BodyLemmas.{is_unknown-distinct}

-- the classes of categories and implementations, in the program
pub any_home : (p : Text → Bool) (f : Form) → list_any p (home_classes (form_view f)) ≡ (list_any (λ c. p c.class.now) f.categories.items || list_any (λ i. p i.class.now) f.imps.items)
any_home p f = simp (list_any-append, list_any-map)

-- the classes that objects and items name, in the program
pub any_other : (p : Text → Bool) (f : Form) → list_any p (other_classes (form_view f)) ≡ (list_any (λ o. p o.class.now) f.objects.items || list_any (λ i. list_any p (item_classes (item_view i))) f.items.items)
any_other p f = simp (list_any-append, list_any-map, list_any-flat_map)

or-true : (b : Bool) → true ≡ (b || true)
or-true true = refl
or-true false = refl

module _ (f : form.Form) (bodies : Bool) (in_bodies : bodies ≡ list_any (is_unknown (class_names f)) (body_classes f)) where
  named : list_any (is_unknown (class_names f)) (body_classes f ++ other_classes f) ≡ (bodies || list_any (is_unknown (class_names f)) (other_classes f))
  named = list_any-append (is_unknown (class_names f)) (body_classes f) (other_classes f) ∙ ap (λ b. b || list_any (is_unknown (class_names f)) (other_classes f)) (sym in_bodies)

  -- a body names an unknown class
  pub unknown-in_bodies : bodies ≡ true → true ≡ has_unknown_class f
  unfolding has_unknown_class
  unknown-in_bodies e = sym (ap (λ b. b || list_any (is_unknown (listed_names f)) (home_classes f)) (named ∙ ap (λ b. b || list_any (is_unknown (class_names f)) (other_classes f)) e))

  -- a category or implementation has a class that isn't listed
  pub unknown-at_home : (listed : List Text) (homes : Bool) → listed ≡ distinct (listed_names f) → homes ≡ list_any (is_unknown listed) (home_classes f) → homes ≡ true → true ≡ has_unknown_class f
  unfolding has_unknown_class
  unknown-at_home listed homes is e met =
      let there : list_any (is_unknown (listed_names f)) (home_classes f) ≡ true = ap (λ p. list_any p (home_classes f)) (sym (ap is_unknown is ∙ is_unknown-distinct (listed_names f))) ∙ sym e ∙ met in
      or-true (list_any (is_unknown (class_names f)) (body_classes f ++ other_classes f)) ∙ ap (λ b. list_any (is_unknown (class_names f)) (body_classes f ++ other_classes f) || b) (sym there)

  -- neither; objects and items are left
  pub unknown-elsewhere : (listed classes : List Text) (homes others : Bool) → bodies ≡ false → listed ≡ distinct (listed_names f) → homes ≡ list_any (is_unknown listed) (home_classes f) → homes ≡ false
      → classes ≡ distinct (class_names f) → others ≡ list_any (is_unknown classes) (other_classes f) → others ≡ has_unknown_class f
  unfolding has_unknown_class
  unknown-elsewhere listed classes homes others none is e absent are g =
      let gone : list_any (is_unknown (listed_names f)) (home_classes f) ≡ false = ap (λ p. list_any p (home_classes f)) (sym (ap is_unknown is ∙ is_unknown-distinct (listed_names f))) ∙ sym e ∙ absent in
      let here : others ≡ list_any (is_unknown (class_names f)) (other_classes f) = g ∙ ap (λ p. list_any p (other_classes f)) (ap is_unknown are ∙ is_unknown-distinct (class_names f)) in
      here ∙ sym (ap (λ b. list_any (is_unknown (class_names f)) (body_classes f ++ other_classes f) || b) gone ∙ or-none (list_any (is_unknown (class_names f)) (body_classes f ++ other_classes f)) ∙ named ∙ ap (λ b. b || list_any (is_unknown (class_names f)) (other_classes f)) none)
    where
      or-none : (b : Bool) → (b || false) ≡ b
      or-none true = refl
      or-none false = refl
