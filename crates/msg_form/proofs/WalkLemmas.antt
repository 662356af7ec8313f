-- The texts of a walk, part after part.
use Rattle.std.proofs.Common.{◌≡◌, List, [], ◌∷◌, ◌++◌, Bor, ap, ◌∙◌, append_assoc}
use Rattle.std.specs.List.{flat_map}
use Rattle.std.proofs.lemmas.List.Folds.{flat_map-map}
use Rattle.msg_form.specs.ExprView.{constant_view}
use Rattle.msg_form.specs.Parts.{own_selector}
use Rattle.msg_form.specs.Text.{Text}
use Rattle.msg_form.specs.Views.{class_view, category_view, imp_view, item_view, form_view}
use Rattle.msg_form.specs.Walk.{forwarding_text, class_texts, category_texts, imp_texts, item_texts, selector_texts}
use Rattle.msg_form.specs.declared.form.Constant.{Constant}
use Rattle.msg_form.specs.declared.form.Form.{Form}
use Rattle.msg_form.specs.declared.form.Item.{Item}
use Rattle.msg_form.specs.declared.form.Item.TheVariants.{Send}

-- after a send's receiver and its selector come the selectors in its arguments
pub send_pushed : (item : Item) (receiver : Constant) (selector : Bor Text) (args : Bor (List Constant)) (before mid after : List Text) → item ≡ Send receiver selector args → mid ≡ before ++ own_selector (constant_view receiver) → after ≡ mid ++ selector.now ∷ []
    → before ++ item_texts (item_view item) ≡ after ++ flat_map (λ c. own_selector (constant_view c)) args.now
send_pushed item receiver selector args before mid after is first second =
    let pushed : after ≡ before ++ own_selector (constant_view receiver) ++ selector.now ∷ [] = second ∙ ap (λ ts. ts ++ selector.now ∷ []) first in
    rw (is, pushed, flat_map-map own_selector constant_view args.now) (simp append_assoc)

-- the parts of a form, one kind after the other
pub form_pushed : (f : Form) (old t₀ t₁ t₂ t₃ t₄ : List Text) → t₀ ≡ old ++ forwarding_text ∷ [] → t₁ ≡ t₀ ++ flat_map (λ c. class_texts (class_view c)) f.classes.items → t₂ ≡ t₁ ++ flat_map (λ c. category_texts (category_view c)) f.categories.items
    → t₃ ≡ t₂ ++ flat_map (λ i. imp_texts (imp_view i)) f.imps.items → t₄ ≡ t₃ ++ flat_map (λ i. item_texts (item_view i)) f.items.items → t₄ ≡ old ++ selector_texts (form_view f)
unfolding selector_texts
form_pushed f old t₀ t₁ t₂ t₃ t₄ e₀ e₁ e₂ e₃ e₄ =
    rw (e₄, e₃, e₂, e₁, e₀, flat_map-map class_texts class_view f.classes.items, flat_map-map category_texts category_view f.categories.items, flat_map-map imp_texts imp_view f.imps.items, flat_map-map item_texts item_view f.items.items) (simp append_assoc)
