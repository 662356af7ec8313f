-- The lists of pairs of a form, part after part.
use Rattle.std.proofs.Common.{◌≡◌, List, [], ◌++◌}
use Rattle.std.specs.List.{flat_map}
use Rattle.std.proofs.lemmas.List.Folds.{flat_map-map}
use Rattle.msg_form.specs.Form.{PairForm}
use Rattle.msg_form.specs.Lists.{class_lists, category_lists, item_lists, method_lists, all_lists}
use Rattle.msg_form.specs.Views.{class_view, category_view, item_view, form_view}
use Rattle.msg_form.specs.declared.form.Form.{Form}

pub methods_pushed : (f : Form) (l₀ l₁ l₂ : List (List PairForm)) → l₀ ≡ [] → l₁ ≡ l₀ ++ flat_map (λ c. class_lists (class_view c)) f.classes.items → l₂ ≡ l₁ ++ flat_map (λ c. category_lists (category_view c)) f.categories.items
    → l₂ ≡ method_lists (form_view f)
methods_pushed f l₀ l₁ l₂ e₀ e₁ e₂ = rw (e₂, e₁, e₀, flat_map-map class_lists class_view f.classes.items, flat_map-map category_lists category_view f.categories.items)

pub items_pushed : (f : Form) (l₀ l₁ : List (List PairForm)) → l₀ ≡ method_lists (form_view f) → l₁ ≡ l₀ ++ flat_map (λ i. item_lists (item_view i)) f.items.items → l₁ ≡ all_lists (form_view f)
items_pushed f l₀ l₁ e₀ e₁ = rw (e₁, e₀, flat_map-map item_lists item_view f.items.items)
