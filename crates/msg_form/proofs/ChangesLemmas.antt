-- The changes of an item in the program.
use Rattle.std.proofs.Common.{◌≡◌, ◌≢◌, Bool, List, Bor, refl, sym, ap, ◌∙◌}
use Rattle.std.specs.List.{flat_map, list_any}
use Rattle.std.proofs.lemmas.List.Folds.{flat_map-map}
use Rattle.msg_form.specs.Form.{ChangeForm, changes_of}
use Rattle.msg_form.specs.Lists.{change_classes, item_classes}
use Rattle.msg_form.specs.Text.{Text}
use Rattle.msg_form.specs.Views.{change_view, changes_view, item_view}
use Rattle.msg_form.specs.Walk.{change_texts, item_texts}
use Rattle.msg_form.specs.declared.form.Change.{Change as TheChange}
use Rattle.msg_form.specs.declared.form.Constant.{Constant}
use Rattle.msg_form.specs.declared.form.Item.{Item}
use Rattle.msg_form.specs.declared.form.Item.TheVariants.{Send, Change, ChangeAll}
use Rattle.msg_form.proofs.AnyLemmas.{any_mapped}

-- what is in the changes
pub in_changes : {A : Type 0} (f : ChangeForm → List A) (item : Item) (cs : List TheChange) → changes_view cs ≡ changes_of (item_view item) → flat_map f (changes_of (item_view item)) ≡ flat_map (λ c. f (change_view c)) cs
in_changes f item cs are = ap (flat_map f) (sym are) ∙ flat_map-map f change_view cs

-- an item that is no send has the selectors of its changes
pub texts_of_changes : (item : Item) (cs : List TheChange) → ((r : Constant) (s : Bor Text) (args : Bor (List Constant)) → item ≢ Send r s args) → changes_view cs ≡ changes_of (item_view item)
    → item_texts (item_view item) ≡ flat_map (λ c. change_texts (change_view c)) cs
texts_of_changes (Send r s args) cs none are = absurd (none r s args refl)
texts_of_changes (Change c) cs none are = in_changes change_texts (Change c) cs are
texts_of_changes (ChangeAll all) cs none are = in_changes change_texts (ChangeAll all) cs are

-- an item that is no send names the classes of its changes
pub classes_of_changes : (p : Text → Bool) (item : Item) (cs : List TheChange) (r : Bool) → ((r : Constant) (s : Bor Text) (args : Bor (List Constant)) → item ≢ Send r s args) → changes_view cs ≡ changes_of (item_view item)
    → r ≡ list_any (λ c. list_any p (change_classes (change_view c))) cs → r ≡ list_any p (item_classes (item_view item))
classes_of_changes p (Send r s args) cs b none are e = absurd (none r s args refl)
classes_of_changes p (Change c) cs b none are e = e ∙ any_mapped p change_classes change_view cs ∙ ap (λ xs. list_any p (flat_map change_classes xs)) are
classes_of_changes p (ChangeAll all) cs b none are e = e ∙ any_mapped p change_classes change_view cs ∙ ap (λ xs. list_any p (flat_map change_classes xs)) are
