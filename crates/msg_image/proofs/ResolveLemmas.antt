-- Lists of a form that were resolved.
use Rattle.std.proofs.Common.{◌≡◌, ◌≤◌, ◌++◌, ℕ, List, [], ◌∷◌, map, drop, length, refl, sym, ap, ◌∙◌}
use Rattle.std.proofs.lemmas.List.{drop_all, append-nil, map-id}
use Rattle.std.proofs.lemmas.Simd.{map-map}
use Rattle.msg_form.specs.Expression as form
use Rattle.msg_form.specs.Views.{change_view, changes_view}
use Rattle.msg_form.specs.declared.form.Change.{Change as ChangeForm}
use Rattle.msg_tables.specs.declared.change.Change.{Change}
use Rattle.msg_image.specs.Numbers.{Numbers}
use Rattle.msg_image.specs.Document.{expression, expressions, change}
use Rattle.msg_image.specs.Parts.{Expression, More, in_row}

pub expressions-row : (n : Numbers) (es : List form.Expression) → expressions n (form.expressions es) ≡ in_row (map (expression n) es)
expressions-row n [] = refl
expressions-row n (e ∷ es) = ap (More (expression n e)) (expressions-row n es)

-- all forms were seen
pub all_seen : {A B : Type 0} (f : A → B) (forms : List A) (i : ℕ) (found : List B) → length forms ≤ i → found ++ map f (drop i forms) ≡ map f forms → found ≡ map f forms
all_seen f forms i found past so_far = sym (append-nil found) ∙ ap (λ rest. found ++ map f rest) (sym (drop_all i forms past)) ∙ so_far

pub arguments_found : {A : Type 0} (n : Numbers) (view : A → form.Expression) (forms : List A) (found : List Expression) → found ≡ map (λ e. expression n (view e)) forms → in_row found ≡ expressions n (form.expressions (map view forms))
arguments_found n view forms found is = ap in_row (is ∙ sym (map-map (expression n) view forms)) ∙ sym (expressions-row n (map view forms))

pub changes_found : (n : Numbers) (forms : List ChangeForm) (found : List Change) → map (λ (c : Change). c) found ≡ map (λ c. change n (change_view c)) forms → found ≡ map (change n) (changes_view forms)
changes_found n forms found are = sym (map-id found) ∙ are ∙ sym (map-map (change n) change_view forms)
