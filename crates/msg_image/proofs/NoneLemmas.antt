-- Lists none of whose elements passes a test.
use Rattle.std.proofs.Common.{◌≡◌, List, [], ◌∷◌, ◌++◌, Bool, true, false, ◌||◌, map, refl, sym, ◌∙◌}
use Rattle.std.specs.Prelude.{All}
use Rattle.std.specs.List.{list_any, flat_map}
use Rattle.std.proofs.lemmas.List.Elements.{All-nil, All-cons, All-weaker}
use Rattle.std.proofs.lemmas.List.Folds.{list_any-append}
use Rattle.msg_form.proofs.AnyLemmas.{list_any-map, list_any-flat_map}

pub neither : (a b : Bool) → (a || b) ≡ false → (a ≡ false) × (b ≡ false)
neither true b e = cc
neither false b e = (refl, e)

pub none-append : {A : Type 0} (p : A → Bool) (xs ys : List A) → list_any p (xs ++ ys) ≡ false → (list_any p xs ≡ false) × (list_any p ys ≡ false)
none-append p xs ys none = neither (list_any p xs) (list_any p ys) (sym (list_any-append p xs ys) ∙ none)

none : {A : Type 0} (p : A → Bool) (xs : List A) → list_any p xs ≡ false → All (λ x. p x ≡ false) xs
none p [] e = All-nil (λ x. p x ≡ false)
none p (x ∷ xs) e = let each = neither (p x) (list_any p xs) e in All-cons (λ x. p x ≡ false) x xs each.0 (none p xs each.1)

pub each-none : {A : Type 0} (P : A → Type 0) (p : A → Bool) (xs : List A) → ((x : A) → p x ≡ false → P x) → list_any p xs ≡ false → All P xs
each-none P p xs holds e = All-weaker (λ x. p x ≡ false) P holds xs (none p xs e)

pub each-mapped : {A B : Type 0} (P : A → Type 0) (p : B → Bool) (f : A → B) (xs : List A) → ((x : A) → p (f x) ≡ false → P x) → list_any p (map f xs) ≡ false → All P xs
each-mapped P p f xs holds e = each-none P (λ x. p (f x)) xs holds (sym (list_any-map p f xs) ∙ e)

pub each-inside : {A B : Type 0} (P : A → Type 0) (p : B → Bool) (f : A → List B) (xs : List A) → ((x : A) → list_any p (f x) ≡ false → P x) → list_any p (flat_map f xs) ≡ false → All P xs
each-inside P p f xs holds e = each-none P (λ x. list_any p (f x)) xs holds (sym (list_any-flat_map p f xs) ∙ e)
