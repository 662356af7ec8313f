-- Whether an element of a list passes a test, if the list is made from others.
use Rattle.std.proofs.Common.{◌≡◌, Bool, true, false, ◌||◌, List, [], ◌∷◌, ◌++◌, map, Bor, refl, sym, ap, ◌∙◌}
use Rattle.std.specs.List.{flat_map, list_any}
use Rattle.std.proofs.lemmas.List.Folds.{list_any-append}
use Rattle.std.proofs.lemmas.Simd.{map-map}

pub list_any-map : {A B : Type 0} (p : B → Bool) (f : A → B) (xs : List A) → list_any p (map f xs) ≡ list_any (λ x. p (f x)) xs
list_any-map p f [] = refl
list_any-map p f (x ∷ xs) = ap (λ r. p (f x) || r) (list_any-map p f xs)

pub list_any-flat_map : {A B : Type 0} (p : B → Bool) (f : A → List B) (xs : List A) → list_any p (flat_map f xs) ≡ list_any (λ x. list_any p (f x)) xs
list_any-flat_map p f [] = refl
list_any-flat_map p f (x ∷ xs) = list_any-append p (f x) (flat_map f xs) ∙ ap (λ r. list_any p (f x) || r) (list_any-flat_map p f xs)

-- an element of one of the lists passes
pub any_listed : {A B : Type 0} (p : B → Bool) (f : A → B) (lists : List (Bor (List A))) → list_any (λ l. list_any (λ x. p (f x)) l.now) lists ≡ list_any p (flat_map (λ l. l) (map (λ l. map f l.now) lists))
any_listed p f lists =
    let inside : list_any (λ l. list_any p (map f l.now)) lists ≡ list_any (λ l. list_any (λ x. p (f x)) l.now) lists = λ i. list_any (λ l. list_any-map p f l.now i) lists in
    sym (list_any-flat_map p (λ l. l) (map (λ l. map f l.now) lists) ∙ list_any-map (list_any p) (λ l. map f l.now) lists ∙ inside)

pub any_mapped : {A B C : Type 0} (p : C → Bool) (f : B → List C) (g : A → B) (xs : List A) → list_any (λ x. list_any p (f (g x))) xs ≡ list_any p (flat_map f (map g xs))
any_mapped p f g xs = sym (list_any-flat_map p f (map g xs) ∙ list_any-map (λ x. list_any p (f x)) g xs)

pub ruleset anys = (list_any-map, list_any-flat_map, list_any-append)

pub ruleset maps = (map-map)

-- ---- in one list or in another

pub found : {A : Type 0} (p : A → Bool) (xs ys : List A) (r : Bool) → r ≡ list_any p xs → r ≡ true → true ≡ list_any p (xs ++ ys)
found p xs ys r is there = let here : list_any p xs ≡ true = sym is ∙ there in sym (list_any-append p xs ys ∙ ap (λ b. b || list_any p ys) here)

pub not_found : {A : Type 0} (p : A → Bool) (xs ys : List A) (r s : Bool) → r ≡ list_any p xs → r ≡ false → s ≡ list_any p ys → s ≡ list_any p (xs ++ ys)
not_found p xs ys r s is none e = let here : list_any p xs ≡ false = sym is ∙ none in sym (list_any-append p xs ys ∙ ap (λ b. b || list_any p ys) here ∙ sym e)

-- the first of two tests passes, or it doesn't and the other decides
pub first_met : (a b r whole : Bool) → whole ≡ (a || b) → r ≡ a → r ≡ true → r ≡ whole
first_met a b r whole either is met = met ∙ sym (either ∙ ap (λ x. x || b) (sym is ∙ met))

pub first_unmet : (a b r s whole : Bool) → whole ≡ (a || b) → r ≡ a → r ≡ false → s ≡ b → s ≡ whole
first_unmet a b r s whole either is unmet e = e ∙ sym (either ∙ ap (λ x. x || b) (sym is ∙ unmet))
