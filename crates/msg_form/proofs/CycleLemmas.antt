-- The superclasses of the listed classes, by their numbers.
use Rattle.std.proofs.Common.{◌≡◌, ◌<◌, ◌≤◌, ◌-◌, ℕ, zero, suc, List, [], ◌∷◌, length, map, Option, Some, None, option_map, refl, sym, ap, ◌∙◌, arith}
use Rattle.std.specs.Prelude.{slice_index_or, unwrap_or}
use Rattle.std.proofs.lemmas.List.{length-map}
use Rattle.std.proofs.lemmas.Option.{same_Some, slice_get_within}
use Rattle.std.proofs.lemmas.Simd.{map-map}
use Rattle.msg_order.specs.Superclasses.{AreListed}
use Rattle.msg_names.specs.Numbering.{number_of}
use Rattle.msg_names.proofs.NumberLemmas.{name_at-number_of}
use Rattle.msg_form.specs.Faults.{superclasses_of}
use Rattle.msg_form.specs.Form.{ClassForm}
use Rattle.msg_form.specs.Text.{Text, number_among, distinct}
use Rattle.msg_form.specs.Views.{class_view}
use Rattle.msg_form.specs.declared.form.Class.{Class}
use Rattle.msg_form.proofs.TextLemmas.{length-distinct}

-- a class's superclass, by its number among the names
abbrev pub superclass_number : List Text → Class → Option ℕ
superclass_number names c = option_map (number_among names) (option_map (λ s. s.now) c.superclass)

-- the superclasses of all classes are those of the form
pub superclasses-are : (cs : List Class) (names : List Text) (found : List (Option ℕ)) → names ≡ distinct (map (λ (d : ClassForm). d.name) (map class_view cs)) → found ≡ map (superclass_number names) cs → found ≡ superclasses_of (map class_view cs)
superclasses-are cs names found is all =
    all ∙ ap (λ ns. map (superclass_number ns) cs) is
    ∙ sym (map-map (λ (c : ClassForm). option_map (number_among (distinct (map (λ (d : ClassForm). d.name) (map class_view cs)))) c.superclass) class_view cs)

-- the number of a name is below n, if there are at most n names
number-within : (names : List Text) (n : ℕ) (t : Text) → length names ≤ n → 0 < n → number_among names t < n
number-within names n t most some = at (number_of names t) refl
  where
    at : (o : Option ℕ) → number_of names t ≡ o → unwrap_or o 1 - 1 < n
    at None e = omega (arith, some)
    at (Some m) e = let inside = slice_get_within names (m - 1) t (name_at-number_of names t m e) in omega (arith, inside, most)

-- so a superclass is one of the classes
superclass-within : (names : List Text) (cs : List ClassForm) (n k d : ℕ) → length names ≤ n → length cs ≤ n → slice_index_or (map (λ (c : ClassForm). option_map (number_among names) c.superclass) cs) k None ≡ Some d → d < n
superclass-within names [] n k d few some e = cc
superclass-within names (c ∷ cs) n zero d few some e = at c.superclass e
  where
    at : (o : Option Text) → option_map (number_among names) o ≡ Some d → d < n
    at None h = cc
    at (Some t) h = let same = same_Some (number_among names t) d h in let inside = number-within names n t few (omega (arith, some)) in omega (arith, same, inside)
superclass-within names (c ∷ cs) n (suc k) d few some e = superclass-within names cs n k d few (omega (arith, some)) e

pub superclasses-listed : (cs : List ClassForm) → AreListed (superclasses_of cs)
superclasses-listed cs =
    let names = distinct (map (λ (c : ClassForm). c.name) cs) in
    let most = length-distinct (map (λ (c : ClassForm). c.name) cs) in
    let count = length-map cs (λ (c : ClassForm). c.name) in
    let all = length-map cs (λ (c : ClassForm). option_map (number_among names) c.superclass) in
    record { above = λ k d e. superclass-within names cs (length (superclasses_of cs)) k d (omega (arith, most, count, all)) (omega (arith, all)) e }
