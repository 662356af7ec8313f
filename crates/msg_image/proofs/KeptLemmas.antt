-- Listed classes and categories, as what tables are opened of has them.
use Rattle.std.proofs.Common.{◌≡◌, ◌+◌, ◌*◌, ℕ, Bool, cond, List, [], ◌∷◌, ◌++◌, drop, length, map, option_map, slice_get, Some, refl, sym, ap, ◌∙◌, arith}
use Rattle.std.proofs.lemmas.List.{length-map}
use Rattle.std.proofs.lemmas.Option.{slice_get-map}
use Rattle.msg_tables.specs.Attached.{two_lists, listed_lists, category_lists, categories_in}
use Rattle.msg_tables.specs.Methods.{MethodsOf}
use Rattle.msg_tables.specs.declared.origin.Category.{Category}
use Rattle.msg_tables.specs.declared.origin.ListedClass.{ListedClass}
use Rattle.msg_tables.proofs.OriginLemmas as lists
use Rattle.msg_tables.proofs.OriginLemmas.{drop-listed, list-class}
use Rattle.msg_image.specs.Opened.{class_lists}
use Rattle.msg_image.specs.Parts.{ClassParts}
use Rattle.msg_image.specs.Plain.{named_classes}

-- what tables are opened of, of a listed class
abbrev pub listed_part : ClassParts → ListedClass
listed_part c = record { superclass = c.superclass; methods = c.methods; class_methods = c.class_methods }

pub lists-listed : (j : ℕ) (cs : List ClassParts) → listed_lists j (map listed_part cs) ≡ class_lists j cs
lists-listed j [] = refl
lists-listed j (c ∷ cs) = ap (λ ls. two_lists j c.methods c.class_methods ++ ls) (lists-listed (j + 1) cs)

pub length-lists : (j : ℕ) (cs : List ClassParts) (rest : List MethodsOf) → length (class_lists j cs ++ rest) ≡ 2 * length cs + length rest
length-lists j [] rest = omega arith
length-lists j (c ∷ cs) rest = omega (arith, length-lists (j + 1) cs rest)

pub supers-listed : (cs : List ClassParts) → map (λ (c : ListedClass). c.superclass) (map listed_part cs) ≡ map (λ (c : ClassParts). c.superclass) cs
supers-listed [] = refl
supers-listed (c ∷ cs) = ap (λ ds. c.superclass ∷ ds) (supers-listed cs)

-- the classes, from their names and what tables are opened of
pub classes-back : (j : ℕ) (cs : List ClassParts) (rest : List MethodsOf) → named_classes (map (λ (c : ClassParts). c.name) cs) (map (λ (c : ClassParts). c.superclass) cs) (class_lists j cs ++ rest) ≡ cs
classes-back j [] rest = refl
classes-back j (c ∷ cs) rest = ap (λ ds. c ∷ ds) (classes-back (j + 1) cs rest)

-- the categories, from theirs
pub categories-back : (cs : List ClassParts) (ks : List Category) → categories_in (drop (2 * length (map (λ (c : ClassParts). c.superclass) cs)) (class_lists 0 cs ++ category_lists ks)) ≡ ks
categories-back cs ks =
    let count = length-map (map listed_part cs) (λ (c : ListedClass). c.superclass) in
    let supers = ap length (supers-listed cs) in
    let dropped = drop-listed 0 (map listed_part cs) (category_lists ks) (2 * length (map (λ (c : ClassParts). c.superclass) cs)) (omega (arith, count, supers)) in
    ap (λ ls. categories_in (drop (2 * length (map (λ (c : ClassParts). c.superclass) cs)) (ls ++ category_lists ks))) (sym (lists-listed 0 cs)) ∙ ap categories_in dropped ∙ lists.categories-back ks

-- the list of a class reference whose class is listed
pub list-at : (j : ℕ) (cs : List ClassParts) (rest : List MethodsOf) (k : ℕ) (m : Bool) (c : ClassParts) → slice_get cs k ≡ Some c
    → slice_get (class_lists j cs ++ rest) (2 * k + cond m 1 0) ≡ Some (record { class = record { class = j + k; meta = m }; methods = cond m c.class_methods c.methods })
list-at j cs rest k m c at =
    ap (λ ls. slice_get (ls ++ rest) (2 * k + cond m 1 0)) (sym (lists-listed j cs)) ∙ list-class j (map listed_part cs) rest k (listed_part c) m (slice_get-map listed_part cs k ∙ ap (option_map listed_part) at)
