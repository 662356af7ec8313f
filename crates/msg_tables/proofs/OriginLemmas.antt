-- The method lists of classes and categories, by their places.
use Rattle.std.proofs.Common.{◌≡◌, ◌+◌, ◌*◌, ℕ, zero, suc, Bool, true, false, cond, List, [], ◌∷◌, ◌++◌, length, drop, Some, slice_get, refl, sym, ap, ◌∙◌, subst, arith}
use Rattle.std.proofs.lemmas.Option.{same_Some}
use Rattle.msg_tables.specs.Methods.{MethodsOf}
use Rattle.msg_tables.specs.Attached.{ListsAt, listed_lists, category_lists, categories_in}
use Rattle.msg_tables.specs.declared.origin.ListedClass.{ListedClass}
use Rattle.msg_tables.specs.declared.origin.Category.{Category}

pub length-listed : (j : ℕ) (cs : List ListedClass) (rest : List MethodsOf) → length (listed_lists j cs ++ rest) ≡ 2 * length cs + length rest
length-listed j [] rest = omega arith
length-listed j (c ∷ cs) rest = omega (arith, length-listed (j + 1) cs rest)

pub length-categories : (ks : List Category) → length (category_lists ks) ≡ 2 * length ks
length-categories [] = refl
length-categories (k ∷ ks) = omega (arith, length-categories ks)

-- one of these lists
abbrev a_list : ℕ → Bool → List (ℕ × ℕ) → List (ℕ × ℕ) → MethodsOf
a_list k m methods class_methods = record { class = record { class = k; meta = m }; methods = cond m class_methods methods }

-- a list that is read two places further on
further : (ls : List MethodsOf) (a b l : MethodsOf) (p q : ℕ) → p ≡ suc (suc q) → slice_get ls q ≡ Some l → slice_get (a ∷ b ∷ ls) p ≡ Some l
further ls a b l p q e at = subst (λ n. slice_get (a ∷ b ∷ ls) n ≡ Some l) (sym e) at

-- the list of a listed class
pub list-class : (j : ℕ) (cs : List ListedClass) (rest : List MethodsOf) (p : ℕ) (c : ListedClass) (m : Bool) → slice_get cs p ≡ Some c
    → slice_get (listed_lists j cs ++ rest) (2 * p + cond m 1 0) ≡ Some (a_list (j + p) m c.methods c.class_methods)
list-class j [] rest p c m at = cc
list-class j (d ∷ cs) rest zero c true at =
    let same = same_Some d c at in
    let count : j ≡ j + 0 = omega arith in
    ap Some (λ i. a_list (count i) true (same i).methods (same i).class_methods)
list-class j (d ∷ cs) rest zero c false at =
    let same = same_Some d c at in
    let count : j ≡ j + 0 = omega arith in
    ap Some (λ i. a_list (count i) false (same i).methods (same i).class_methods)
list-class j (d ∷ cs) rest (suc p) c m at =
    let place : 2 * suc p + cond m 1 0 ≡ suc (suc (2 * p + cond m 1 0)) = omega arith in
    let count : j + 1 + p ≡ j + suc p = omega arith in
    let there = list-class (j + 1) cs rest p c m at ∙ ap (λ k. Some (a_list k m c.methods c.class_methods)) count in
    further (listed_lists (j + 1) cs ++ rest) (a_list j false d.methods d.class_methods) (a_list j true d.methods d.class_methods) (a_list (j + suc p) m c.methods c.class_methods) (2 * suc p + cond m 1 0) (2 * p + cond m 1 0) place there

-- the list of a category
pub list-category : (ks : List Category) (p : ℕ) (k : Category) (m : Bool) → slice_get ks p ≡ Some k → slice_get (category_lists ks) (2 * p + cond m 1 0) ≡ Some (a_list k.class m k.methods k.class_methods)
list-category [] p k m at = cc
list-category (d ∷ ks) zero k true at = let same = same_Some d k at in ap Some (λ i. a_list (same i).class true (same i).methods (same i).class_methods)
list-category (d ∷ ks) zero k false at = let same = same_Some d k at in ap Some (λ i. a_list (same i).class false (same i).methods (same i).class_methods)
list-category (d ∷ ks) (suc p) k m at =
    let place : 2 * suc p + cond m 1 0 ≡ suc (suc (2 * p + cond m 1 0)) = omega arith in
    further (category_lists ks) (a_list d.class false d.methods d.class_methods) (a_list d.class true d.methods d.class_methods) (a_list k.class m k.methods k.class_methods) (2 * suc p + cond m 1 0) (2 * p + cond m 1 0) place (list-category ks p k m at)

-- it comes after those of the listed classes
pub list-after : (j : ℕ) (cs : List ListedClass) (rest : List MethodsOf) (p q : ℕ) → p ≡ 2 * length cs + q → slice_get (listed_lists j cs ++ rest) p ≡ slice_get rest q
list-after j [] rest p q e = let same : p ≡ q = omega (arith, e) in ap (slice_get rest) same
list-after j (c ∷ cs) rest p q e =
    let count : p ≡ suc (suc (2 * length cs + q)) = omega (arith, e) in
    ap (slice_get (listed_lists j (c ∷ cs) ++ rest)) count ∙ list-after (j + 1) cs rest (2 * length cs + q) q refl

-- both lists of a class, and of a category
pub pair-class : (cs : List ListedClass) (rest : List MethodsOf) (p : ℕ) (c : ListedClass) → slice_get cs p ≡ Some c → ListsAt (listed_lists 0 cs ++ rest) p p c.methods c.class_methods
pair-class cs rest p c at =
    let lists = listed_lists 0 cs ++ rest in
    let place : 2 * p ≡ 2 * p + 0 = omega arith in
    let class : 0 + p ≡ p = omega arith in
    record {
      own = ap (slice_get lists) place ∙ list-class 0 cs rest p c false at ∙ ap (λ k. Some (a_list k false c.methods c.class_methods)) class;
      meta = list-class 0 cs rest p c true at ∙ ap (λ k. Some (a_list k true c.methods c.class_methods)) class;
    }

pub pair-category : (cs : List ListedClass) (ks : List Category) (p q : ℕ) (k : Category) → p ≡ length cs + q → slice_get ks q ≡ Some k → ListsAt (listed_lists 0 cs ++ category_lists ks) p k.class k.methods k.class_methods
pair-category cs ks p q k e at =
    let place : 2 * q ≡ 2 * q + 0 = omega arith in
    record {
      own = list-after 0 cs (category_lists ks) (2 * p) (2 * q) (omega (arith, e)) ∙ ap (slice_get (category_lists ks)) place ∙ list-category ks q k false at;
      meta = list-after 0 cs (category_lists ks) (2 * p + 1) (2 * q + 1) (omega (arith, e)) ∙ list-category ks q k true at;
    }

-- the categories, from their lists
pub categories-back : (ks : List Category) → categories_in (category_lists ks) ≡ ks
categories-back [] = refl
categories-back (k ∷ ks) = ap (λ rest. k ∷ rest) (categories-back ks)

pub drop-listed : (j : ℕ) (cs : List ListedClass) (rest : List MethodsOf) (n : ℕ) → n ≡ 2 * length cs → drop n (listed_lists j cs ++ rest) ≡ rest
drop-listed j [] rest n e = rw e refl
drop-listed j (c ∷ cs) rest n e =
    let count : n ≡ suc (suc (2 * length cs)) = omega (arith, e) in
    ap (λ m. drop m (listed_lists j (c ∷ cs) ++ rest)) count ∙ drop-listed (j + 1) cs rest (2 * length cs) refl
