-- The last category with a method wins.
use Rattle.std.proofs.Common.{◌≡◌, ℕ, List, [], ◌∷◌, ◌++◌, Option, Some, None, refl, sym, ap, ◌∙◌, append_assoc}
use Rattle.std.specs.Prelude.{All}
use Rattle.std.proofs.lemmas.List.Elements.{All-head, All-tail, All-nil, All-cons}
use Rattle.msg_names.specs.declared.value.ClassRef.{ClassRef}
use Rattle.msg_tables.specs.After.{of_class, of_meta, rows_at}
use Rattle.msg_tables.specs.History.{empty, lookup}
use Rattle.msg_tables.specs.Opening as opening
use Rattle.msg_tables.specs.Rows.{own}
use Rattle.msg_rows.specs.RowList.{or_else, own_in}
use Rattle.msg_tables.specs.Methods.{MethodsOf}
use Rattle.msg_tables.proofs.HoldsLemmas.{meta-apart}
use Rattle.msg_tables.proofs.LawLemmas.{found-list}
use Rattle.msg_tables.proofs.OwnLemmas.{own-append, own-rows_other}
use Rattle.msg_tables.specs.Attached.{two_lists, category_lists}
use Rattle.msg_image.specs.Opened.{Lacks, class_lists, origin_of}
use Rattle.msg_image.specs.Parts.{ImageParts}
use Rattle.msg_image.specs.Sound.{IsSound}
use Rattle.msg_tables.specs.declared.origin.Category.{Category}
use Rattle.msg_image.proofs.OpenedLemmas.{origin-sound}

category_lists-append : (xs ys : List Category) → category_lists (xs ++ ys) ≡ category_lists xs ++ category_lists ys
category_lists-append [] ys = refl
category_lists-append (x ∷ xs) ys = ap (λ ls. two_lists x.class x.methods x.class_methods ++ ls) (category_lists-append xs ys)

neither : (a b : Option ℕ) → or_else a b ≡ None → (a ≡ None) × (b ≡ None)
neither None b e = (refl, e)
neither (Some i) b e = cc

-- the lists of categories without a method lack it
lists-lack : (later : List Category) (c : ClassRef) (s : ℕ) → All (Lacks c s) later → All (opening.Lacks c s) (category_lists later)
lists-lack [] c s all = All-nil (opening.Lacks c s)
lists-lack (k ∷ ks) c s all =
    let own_rows = rows_at (of_class k.class) k.methods in
    let meta_rows = rows_at (of_meta k.class) k.class_methods in
    let (meta, class) = neither (own meta_rows c s) (own own_rows c s) (sym (own-append own_rows meta_rows c s) ∙ All-head (Lacks c s) k ks all) in
    let rest = lists-lack ks c s (All-tail (Lacks c s) k ks all) in
    All-cons (opening.Lacks c s) (record { class = of_class k.class; methods = k.methods }) (record { class = of_meta k.class; methods = k.class_methods } ∷ category_lists ks) class
    (All-cons (opening.Lacks c s) (record { class = of_meta k.class; methods = k.class_methods }) (category_lists ks) meta rest)

module _ (image : ImageParts) (before later : List Category) (c : Category) (s i : ℕ) (sound : IsSound image) (is : image.categories ≡ before ++ c ∷ later) where
  abbrev class : MethodsOf
  class = record { class = of_class c.class; methods = c.methods }

  abbrev meta : MethodsOf
  meta = record { class = of_meta c.class; methods = c.class_methods }

  first : List MethodsOf
  first = class_lists 0 image.classes ++ category_lists before

  split : class_lists 0 image.classes ++ category_lists image.categories ≡ first ++ class ∷ meta ∷ category_lists later
  unfolding first
  split =
      ap (λ cs. class_lists 0 image.classes ++ category_lists cs) is ∙ ap (λ ls. class_lists 0 image.classes ++ ls) (category_lists-append before (c ∷ later))
      ∙ sym (append_assoc (class_lists 0 image.classes) (category_lists before) (class ∷ meta ∷ category_lists later))

  pub last-class : All (Lacks (of_class c.class) s) later → own_in s c.methods ≡ Some i → lookup (empty (origin_of image)) (of_class c.class) s ≡ i
  last-class all found =
      let other = own-rows_other (of_meta c.class) (of_class c.class) c.class_methods s (meta-apart c.class) in
      found-list (origin_of image) first (meta ∷ category_lists later) class s i (origin-sound image sound) split
      (All-cons (opening.Lacks (of_class c.class) s) meta (category_lists later) other (lists-lack later (of_class c.class) s all)) found

  pub last-meta : All (Lacks (of_meta c.class) s) later → own_in s c.class_methods ≡ Some i → lookup (empty (origin_of image)) (of_meta c.class) s ≡ i
  last-meta all found =
      found-list (origin_of image) (first ++ class ∷ []) (category_lists later) meta s i (origin-sound image sound) (split ∙ sym (append_assoc first (class ∷ []) (meta ∷ category_lists later)))
      (lists-lack later (of_meta c.class) s all) found
