-- What tables of an image are opened of.
use Rattle.std.proofs.Common.{◌≡◌, ◌≤◌, ◌<◌, ◌+◌, ℕ, suc, List, [], ◌∷◌, ◌++◌, length, slice_get, Some, true, refl, arith}
use Rattle.std.specs.Prelude.{sum_by, nat_le, All}
use Rattle.std.proofs.lemmas.Bool.Decides.{nat_tests}
use Rattle.std.proofs.lemmas.List.{length-map}
use Rattle.std.proofs.lemmas.List.Sums.{sum_by-cons, sum_by-append}
use Rattle.std.proofs.lemmas.List.Elements.{All-head, All-tail, All-nil, All-cons, All-append}
use Rattle.msg_tables.specs.After.{of_class, of_meta}
use Rattle.msg_tables.specs.Origin as origin
use Rattle.msg_tables.specs.Origin.{OriginView, IsSoundList, are_listed, last_imp}
use Rattle.msg_tables.specs.Methods.{MethodsOf}
use Rattle.msg_tables.proofs.ListedLemmas.{and_both}
use Rattle.msg_tables.specs.Attached.{two_lists, category_lists}
use Rattle.msg_image.specs.Opened.{class_lists, origin_of}
use Rattle.msg_image.specs.Parts.{ImageParts, ClassParts}
use Rattle.msg_image.specs.Sound.{IsSound, IsSoundClass, IsSoundCategory, IsMethodOf, AreListed}
use Rattle.msg_tables.specs.declared.origin.Category.{Category}
use Rattle.msg_image.proofs.PartLemmas.{All-at, classes-listed}

-- listed implementations, as a test
listed-test : (image : ImageParts) (ms : List (ℕ × ℕ)) → AreListed image ms → are_listed (length image.imps) ms ≡ true
listed-test image [] all = refl
listed-test image (m ∷ ms) all =
    let inside = (All-head (IsMethodOf image) m ms all).1 in
    and_both (nat_le m.1 (length image.imps)) (are_listed (length image.imps) ms) (grind (arith, nat_tests, inside)) (listed-test image ms (All-tail (IsMethodOf image) m ms all))

module _ (image : ImageParts) (sound : IsSound image) where
  abbrev o : OriginView
  o = origin_of image

  classes : length o.superclasses ≡ length image.classes
  classes = length-map image.classes (λ (c : ClassParts). c.superclass)

  counted : last_imp o.counts ≡ length image.imps
  counted = length-map image.imps _

  one : (k : ℕ) (ms : List (ℕ × ℕ)) → k < length image.classes → AreListed image ms → IsSoundList o (record { class = of_class k; methods = ms })
  one k ms inside all = record { class = omega (arith, classes, inside); methods = rw counted (listed-test image ms all) }

  one-meta : (k : ℕ) (ms : List (ℕ × ℕ)) → k < length image.classes → AreListed image ms → IsSoundList o (record { class = of_meta k; methods = ms })
  one-meta k ms inside all = record { class = omega (arith, classes, inside); methods = rw counted (listed-test image ms all) }

  two : (k : ℕ) (ms cs : List (ℕ × ℕ)) (ls : List MethodsOf) → k < length image.classes → AreListed image ms → AreListed image cs → All (IsSoundList o) ls → All (IsSoundList o) (two_lists k ms cs ++ ls)
  two k ms cs ls inside own meta rest =
      All-cons (IsSoundList o) (record { class = of_class k; methods = ms }) (record { class = of_meta k; methods = cs } ∷ ls) (one k ms inside own)
      (All-cons (IsSoundList o) (record { class = of_meta k; methods = cs }) ls (one-meta k cs inside meta) rest)

  class_lists-sound : (j : ℕ) (cs : List ClassParts) → j + length cs ≤ length image.classes → ((i : ℕ) (c : ClassParts) → slice_get cs i ≡ Some c → IsSoundClass image c) → All (IsSoundList o) (class_lists j cs)
  class_lists-sound j [] inside all = All-nil (IsSoundList o)
  class_lists-sound j (c ∷ cs) inside all =
      let here = all 0 c refl in
      two j c.methods c.class_methods (class_lists (j + 1) cs) (omega (arith, inside)) here.methods here.class_methods (class_lists-sound (j + 1) cs (omega (arith, inside)) (λ i d at. all (suc i) d at))

  category_lists-sound : (cs : List Category) → All (IsSoundCategory image) cs → All (IsSoundList o) (category_lists cs)
  category_lists-sound [] all = All-nil (IsSoundList o)
  category_lists-sound (c ∷ cs) all =
      let here = All-head (IsSoundCategory image) c cs all in
      two c.class c.methods c.class_methods (category_lists cs) here.class here.methods here.class_methods (category_lists-sound cs (All-tail (IsSoundCategory image) c cs all))

  abbrev size : MethodsOf → ℕ
  size l = length l.methods

  two-size : (k : ℕ) (ms cs : List (ℕ × ℕ)) (ls : List MethodsOf) → sum_by size (two_lists k ms cs ++ ls) ≡ length ms + length cs + sum_by size ls
  two-size k ms cs ls =
      let first = sum_by-cons size (record { class = of_class k; methods = ms }) (record { class = of_meta k; methods = cs } ∷ ls) in
      let second = sum_by-cons size (record { class = of_meta k; methods = cs }) ls in
      omega (arith, first, second)

  class_lists-size : (j : ℕ) (cs : List ClassParts) → sum_by size (class_lists j cs) ≡ sum_by (λ (c : ClassParts). length c.methods + length c.class_methods) cs
  class_lists-size j [] = refl
  class_lists-size j (c ∷ cs) = omega (arith, two-size j c.methods c.class_methods (class_lists (j + 1) cs), class_lists-size (j + 1) cs, sum_by-cons (λ (c : ClassParts). length c.methods + length c.class_methods) c cs)

  category_lists-size : (cs : List Category) → sum_by size (category_lists cs) ≡ sum_by (λ (c : Category). length c.methods + length c.class_methods) cs
  category_lists-size [] = refl
  category_lists-size (c ∷ cs) = omega (arith, two-size c.class c.methods c.class_methods (category_lists cs), category_lists-size cs, sum_by-cons (λ (c : Category). length c.methods + length c.class_methods) c cs)

  -- so tables can be opened
  pub origin-sound : origin.IsSound o
  origin-sound = record {
    classes = classes-listed image sound;
    chains = sound.chains;
    lists = All-append (IsSoundList o) (class_lists 0 image.classes) (category_lists image.categories)
        (class_lists-sound 0 image.classes (omega arith) (λ i c at. All-at (IsSoundClass image) image.classes i c sound.classes at)) (category_lists-sound image.categories sound.categories);
    few_classes = omega (arith, classes, sound.few_classes);
    few_rows = omega (arith, sum_by-append size (class_lists 0 image.classes) (category_lists image.categories), class_lists-size 0 image.classes, category_lists-size image.categories, sound.few_rows);
    few_changes = omega arith;
    few_senders = omega arith;
    few_words = omega arith;
  }
