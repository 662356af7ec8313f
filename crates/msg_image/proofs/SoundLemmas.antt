-- The image of a form without fault is sound.
use Rattle.std.proofs.Common.{◌≡◌, ◌<◌, ◌≤◌, ◌+◌, ◌-◌, ℕ, zero, suc, List, [], ◌∷◌, ◌++◌, length, length-append, map, take, drop, Bool, true, false, not, cond, ◌&&◌, ◌||◌, Option, Some, None, option_map, slice_get, get_or, refl, sym, ap, ◌∙◌, subst, arith}
use Rattle.std.specs.Prelude.{All, unwrap_or, slice_index_or, IsSome, IfSome, nat_lt, sum_by}
use Rattle.std.specs.List.{list_any, flat_map}
use Rattle.std.proofs.lemmas.Bool.Decides.{nat_tests}
use Rattle.std.proofs.lemmas.Grind.{flat_map-append}
use Rattle.std.proofs.lemmas.List.{length-map, map-append, take-append-drop, length-take}
use Rattle.std.proofs.lemmas.List.Elements.{All-map}
use Rattle.std.proofs.lemmas.Simd.{map-map}
use Rattle.std.proofs.lemmas.List.Sums.{sum_by-cons}
use Rattle.std.proofs.lemmas.Option.{slice_get-map, slice_get-get_or, same_Some}
use Rattle.msg_order.specs.Superclasses.{super_of, has_cycle}
use Rattle.msg_order.proofs.DepthLemmas.{listed-ends}
use Rattle.msg_form.specs.declared.limits.TheConstants.{MAX_CATEGORIES, MAX_CLASSES, MAX_DEPTH, MAX_ENTRIES, MAX_EXPRESSIONS, MAX_IMPS, MAX_ITEMS, MAX_OBJECTS}
use Rattle.msg_form.specs.Version.{makes_classes}
use Rattle.msg_names.specs.Number.{selector_number, selector_of}
use Rattle.msg_names.specs.Numbering.{number_of, name_at}
use Rattle.msg_names.proofs.NumberLemmas.{name_at-number_of}
use Rattle.msg_form.specs.Expression as form
use Rattle.msg_form.specs.Faults.{is_outside, has_late_superclass, has_other_superclass, has_class_cycle, superclasses_of, has_long_list, has_many_entries, has_many_selectors, is_over_limit, has_unknown_superclass, has_unknown_class, has_unknown_object, has_unknown_imp, has_bad_selector, has_wrong_argument_count, has_too_deep_body, has_wrong_argument_index, is_too_deep, is_miscounted, is_miscounted_send, reads_beyond, sends_above}
use Rattle.msg_form.specs.Form.{PairForm, ClassForm, CategoryForm, ObjectForm, ImpForm, Form}
use Rattle.msg_form.specs.Lists.{listed_names, class_names, root_names, object_names, imp_names, class_lists, category_lists, method_lists, item_lists, all_lists, method_entries, item_imps, item_classes, item_objects, item_sends, body_sends, body_classes, body_objects, other_classes}
use Rattle.msg_form.specs.Parts as inner
use Rattle.msg_form.specs.Text.{Text, number_among, is_among, is_unknown, distinct}
use Rattle.msg_form.specs.Walk.{selector_texts, forwarding_text, list_texts, class_texts, category_texts, imp_texts, item_texts, texts_in}
use Rattle.msg_form.proofs.AnyLemmas.{list_any-map, list_any-flat_map}
use Rattle.msg_image.specs.Contents.{selectors_in, arguments_in, has_super_send}
use Rattle.msg_image.specs.Document as spec
use Rattle.msg_image.specs.Document.{expression}
use Rattle.msg_tables.specs.declared.origin.Category.{Category}
use Rattle.msg_image.specs.Numbers.{Numbers, numbers_of, selector_named, class_named, object_named, imp_named}
use Rattle.msg_image.specs.Parts.{class_total, ImageParts, ClassParts, ObjectParts, superclass_in, superclasses}
use Rattle.msg_image.specs.Sound.{IsSound, IsSoundClass, IsSoundCategory, IsSoundImp, IsMethodOf, AreListed, HasSelector, row_count}
use Rattle.msg_image.proofs.ExpressionLemmas.{AreGood, names_unknown_class, names_unknown_object, sends_miscounted, is_bad, count-expression, depth-expression, expression_of_image}
use Rattle.msg_image.proofs.ContentsLemmas.{selectors-expression, arguments_below, super-expression}
use Rattle.msg_image.proofs.FaultlessLemmas.{IsFaultless}
use Rattle.msg_image.proofs.PlaceLemmas.{IsListedAs, listed_class, listed_number, root_name}
use Rattle.msg_image.proofs.KnownLemmas.{known, among, none_unknown, number_of-first, late, earlier, among-first}
use Rattle.msg_image.proofs.NoneLemmas.{neither, none-append, each-none, each-mapped, each-inside}
use Rattle.msg_image.proofs.PartLemmas.{All-at, superclass_in-at}

-- ---- sizes

few : (most n : ℕ) → nat_lt most n ≡ false → n ≤ most
few most n e = grind (arith, nat_tests)

rows_of_classes : (n : Numbers) (cs : List ClassForm) → sum_by (λ (c : ClassParts). length c.methods + length c.class_methods) (map (spec.class n) cs) ≡ length (flat_map (λ l. l) (flat_map class_lists cs))
rows_of_classes n [] = refl
rows_of_classes n (c ∷ cs) =
    let listed : length (flat_map (λ l. l) (class_lists c ++ flat_map class_lists cs)) ≡ length (c.methods ++ (c.class_methods ++ [])) + length (flat_map (λ l. l) (flat_map class_lists cs)) =
    ap length (flat_map-append (λ l. l) (class_lists c) (flat_map class_lists cs)) ∙ length-append (c.methods ++ (c.class_methods ++ [])) (flat_map (λ l. l) (flat_map class_lists cs)) in
    omega (
      arith,
      listed,
      rows_of_classes n cs,
      length-append c.methods (c.class_methods ++ []),
      length-append c.class_methods [],
      length-map c.methods (spec.method n),
      length-map c.class_methods (spec.method n),
      sum_by-cons (λ (k : ClassParts). length k.methods + length k.class_methods) (spec.class n c) (map (spec.class n) cs),
    )

rows_of_categories : (n : Numbers) (cs : List CategoryForm) → sum_by (λ (c : Category). length c.methods + length c.class_methods) (map (spec.category n) cs) ≡ length (flat_map (λ l. l) (flat_map category_lists cs))
rows_of_categories n [] = refl
rows_of_categories n (c ∷ cs) =
    let listed : length (flat_map (λ l. l) (category_lists c ++ flat_map category_lists cs)) ≡ length (c.methods ++ (c.class_methods ++ [])) + length (flat_map (λ l. l) (flat_map category_lists cs)) =
    ap length (flat_map-append (λ l. l) (category_lists c) (flat_map category_lists cs)) ∙ length-append (c.methods ++ (c.class_methods ++ [])) (flat_map (λ l. l) (flat_map category_lists cs)) in
    omega (
      arith,
      listed,
      rows_of_categories n cs,
      length-append c.methods (c.class_methods ++ []),
      length-append c.class_methods [],
      length-map c.methods (spec.method n),
      length-map c.class_methods (spec.method n),
      sum_by-cons (λ (k : Category). length k.methods + length k.class_methods) (spec.category n c) (map (spec.category n) cs),
    )

rows : (n : Numbers) (f : Form) → row_count (spec.image_of f) ≡ length (method_entries f)
rows n f = omega (arith, rows_of_classes (numbers_of f) f.classes, rows_of_categories (numbers_of f) f.categories, ap length (flat_map-append (λ (l : List PairForm). l) (flat_map class_lists f.classes) (flat_map category_lists f.categories)), length-append (flat_map (λ (l : List PairForm). l) (flat_map class_lists f.classes)) (flat_map (λ (l : List PairForm). l) (flat_map category_lists f.categories)))

-- ---- numbers of names

pub selector_of-number : (k : ℕ) → 0 < k → selector_number (selector_of k) ≡ k
selector_of-number zero positive = absurd (omega (arith, positive))
selector_of-number (suc k) positive = refl

second_half : (a b : Bool) → a ≡ true → (a && b) ≡ false → b ≡ false
second_half true b e h = h
second_half false b e h = cc

-- one function of each is another
map-same : {A B : Type 0} (p q : A → B) (xs : List A) → ((i : ℕ) (x : A) → slice_get xs i ≡ Some x → p x ≡ q x) → map p xs ≡ map q xs
map-same p q [] same = refl
map-same p q (x ∷ xs) same = λ i. same 0 x refl i ∷ map-same p q xs (λ k y at. same (suc k) y at) i

-- what is at a place of those of a list
mapped-at : {A : Type 0} {P : Type 0} (p : A → Option ℕ) (xs : List A) (k d : ℕ) → slice_index_or (map p xs) k None ≡ Some d → ((x : A) → slice_get xs k ≡ Some x → p x ≡ Some d → P) → P
mapped-at p [] k d e then = cc
mapped-at p (x ∷ xs) zero d e then = then x refl e
mapped-at p (x ∷ xs) (suc k) d e then = mapped-at p xs k d e then

module _ (f : Form) (g : IsFaultless f) where
  n : Numbers
  n = numbers_of f

  image : ImageParts
  image = spec.image_of f

  -- a listed class
  pub class_in : (name : Text) → is_unknown (listed_names f) name ≡ false → class_named (numbers_of f) name < length (spec.image_of f).classes
  class_in name e =
      let there = among (listed_names f) name e in
      let number = known (listed_names f) name there in
      let named : class_named (numbers_of f) name ≡ number.number - 1 = listed_number f g name there ∙ ap (λ o. unwrap_or o 1 - 1) number.is in
      omega (arith, named, number.positive, number.listed, length-map f.classes (λ (c : ClassForm). c.name), length-map f.classes (spec.class (numbers_of f)))

  -- one that is listed or may be made
  pub any_class_in : (name : Text) → is_unknown (class_names f) name ≡ false → class_named (numbers_of f) name < class_total (spec.image_of f)
  unfolding class_named
  any_class_in name e =
      let number = known (class_names f) name (among (class_names f) name e) in
      let named : class_named (numbers_of f) name ≡ number.number - 1 = rw number.is refl in
      omega (arith, named, number.positive, number.listed, length-append (listed_names f) f.made, length-map f.classes (λ (c : ClassForm). c.name), length-map f.classes (spec.class (numbers_of f)))

  pub object_in : (name : Text) → is_unknown (object_names f) name ≡ false → (object_named (numbers_of f) name).object < length (spec.image_of f).objects
  unfolding object_named
  object_in name e =
      let number = known (object_names f) name (among (object_names f) name e) in
      let named : (object_named (numbers_of f) name).object ≡ number.number - 1 = rw number.is refl in
      omega (arith, named, number.positive, number.listed, length-map f.objects (λ (o : ObjectForm). o.name), length-map f.objects (spec.object (numbers_of f)))

  pub imp_in : (p : PairForm) → is_unknown (imp_names f) p.imp ≡ false → (0 < (spec.method (numbers_of f) p).1) × ((spec.method (numbers_of f) p).1 ≤ length (spec.image_of f).imps)
  unfolding imp_named
  imp_in p e =
      let number = known (imp_names f) p.imp (among (imp_names f) p.imp e) in
      let named : (spec.method (numbers_of f) p).1 ≡ number.number = rw number.is refl in
      (omega (arith, named, number.positive), omega (arith, named, number.listed, length-map f.imps (λ (i : ImpForm). i.name), length-map f.imps (spec.imp (numbers_of f))))

  pub selector_in : (t : Text) → is_unknown (selector_texts f) t ≡ false → HasSelector (spec.image_of f) (selector_named (numbers_of f) t)
  unfolding selector_named
  selector_in t e =
      let number = known (selector_texts f) t (among (selector_texts f) t e) in
      let named : selector_named (numbers_of f) t ≡ selector_of number.number = rw number.is refl in
      omega (arith, ap selector_number named, selector_of-number number.number number.positive, number.numbered)

  -- ---- what holds of the texts at all places of selectors holds at each place

  -- a test that none of the texts passes, at the places of classes, of categories, of bodies and of
  -- items
  pub record NoneIn (p : Text → Bool) : Type 0 where
    pub classes : list_any p (flat_map class_texts f.classes) ≡ false
    pub categories : list_any p (flat_map category_texts f.categories) ≡ false
    pub imps : list_any p (flat_map imp_texts f.imps) ≡ false
    pub items : list_any p (flat_map item_texts f.items) ≡ false

  none_in : (p : Text → Bool) → list_any p (selector_texts f) ≡ false → NoneIn p
  unfolding selector_texts
  none_in p none =
      let to_items = none-append p (flat_map class_texts f.classes ++ flat_map category_texts f.categories ++ flat_map imp_texts f.imps) (flat_map item_texts f.items) (neither (p forwarding_text) _ none).1 in
      let to_imps = none-append p (flat_map class_texts f.classes ++ flat_map category_texts f.categories) (flat_map imp_texts f.imps) to_items.0 in
      let to_categories = none-append p (flat_map class_texts f.classes) (flat_map category_texts f.categories) to_imps.0 in
      record { classes = to_categories.0; categories = to_categories.1; imps = to_imps.1; items = to_items.1 }

  -- each is the name of a selector
  pub selectors_good : NoneIn is_bad
  unfolding has_bad_selector
  selectors_good = none_in is_bad g.selectors

  -- a text that has no number
  abbrev pub unnamed : Text → Bool
  unnamed = is_unknown (selector_texts f)

  pub selectors_named : NoneIn unnamed
  selectors_named = none_in unnamed (none_unknown [] (selector_texts f))

  -- ---- method lists

  abbrev pub unlisted : PairForm → Bool
  unlisted p = is_unknown (imp_names f) p.imp

  pub listed : (ps : List PairForm) → list_any unlisted ps ≡ false → list_any unnamed (list_texts ps) ≡ false → AreListed (spec.image_of f) (spec.methods (numbers_of f) ps)
  listed ps none named =
      let imps = each-none (λ p. (0 < (spec.method (numbers_of f) p).1) × ((spec.method (numbers_of f) p).1 ≤ length (spec.image_of f).imps)) unlisted ps imp_in none in
      let selectors = each-mapped (λ (p : PairForm). HasSelector (spec.image_of f) (selector_named (numbers_of f) p.selector)) unnamed (λ (p : PairForm). p.selector) ps (λ p. selector_in p.selector) named in
      All-map (IsMethodOf (spec.image_of f)) (spec.method (numbers_of f)) ps (λ k d inside. ((imps k d inside).0, (imps k d inside).1, selectors k d inside))

  pub imps_cited_by_items : (list_any (λ (l : List PairForm). list_any unlisted l) (flat_map item_lists f.items) ≡ false) × (list_any (is_unknown (imp_names f)) (flat_map item_imps f.items) ≡ false)
  unfolding has_unknown_imp
  imps_cited_by_items =
      let cited = none-append (is_unknown (imp_names f)) (map (λ (p : PairForm). p.imp) (flat_map (λ (l : List PairForm). l) (all_lists f))) (flat_map item_imps f.items) g.imps in
      let entries = sym (list_any-map (is_unknown (imp_names f)) (λ (p : PairForm). p.imp) (flat_map (λ (l : List PairForm). l) (all_lists f))) ∙ cited.0 in
      let in_lists = sym (list_any-flat_map unlisted (λ (l : List PairForm). l) (all_lists f)) ∙ entries in
      ((none-append (λ (l : List PairForm). list_any unlisted l) (method_lists f) (flat_map item_lists f.items) in_lists).1, cited.1)

  lists : (list_any (λ l. list_any unlisted l) (flat_map class_lists f.classes) ≡ false) × (list_any (λ l. list_any unlisted l) (flat_map category_lists f.categories) ≡ false)
  unfolding has_unknown_imp
  lists =
      let cited = (none-append (is_unknown (imp_names f)) (map (λ (p : PairForm). p.imp) (flat_map (λ (l : List PairForm). l) (all_lists f))) (flat_map item_imps f.items) g.imps).0 in
      let entries = sym (list_any-map (is_unknown (imp_names f)) (λ (p : PairForm). p.imp) (flat_map (λ (l : List PairForm). l) (all_lists f))) ∙ cited in
      let in_lists = sym (list_any-flat_map unlisted (λ (l : List PairForm). l) (all_lists f)) ∙ entries in
      let methods = (none-append (λ (l : List PairForm). list_any unlisted l) (method_lists f) (flat_map item_lists f.items) in_lists).0 in
      none-append (λ (l : List PairForm). list_any unlisted l) (flat_map class_lists f.classes) (flat_map category_lists f.categories) methods

  abbrev TwoListed : List PairForm → List PairForm → Type 0
  TwoListed ms cs = AreListed (spec.image_of f) (spec.methods (numbers_of f) ms) × AreListed (spec.image_of f) (spec.methods (numbers_of f) cs)

  pub two_listed : (ms cs : List PairForm) → list_any (λ (l : List PairForm). list_any unlisted l) (ms ∷ cs ∷ []) ≡ false → list_any unnamed (list_texts ms ++ list_texts cs) ≡ false → TwoListed ms cs
  two_listed ms cs none named =
      let each = neither (list_any unlisted ms) (list_any unlisted cs || false) none in
      let texts = none-append unnamed (list_texts ms) (list_texts cs) named in
      (listed ms each.0 texts.0, listed cs (neither (list_any unlisted cs) false each.1).0 texts.1)

  class_methods_listed : All (λ (c : ClassForm). TwoListed c.methods c.class_methods) f.classes
  class_methods_listed =
      let texts = each-inside (λ (c : ClassForm). list_any unnamed (class_texts c) ≡ false) unnamed class_texts f.classes (λ c e. e) selectors_named.classes in
      let imps = each-inside (λ (c : ClassForm). list_any (λ l. list_any unlisted l) (class_lists c) ≡ false) (λ l. list_any unlisted l) class_lists f.classes (λ c e. e) lists.0 in
      λ k d inside. two_listed (get_or f.classes k d).methods (get_or f.classes k d).class_methods (imps k d inside) (texts k d inside)

  category_methods_listed : All (λ (c : CategoryForm). TwoListed c.methods c.class_methods) f.categories
  category_methods_listed =
      let texts = each-inside (λ (c : CategoryForm). list_any unnamed (category_texts c) ≡ false) unnamed category_texts f.categories (λ c e. e) selectors_named.categories in
      let imps = each-inside (λ (c : CategoryForm). list_any (λ l. list_any unlisted l) (category_lists c) ≡ false) (λ l. list_any unlisted l) category_lists f.categories (λ c e. e) lists.1 in
      λ k d inside. two_listed (get_or f.categories k d).methods (get_or f.categories k d).class_methods (imps k d inside) (texts k d inside)

  -- ---- classes

  other_superclass : has_other_superclass f ≡ false
  unfolding has_unknown_superclass
  other_superclass = (neither (has_other_superclass f) _ g.superclasses).0

  -- in version 1 a superclass comes before its subclasses
  first_superclass : makes_classes f.version ≡ false → has_late_superclass [] f.classes ≡ false
  unfolding has_other_superclass
  first_superclass first = sym (ap (λ b. cond b (list_any (λ (c : ClassForm). is_outside (listed_names f) c.superclass) f.classes) (has_late_superclass [] f.classes)) first) ∙ other_superclass

  -- in versions 2 and 3 it is one of the listed classes
  second_superclass : makes_classes f.version ≡ true → list_any (λ (c : ClassForm). is_outside (listed_names f) c.superclass) f.classes ≡ false
  unfolding has_other_superclass
  second_superclass second = sym (ap (λ b. cond b (list_any (λ (c : ClassForm). is_outside (listed_names f) c.superclass) f.classes) (has_late_superclass [] f.classes)) second) ∙ other_superclass

  -- a class's superclass is a listed class
  superclass_among : (place : ℕ) (c : ClassForm) (s : Text) → slice_get f.classes place ≡ Some c → c.superclass ≡ Some s → is_among s (listed_names f) ≡ true
  superclass_among place c s at is = by_version (makes_classes f.version) refl
    where
      by_version : (b : Bool) → makes_classes f.version ≡ b → is_among s (listed_names f) ≡ true
      by_version true second =
          let listed = each-none (λ (k : ClassForm). is_outside (listed_names f) k.superclass ≡ false) (λ (k : ClassForm). is_outside (listed_names f) k.superclass) f.classes (λ k e. e) (second_superclass second) in
          late (listed_names f) s c.superclass is (All-at (λ (k : ClassForm). is_outside (listed_names f) k.superclass ≡ false) f.classes place c listed at)
      by_version false first =
          let names = map (λ (k : ClassForm). k.name) (take place f.classes) in
          let rest = map (λ (k : ClassForm). k.name) (drop place f.classes) in
          let all : names ++ rest ≡ listed_names f = sym (map-append (λ (k : ClassForm). k.name) (take place f.classes) (drop place f.classes)) ∙ ap (map (λ (k : ClassForm). k.name)) (take-append-drop place f.classes) in
          subst (λ ns. is_among s ns ≡ true) all (among-first s names rest (earlier [] f.classes place c s (first_superclass first) at is))

  -- and so it has a number among them
  superclass_listed : (place : ℕ) (c : ClassForm) → slice_get f.classes place ≡ Some c → IfSome (option_map (class_named (numbers_of f)) c.superclass) (λ d. d < length (spec.image_of f).classes)
  superclass_listed place c at = at_superclass c.superclass refl
    where
      at_superclass : (o : Option Text) → c.superclass ≡ o → IfSome (option_map (class_named (numbers_of f)) o) (λ d. d < length (spec.image_of f).classes)
      at_superclass None e = tt
      at_superclass (Some s) e = class_in s (ap not (superclass_among place c s at e))

  before : makes_classes f.version ≡ false → (place : ℕ) (c : ClassForm) (d : ℕ) → slice_get f.classes place ≡ Some c → option_map (class_named (numbers_of f)) c.superclass ≡ Some d → d < place
  unfolding class_named
  before first place c d at is = at_superclass c.superclass refl is
    where
      at_superclass : (o : Option Text) → c.superclass ≡ o → option_map (class_named (numbers_of f)) o ≡ Some d → d < place
      at_superclass None e h = cc
      at_superclass (Some s) e h =
          let names = map (λ (k : ClassForm). k.name) (take place f.classes) in
          let rest = map (λ (k : ClassForm). k.name) (drop place f.classes) in
          let number = known names s (earlier [] f.classes place c s (first_superclass first) at e) in
          let all : names ++ rest ≡ listed_names f = sym (map-append (λ (k : ClassForm). k.name) (take place f.classes) (drop place f.classes)) ∙ ap (map (λ (k : ClassForm). k.name)) (take-append-drop place f.classes) in
          let listed : number_of (distinct (listed_names f)) s ≡ Some number.number = ap (λ ns. number_of (distinct ns) s) (sym all) ∙ number_of-first names rest s number.number number.is in
          let here : number_of (distinct (class_names f)) s ≡ Some number.number = number_of-first (listed_names f) f.made s number.number listed in
          let named : class_named (numbers_of f) s ≡ number.number - 1 = rw here refl in
          omega (arith, same_Some (class_named (numbers_of f) s) d h, named, number.positive, number.listed, length-map (take place f.classes) (λ (k : ClassForm). k.name), length-take place f.classes)

  -- the superclasses, by their numbers
  superclasses_are : superclasses (spec.image_of f) ≡ map (λ (c : ClassForm). option_map (class_named (numbers_of f)) c.superclass) f.classes
  superclasses_are = map-map (λ (c : ClassParts). c.superclass) (spec.class (numbers_of f)) f.classes

  abbrev number : ClassForm → Option ℕ
  number c = option_map (class_named (numbers_of f)) c.superclass

  abbrev listed_as : ClassForm → Option ℕ
  listed_as c = option_map (number_among (distinct (listed_names f))) c.superclass

  no_cycle : (makes_classes f.version && has_cycle (superclasses_of f.classes)) ≡ false
  unfolding has_class_cycle
  no_cycle = g.cycle

  -- every chain of superclasses ends
  chains_end : has_cycle (superclasses (spec.image_of f)) ≡ false
  chains_end = by_version (makes_classes f.version) refl
    where
      same_number : (o : Option Text) → ((s : Text) → o ≡ Some s → is_among s (listed_names f) ≡ true) → option_map (class_named (numbers_of f)) o ≡ option_map (number_among (distinct (listed_names f))) o
      same_number None there = refl
      same_number (Some s) there = ap Some (listed_number f g s (there s refl))

      same_numbers : map number f.classes ≡ map listed_as f.classes
      same_numbers = map-same number listed_as f.classes (λ place c at. same_number c.superclass (λ s is. superclass_among place c s at is))

      cycle : makes_classes f.version ≡ true → has_cycle (superclasses_of f.classes) ≡ false
      cycle second = second_half (makes_classes f.version) (has_cycle (superclasses_of f.classes)) second no_cycle

      by_version : (b : Bool) → makes_classes f.version ≡ b → has_cycle (superclasses (spec.image_of f)) ≡ false
      by_version true second = ap has_cycle (superclasses_are ∙ same_numbers) ∙ cycle second
      by_version false first = listed-ends (superclasses (spec.image_of f)) (λ k d e.
          let there = ap (λ supers. super_of supers k) (sym superclasses_are) ∙ e in
          mapped-at number f.classes k d there (λ c at is. before first k c d at is))

  class_sound : All (IsSoundClass (spec.image_of f)) (spec.image_of f).classes
  class_sound = All-map (IsSoundClass (spec.image_of f)) (spec.class (numbers_of f)) f.classes (λ k d inside.
      let two = class_methods_listed k d inside in
      record { superclass = superclass_listed k (get_or f.classes k d) (slice_get-get_or f.classes k d inside); methods = two.0; class_methods = two.1 })

  -- ---- names that bodies and parts cite

  pub classes_cited : (list_any (is_unknown (class_names f)) (body_classes f) ≡ false) × (list_any (is_unknown (class_names f)) (other_classes f) ≡ false)
  unfolding has_unknown_class
  classes_cited = none-append (is_unknown (class_names f)) (body_classes f) (other_classes f) (neither (list_any (is_unknown (class_names f)) (body_classes f ++ other_classes f)) _ g.classes).0

  pub objects_cited : (list_any (is_unknown (object_names f)) (body_objects f) ≡ false) × (list_any (is_unknown (object_names f)) (flat_map item_objects f.items) ≡ false)
  unfolding has_unknown_object
  objects_cited = none-append (is_unknown (object_names f)) (body_objects f) (flat_map item_objects f.items) g.objects

  pub other_classes_cited : (list_any (is_unknown (class_names f)) (map (λ (o : ObjectForm). o.class) f.objects) ≡ false) × (list_any (is_unknown (class_names f)) (flat_map item_classes f.items) ≡ false)
  other_classes_cited = none-append (is_unknown (class_names f)) (map (λ (o : ObjectForm). o.class) f.objects) (flat_map item_classes f.items) classes_cited.1

  home_classes_cited : (list_any (is_unknown (listed_names f)) (map (λ (c : CategoryForm). c.class) f.categories) ≡ false) × (list_any (is_unknown (listed_names f)) (map (λ (i : ImpForm). i.class) f.imps) ≡ false)
  unfolding has_unknown_class
  home_classes_cited = none-append (is_unknown (listed_names f)) (map (λ (c : CategoryForm). c.class) f.categories) (map (λ (i : ImpForm). i.class) f.imps) (neither (list_any (is_unknown (class_names f)) (body_classes f ++ other_classes f)) _ g.classes).1

  pub counts_right : (list_any is_miscounted_send (body_sends f) ≡ false) × (list_any is_miscounted_send (flat_map item_sends f.items) ≡ false)
  unfolding has_wrong_argument_count
  counts_right = none-append is_miscounted_send (body_sends f) (flat_map item_sends f.items) (neither (list_any (is_miscounted f.imps) (method_entries f)) (list_any is_miscounted_send (body_sends f ++ flat_map item_sends f.items)) g.counts).1

  -- ---- implementations

  in_parts : (p : Text → Bool) (own : form.Constant → List Text) (es : List form.Expression) → list_any p (flat_map own (flat_map inner.own_constants es)) ≡ false → list_any (λ e. list_any p (flat_map own (inner.own_constants e))) es ≡ false
  in_parts p own es none =
      let constants = list_any-flat_map p own (flat_map inner.own_constants es) in
      let by_part = list_any-flat_map (λ c. list_any p (own c)) inner.own_constants es in
      let back : list_any (λ e. list_any p (flat_map own (inner.own_constants e))) es ≡ list_any (λ e. list_any (λ c. list_any p (own c)) (inner.own_constants e)) es = λ i. list_any (λ e. list_any-flat_map p own (inner.own_constants e) i) es in
      back ∙ sym by_part ∙ sym constants ∙ none

  body_names_classes : All (λ (i : ImpForm). list_any (names_unknown_class (class_names f)) (inner.parts i.body) ≡ false) f.imps
  body_names_classes = each-inside (λ (i : ImpForm). list_any (names_unknown_class (class_names f)) (inner.parts i.body) ≡ false) (is_unknown (class_names f)) (λ (i : ImpForm). inner.classes_in i.body) f.imps (λ i. in_parts (is_unknown (class_names f)) inner.own_class (inner.parts i.body)) classes_cited.0

  body_names_objects : All (λ (i : ImpForm). list_any (names_unknown_object (object_names f)) (inner.parts i.body) ≡ false) f.imps
  body_names_objects = each-inside (λ (i : ImpForm). list_any (names_unknown_object (object_names f)) (inner.parts i.body) ≡ false) (is_unknown (object_names f)) (λ (i : ImpForm). inner.objects_in i.body) f.imps (λ i. in_parts (is_unknown (object_names f)) inner.own_object (inner.parts i.body)) objects_cited.0

  body_counts : All (λ (i : ImpForm). list_any sends_miscounted (inner.parts i.body) ≡ false) f.imps
  body_counts = each-inside (λ (i : ImpForm). list_any sends_miscounted (inner.parts i.body) ≡ false) is_miscounted_send (λ (i : ImpForm). inner.sends_in i.body) f.imps (λ i e. sym (list_any-flat_map is_miscounted_send inner.own_sends (inner.parts i.body)) ∙ e) counts_right.0

  body_selectors : All (λ (i : ImpForm). list_any is_bad (texts_in i.body) ≡ false) f.imps
  body_selectors = each-inside (λ (i : ImpForm). list_any is_bad (texts_in i.body) ≡ false) is_bad imp_texts f.imps (λ i e. e) selectors_good.imps

  body_names : All (λ (i : ImpForm). All (HasSelector (spec.image_of f)) (selectors_in (expression (numbers_of f) i.body))) f.imps
  body_names = each-inside (λ (i : ImpForm). All (HasSelector (spec.image_of f)) (selectors_in (expression (numbers_of f) i.body))) unnamed imp_texts f.imps (λ i e.
      rw (selectors-expression (numbers_of f) i.body) (All-map (HasSelector (spec.image_of f)) (selector_named (numbers_of f)) (texts_in i.body) (each-none (λ t. HasSelector (spec.image_of f) (selector_named (numbers_of f) t)) unnamed (texts_in i.body) selector_in e))) selectors_named.imps

  body_arguments : All (λ (i : ImpForm). All (λ k. k < i.args) (arguments_in (expression (numbers_of f) i.body))) f.imps
  unfolding has_wrong_argument_index
  body_arguments = each-none (λ (i : ImpForm). All (λ k. k < i.args) (arguments_in (expression (numbers_of f) i.body))) reads_beyond f.imps (λ i. arguments_below (numbers_of f) i.args i.body) g.indices

  -- ---- super sends

  under_superclass : (i : ImpForm) → sends_above (root_names f) i ≡ false → is_among i.class (listed_names f) ≡ true → has_super_send (expression (numbers_of f) i.body) ≡ true → IsSome (superclass_in (spec.image_of f) (spec.imp (numbers_of f) i).home)
  under_superclass i none among sends = at_meta i.meta (rw (sym (super-expression (numbers_of f) i.body) ∙ sends) at none)
    where
      home : IsListedAs f g i.class (class_named (numbers_of f) i.class)
      home = listed_class f g i.class among

      in_image : slice_get (spec.image_of f).classes (class_named (numbers_of f) i.class) ≡ Some (spec.class (numbers_of f) home.class)
      in_image = slice_get-map (spec.class (numbers_of f)) f.classes (class_named (numbers_of f) i.class) ∙ ap (option_map (spec.class (numbers_of f))) home.at

      at_superclass : (m : Bool) (o : Option Text) → home.class.superclass ≡ o → (not m && is_among i.class (root_names f) && true) ≡ false → IsSome (superclass_in (spec.image_of f) (record { class = class_named (numbers_of f) i.class; meta = m }))
      at_superclass m (Some s) e h = rw (superclass_in-at (spec.image_of f) (record { class = class_named (numbers_of f) i.class; meta = m }) (spec.class (numbers_of f) home.class) (Some (class_named (numbers_of f) s)) in_image (ap (option_map (class_named (numbers_of f))) e)) refl
      at_superclass true None e h = rw (superclass_in-at (spec.image_of f) (record { class = class_named (numbers_of f) i.class; meta = true }) (spec.class (numbers_of f) home.class) None in_image (ap (option_map (class_named (numbers_of f))) e)) refl
      at_superclass false None e h =
          let root : is_among i.class (root_names f) ≡ true = ap (λ s. is_among s (root_names f)) (sym home.is) ∙ root_name f.classes (class_named (numbers_of f) i.class) home.class home.at e in
          let clash : true ≡ false = sym (ap (λ b. b && true) root) ∙ h in cc

      at_meta : (m : Bool) → (not m && is_among i.class (root_names f) && true) ≡ false → IsSome (superclass_in (spec.image_of f) (record { class = class_named (numbers_of f) i.class; meta = m }))
      at_meta m h = at_superclass m home.class.superclass refl h

  supers_stand : All (λ (i : ImpForm). has_super_send (expression (numbers_of f) i.body) ≡ true → IsSome (superclass_in (spec.image_of f) (spec.imp (numbers_of f) i).home)) f.imps
  unfolding has_unknown_superclass
  supers_stand =
      let above = each-none (λ (i : ImpForm). sends_above (root_names f) i ≡ false) (sends_above (root_names f)) f.imps (λ i e. e) (neither (has_other_superclass f) _ g.superclasses).1 in
      let home = each-mapped (λ (i : ImpForm). is_among i.class (listed_names f) ≡ true) (is_unknown (listed_names f)) (λ (i : ImpForm). i.class) f.imps (λ i. among (listed_names f) i.class) home_classes_cited.1 in
      λ k d inside. under_superclass (get_or f.imps k d) (above k d inside) (home k d inside)

  small : (b : form.Expression) → is_too_deep b ≡ false → (inner.depth b ≤ MAX_DEPTH) × (length (inner.parts b) ≤ MAX_EXPRESSIONS)
  small b e = let each = neither (nat_lt MAX_DEPTH (inner.depth b)) (nat_lt MAX_EXPRESSIONS (length (inner.parts b))) e in (few MAX_DEPTH (inner.depth b) each.0, few MAX_EXPRESSIONS (length (inner.parts b)) each.1)

  body_sizes : All (λ (i : ImpForm). (inner.depth i.body ≤ MAX_DEPTH) × (length (inner.parts i.body) ≤ MAX_EXPRESSIONS)) f.imps
  unfolding has_too_deep_body
  body_sizes = each-none (λ (i : ImpForm). (inner.depth i.body ≤ MAX_DEPTH) × (length (inner.parts i.body) ≤ MAX_EXPRESSIONS)) (λ (i : ImpForm). is_too_deep i.body) f.imps (λ i. small i.body) g.bodies

  homes : All (λ (i : ImpForm). class_named (numbers_of f) i.class < length (spec.image_of f).classes) f.imps
  homes = each-mapped (λ (i : ImpForm). class_named (numbers_of f) i.class < length (spec.image_of f).classes) (is_unknown (listed_names f)) (λ (i : ImpForm). i.class) f.imps (λ i. class_in i.class) home_classes_cited.1

  imps_sound : All (λ (i : ImpForm). i.args ≤ 4) f.imps → All (IsSoundImp (spec.image_of f)) (spec.image_of f).imps
  imps_sound args = All-map (IsSoundImp (spec.image_of f)) (spec.imp (numbers_of f)) f.imps (λ k d inside.
      let i = get_or f.imps k d in
      let good : AreGood (spec.image_of f) (numbers_of f) (class_names f) (object_names f) any_class_in object_in (inner.parts i.body) (texts_in i.body) =
      record { classes = body_names_classes k d inside; objects = body_names_objects k d inside; sends = body_counts k d inside; selectors = body_selectors k d inside } in
      let size = body_sizes k d inside in
      record {
        home = homes k d inside;
        args = args k d inside;
        body = expression_of_image (spec.image_of f) (numbers_of f) (class_names f) (object_names f) any_class_in object_in i.body good;
        selectors = body_names k d inside;
        arguments = body_arguments k d inside;
        above = supers_stand k d inside;
        count = omega (arith, count-expression (numbers_of f) i.body, size.1);
        depth = omega (arith, depth-expression (numbers_of f) i.body, size.0);
      })

  -- ---- categories and objects

  categories_sound : All (IsSoundCategory (spec.image_of f)) (spec.image_of f).categories
  categories_sound =
      let classes = each-mapped (λ (c : CategoryForm). class_named (numbers_of f) c.class < length (spec.image_of f).classes) (is_unknown (listed_names f)) (λ (c : CategoryForm). c.class) f.categories (λ c. class_in c.class) home_classes_cited.0 in
      All-map (IsSoundCategory (spec.image_of f)) (spec.category (numbers_of f)) f.categories (λ k d inside.
      let two = category_methods_listed k d inside in record { class = classes k d inside; methods = two.0; class_methods = two.1 })

  objects_sound : All (λ (o : ObjectParts). o.class < class_total (spec.image_of f)) (spec.image_of f).objects
  objects_sound =
      let classes = each-mapped (λ (o : ObjectForm). class_named (numbers_of f) o.class < class_total (spec.image_of f)) (is_unknown (class_names f)) (λ (o : ObjectForm). o.class) f.objects (λ o. any_class_in o.class) other_classes_cited.0 in
      All-map (λ (o : ObjectParts). o.class < class_total (spec.image_of f)) (spec.object (numbers_of f)) f.objects classes

  first_name : name_at (spec.image_of f).names 1 ≡ Some forwarding_text
  unfolding selector_texts distinct
  first_name = name_at-number_of (distinct (selector_texts f)) forwarding_text 1 (number_of-first (forwarding_text ∷ []) (flat_map class_texts f.classes ++ flat_map category_texts f.categories ++ flat_map imp_texts f.imps ++ flat_map item_texts f.items) forwarding_text 1 refl)

  -- ---- the whole

  limits : (has_long_list f ≡ false) × (has_many_entries f ≡ false)
  unfolding is_over_limit
  limits = neither (has_long_list f) (has_many_entries f) (neither (has_long_list f || has_many_entries f) (has_many_selectors f) g.limit).0

  pub items_few : length f.items ≤ MAX_ITEMS
  unfolding has_long_list
  items_few = few MAX_ITEMS (length f.items) (neither (nat_lt MAX_CLASSES (length f.classes + length f.made) || nat_lt MAX_CATEGORIES (length f.categories) || nat_lt MAX_OBJECTS (length f.objects) || nat_lt MAX_IMPS (length f.imps)) (nat_lt MAX_ITEMS (length f.items)) limits.0).1

  pub image_sound : All (λ (i : ImpForm). i.args ≤ 4) f.imps → IsSound (spec.image_of f)
  unfolding has_long_list has_many_entries
  image_sound args =
      let imps = neither (nat_lt MAX_CLASSES (length f.classes + length f.made) || nat_lt MAX_CATEGORIES (length f.categories) || nat_lt MAX_OBJECTS (length f.objects) || nat_lt MAX_IMPS (length f.imps)) (nat_lt MAX_ITEMS (length f.items)) limits.0 in
      let objects = neither (nat_lt MAX_CLASSES (length f.classes + length f.made) || nat_lt MAX_CATEGORIES (length f.categories) || nat_lt MAX_OBJECTS (length f.objects)) (nat_lt MAX_IMPS (length f.imps)) imps.0 in
      let categories = neither (nat_lt MAX_CLASSES (length f.classes + length f.made) || nat_lt MAX_CATEGORIES (length f.categories)) (nat_lt MAX_OBJECTS (length f.objects)) objects.0 in
      let classes = neither (nat_lt MAX_CLASSES (length f.classes + length f.made)) (nat_lt MAX_CATEGORIES (length f.categories)) categories.0 in
      record {
        forwarding = first_name;
        classes = class_sound;
        chains = chains_end;
        categories = categories_sound;
        objects = objects_sound;
        imps = imps_sound args;
        few_classes = omega (arith, few MAX_CLASSES (length f.classes + length f.made) classes.0, length-map f.classes (spec.class (numbers_of f)));
        few_categories = omega (arith, few MAX_CATEGORIES (length f.categories) classes.1, length-map f.categories (spec.category (numbers_of f)));
        few_objects = omega (arith, few MAX_OBJECTS (length f.objects) categories.1, length-map f.objects (spec.object (numbers_of f)));
        few_imps = omega (arith, few MAX_IMPS (length f.imps) objects.1, length-map f.imps (spec.imp (numbers_of f)));
        few_rows = omega (arith, rows (numbers_of f) f, few MAX_ENTRIES (length (method_entries f)) limits.1);
      }
