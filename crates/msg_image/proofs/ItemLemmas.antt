-- The items of a form without fault are sound.
use Rattle.std.proofs.Common.{◌≡◌, ◌<◌, Option, None, ℕ, List, [], ◌∷◌, length, map, take, false, ◌||◌, Some, option_map, get_or, refl, sym, ap, ◌∙◌, subst, arith}
use Rattle.std.specs.Prelude.{All, IfSome}
use Rattle.std.specs.List.{list_any, flat_map}
use Rattle.std.proofs.lemmas.List.{length-map, take_all}
use Rattle.std.proofs.lemmas.List.Elements.{All-map}
use Rattle.std.proofs.lemmas.List.Folds.{list_any-append}
use Rattle.msg_names.specs.Name.{colons_of}
use Rattle.msg_names.specs.Number.{selector_number, selector_of}
use Rattle.msg_names.specs.Numbering.{name_at}
use Rattle.msg_names.proofs.NumberLemmas.{name_at-number_of}
use Rattle.msg_form.specs.Expression as form
use Rattle.msg_form.specs.Faults.{is_miscounted_send}
use Rattle.msg_form.specs.Form.{PairForm, Form, MethodForm, ItemForm, send_item, change_item, change_all_item, ChangeForm, add, replace, set_imp, exchange, attach, make, remove, dispose}
use Rattle.msg_form.specs.Lists.{class_names, object_names, imp_names, at_most_one, change_classes, change_imps, change_lists, item_classes, item_objects, item_sends, item_imps, item_lists}
use Rattle.msg_form.specs.Parts as inner
use Rattle.msg_form.specs.Text.{Text, is_unknown, distinct}
use Rattle.msg_form.specs.Walk.{selector_texts, change_texts, item_texts}
use Rattle.msg_image.specs.Contents.{own_selector}
use Rattle.msg_image.specs.Document as spec
use Rattle.msg_image.specs.Numbers.{numbers_of, selector_named, class_named, imp_named}
use Rattle.msg_image.specs.Parts.{class_total}
use Rattle.msg_image.specs.Sound.{HasClass, HasSelector, HasImp, IsOf, IsSoundItem, IsSoundChange, Takes}
use Rattle.msg_image.proofs.ContentsLemmas.{own_selectors}
use Rattle.msg_image.proofs.ExpressionLemmas.{is_bad, few_arguments, same_count, constant_of_image}
use Rattle.msg_image.proofs.FaultlessLemmas.{IsFaultless}
use Rattle.msg_image.proofs.KnownLemmas.{known, among}
use Rattle.msg_image.proofs.NoneLemmas.{neither, none-append, each-none, each-inside}
use Rattle.msg_image.proofs.SoundLemmas.{selector_of-number, any_class_in, object_in, imp_in, selector_in, unlisted, unnamed, two_listed, imps_cited_by_items, other_classes_cited, objects_cited, selectors_good, selectors_named, counts_right}

module _ (f : Form) (g : IsFaultless f) where
  takes : (s : Text) (n : ℕ) → is_unknown (selector_texts f) s ≡ false → n ≡ colons_of s → Takes (spec.image_of f) (selector_named (numbers_of f) s) n
  unfolding selector_named
  takes s n present counted =
      let number = known (selector_texts f) s (among (selector_texts f) s present) in
      let named : selector_named (numbers_of f) s ≡ selector_of number.number = rw number.is refl in
      let is : selector_number (selector_named (numbers_of f) s) ≡ number.number = ap selector_number named ∙ selector_of-number number.number number.positive in
      let text : name_at (distinct (selector_texts f)) (selector_number (selector_named (numbers_of f) s)) ≡ Some s = ap (name_at (distinct (selector_texts f))) is ∙ name_at-number_of (distinct (selector_texts f)) s number.number number.is in
      ap (option_map colons_of) text ∙ ap Some (sym counted)

  of_image : (c : form.Constant) → list_any (is_unknown (class_names f)) (inner.own_class c) ≡ false → list_any (is_unknown (object_names f)) (inner.own_object c) ≡ false → IsOf (spec.image_of f) (spec.constant (numbers_of f) c)
  of_image = constant_of_image (spec.image_of f) (numbers_of f) (class_names f) (object_names f) (any_class_in f g) (object_in f g)

  -- what a change doesn't have
  record IsGoodChange (c : ChangeForm) : Type 0 where
    pub classes : list_any (is_unknown (class_names f)) (change_classes c) ≡ false
    pub imps : list_any (is_unknown (imp_names f)) (change_imps c) ≡ false
    pub lists : list_any (λ (l : List PairForm). list_any (unlisted f g) l) (change_lists c) ≡ false
    pub names : list_any (unnamed f g) (change_texts c) ≡ false

  -- what an item doesn't have
  record IsGood (x : ItemForm) : Type 0 where
    pub classes : list_any (is_unknown (class_names f)) (item_classes x) ≡ false
    pub objects : list_any (is_unknown (object_names f)) (item_objects x) ≡ false
    pub imps : list_any (is_unknown (imp_names f)) (item_imps x) ≡ false
    pub lists : list_any (λ (l : List PairForm). list_any (unlisted f g) l) (item_lists x) ≡ false
    pub sends : list_any is_miscounted_send (item_sends x) ≡ false
    pub selectors : list_any is_bad (item_texts x) ≡ false
    pub names : list_any (unnamed f g) (item_texts x) ≡ false

  send_sound : (r : form.Constant) (s : Text) (args : List form.Constant) → IsGood (send_item r s args) → IsSoundItem (spec.image_of f) (spec.item (numbers_of f) (send_item r s args))
  send_sound r s args good =
      let class = none-append (is_unknown (class_names f)) (inner.own_class r) (flat_map inner.own_class args) good.classes in
      let object = none-append (is_unknown (object_names f)) (inner.own_object r) (flat_map inner.own_object args) good.objects in
      let own = neither (is_bad s) _ (none-append is_bad (inner.own_selector r) (s ∷ flat_map inner.own_selector args) good.selectors).1 in
      let few = few_arguments (length args) s good.sends own.0 in
      let whole : take 4 args ≡ args = take_all 4 args few in
      let in_classes = each-inside (λ c. list_any (is_unknown (class_names f)) (inner.own_class c) ≡ false) (is_unknown (class_names f)) inner.own_class args (λ c e. e) class.1 in
      let in_objects = each-inside (λ c. list_any (is_unknown (object_names f)) (inner.own_object c) ≡ false) (is_unknown (object_names f)) inner.own_object args (λ c e. e) object.1 in
      let arguments : All (IsOf (spec.image_of f)) (map (spec.constant (numbers_of f)) args) = All-map (IsOf (spec.image_of f)) (spec.constant (numbers_of f)) args (λ k d inside. of_image (get_or args k d) (in_classes k d inside) (in_objects k d inside)) in
      let count : length (map (spec.constant (numbers_of f)) (take 4 args)) ≡ colons_of s = length-map (take 4 args) (spec.constant (numbers_of f)) ∙ ap length whole ∙ same_count (length args) s (neither (is_miscounted_send (s, length args)) false good.sends).0 in
      let at_receiver = none-append (unnamed f g) (inner.own_selector r) (s ∷ flat_map inner.own_selector args) good.names in
      let at_arguments = neither (unnamed f g s) (list_any (unnamed f g) (flat_map inner.own_selector args)) at_receiver.1 in
      let constants : list_any (unnamed f g) (flat_map inner.own_selector (r ∷ args)) ≡ false = list_any-append (unnamed f g) (inner.own_selector r) (flat_map inner.own_selector args) ∙ (λ i. at_receiver.0 i || at_arguments.1 i) in
      let named : All (HasSelector (spec.image_of f)) (flat_map own_selector (map (spec.constant (numbers_of f)) (r ∷ args))) =
      rw (own_selectors (numbers_of f) (r ∷ args)) (All-map (HasSelector (spec.image_of f)) (selector_named (numbers_of f)) (flat_map inner.own_selector (r ∷ args)) (each-none (λ t. HasSelector (spec.image_of f) (selector_named (numbers_of f) t)) (unnamed f g) (flat_map inner.own_selector (r ∷ args)) (selector_in f g) constants)) in (
        of_image r class.0 object.0,
        subst (λ cs. All (IsOf (spec.image_of f)) (map (spec.constant (numbers_of f)) cs)) (sym whole) arguments,
        takes s (length (map (spec.constant (numbers_of f)) (take 4 args))) at_arguments.0 count,
        subst (λ cs. All (HasSelector (spec.image_of f)) (flat_map own_selector (spec.constant (numbers_of f) r ∷ map (spec.constant (numbers_of f)) cs))) (sym whole) named,
      )

  -- the method that a change names, and its implementation
  one_method : (m : MethodForm) (i : Text) → list_any (is_unknown (class_names f)) (m.class ∷ []) ≡ false → list_any (unnamed f g) (m.selector ∷ []) ≡ false → list_any (is_unknown (imp_names f)) (i ∷ []) ≡ false
      → HasClass (spec.image_of f) (spec.class_ref (numbers_of f) m) × HasSelector (spec.image_of f) (selector_named (numbers_of f) m.selector) × HasImp (spec.image_of f) (imp_named (numbers_of f) i)
  one_method m i class selector imp =
      (any_class_in f g m.class (neither (is_unknown (class_names f) m.class) false class).0, selector_in f g m.selector (neither (unnamed f g m.selector) false selector).0, imp_in f g (record { selector = m.selector; imp = i }) (neither (is_unknown (imp_names f) i) false imp).0)

  change_sound : (c : ChangeForm) → IsGoodChange c → IsSoundChange (spec.image_of f) (spec.change (numbers_of f) c)
  change_sound (add m i) good = one_method m i good.classes good.names good.imps
  change_sound (replace m i) good = one_method m i good.classes good.names good.imps
  change_sound (set_imp m i) good = one_method m i good.classes good.names good.imps
  change_sound (exchange m o) good =
      let classes = neither (is_unknown (class_names f) m.class) (is_unknown (class_names f) o.class || false) good.classes in
      let names = neither (unnamed f g m.selector) (unnamed f g o.selector || false) good.names in
      (any_class_in f g m.class classes.0, selector_in f g m.selector names.0, any_class_in f g o.class (neither (is_unknown (class_names f) o.class) false classes.1).0, selector_in f g o.selector (neither (unnamed f g o.selector) false names.1).0)
  change_sound (attach c ms cs) good = let two = two_listed f g ms cs good.lists good.names in (any_class_in f g c (neither (is_unknown (class_names f) c) false good.classes).0, two.0, two.1)
  change_sound (remove m) good = (any_class_in f g m.class (neither (is_unknown (class_names f) m.class) false good.classes).0, selector_in f g m.selector (neither (unnamed f g m.selector) false good.names).0)
  change_sound (dispose c) good = any_class_in f g c (neither (is_unknown (class_names f) c) false good.classes).0
  change_sound (make c s) good =
      let both = neither (is_unknown (class_names f) c) (list_any (is_unknown (class_names f)) (at_most_one s)) good.classes in
      (any_class_in f g c both.0, at_superclass s both.1)
    where
      at_superclass : (o : Option Text) → list_any (is_unknown (class_names f)) (at_most_one o) ≡ false → IfSome (option_map (class_named (numbers_of f)) o) (λ d. d < class_total (spec.image_of f))
      at_superclass None e = tt
      at_superclass (Some name) e = any_class_in f g name (neither (is_unknown (class_names f) name) false e).0

  -- changes none of which has what an item doesn't have
  changes_sound : (cs : List ChangeForm) → list_any (is_unknown (class_names f)) (flat_map change_classes cs) ≡ false → list_any (is_unknown (imp_names f)) (flat_map change_imps cs) ≡ false
      → list_any (λ (l : List PairForm). list_any (unlisted f g) l) (flat_map change_lists cs) ≡ false → list_any (unnamed f g) (flat_map change_texts cs) ≡ false → All (IsSoundChange (spec.image_of f)) (map (spec.change (numbers_of f)) cs)
  changes_sound cs in_classes in_imps in_lists in_names =
      let classes = each-inside (λ (c : ChangeForm). list_any (is_unknown (class_names f)) (change_classes c) ≡ false) (is_unknown (class_names f)) change_classes cs (λ c e. e) in_classes in
      let imps = each-inside (λ (c : ChangeForm). list_any (is_unknown (imp_names f)) (change_imps c) ≡ false) (is_unknown (imp_names f)) change_imps cs (λ c e. e) in_imps in
      let lists = each-inside (λ (c : ChangeForm). list_any (λ (l : List PairForm). list_any (unlisted f g) l) (change_lists c) ≡ false) (λ (l : List PairForm). list_any (unlisted f g) l) change_lists cs (λ c e. e) in_lists in
      let names = each-inside (λ (c : ChangeForm). list_any (unnamed f g) (change_texts c) ≡ false) (unnamed f g) change_texts cs (λ c e. e) in_names in
      All-map (IsSoundChange (spec.image_of f)) (spec.change (numbers_of f)) cs (λ k d inside. change_sound (get_or cs k d) (record { classes = classes k d inside; imps = imps k d inside; lists = lists k d inside; names = names k d inside }))

  item_sound : (x : ItemForm) → IsGood x → IsSoundItem (spec.image_of f) (spec.item (numbers_of f) x)
  item_sound (send_item r s args) good = send_sound r s args good
  item_sound (change_item c) good = changes_sound (c ∷ []) good.classes good.imps good.lists good.names 0 (spec.change (numbers_of f) c) (omega arith)
  item_sound (change_all_item cs) good = changes_sound cs good.classes good.imps good.lists good.names

  pub items_sound : All (IsSoundItem (spec.image_of f)) (map (spec.item (numbers_of f)) f.items)
  items_sound =
      let classes = each-inside (λ (x : ItemForm). list_any (is_unknown (class_names f)) (item_classes x) ≡ false) (is_unknown (class_names f)) item_classes f.items (λ x e. e) (other_classes_cited f g).1 in
      let objects = each-inside (λ (x : ItemForm). list_any (is_unknown (object_names f)) (item_objects x) ≡ false) (is_unknown (object_names f)) item_objects f.items (λ x e. e) (objects_cited f g).1 in
      let imps = each-inside (λ (x : ItemForm). list_any (is_unknown (imp_names f)) (item_imps x) ≡ false) (is_unknown (imp_names f)) item_imps f.items (λ x e. e) (imps_cited_by_items f g).1 in
      let lists = each-inside (λ (x : ItemForm). list_any (λ (l : List PairForm). list_any (unlisted f g) l) (item_lists x) ≡ false) (λ (l : List PairForm). list_any (unlisted f g) l) item_lists f.items (λ x e. e) (imps_cited_by_items f g).0 in
      let sends = each-inside (λ (x : ItemForm). list_any is_miscounted_send (item_sends x) ≡ false) is_miscounted_send item_sends f.items (λ x e. e) (counts_right f g).1 in
      let selectors = each-inside (λ (x : ItemForm). list_any is_bad (item_texts x) ≡ false) is_bad item_texts f.items (λ x e. e) (selectors_good f g).items in
      let names = each-inside (λ (x : ItemForm). list_any (unnamed f g) (item_texts x) ≡ false) (unnamed f g) item_texts f.items (λ x e. e) (selectors_named f g).items in
      All-map (IsSoundItem (spec.image_of f)) (spec.item (numbers_of f)) f.items (λ k d inside. item_sound (get_or f.items k d) (record {
        classes = classes k d inside;
        objects = objects k d inside;
        imps = imps k d inside;
        lists = lists k d inside;
        sends = sends k d inside;
        selectors = selectors k d inside;
        names = names k d inside;
      }))
