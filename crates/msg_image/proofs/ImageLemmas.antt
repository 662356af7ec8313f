-- The image that was made from a form.
use Rattle.std.proofs.Common.{◌≡◌, ◌≤◌, ◌*◌, ◌++◌, ℕ, List, [], ◌∷◌, drop, map, get_or, None, Some, refl, sym, ap, ◌∙◌, subst, length, arith}
use Rattle.std.specs.Prelude.{All}
use Rattle.std.proofs.lemmas.List.{length-map}
use Rattle.std.proofs.lemmas.List.Elements.{All-map}
use Rattle.std.proofs.lemmas.Simd.{map-map}
use Rattle.msg_form.specs.declared.limits.TheConstants.{MAX_ITEMS}
use Rattle.msg_form.specs.declared.form.Form.{Form}
use Rattle.msg_form.specs.declared.form.Imp.{Imp}
use Rattle.msg_form.specs.declared.form.Item.{Item as ItemForm}
use Rattle.msg_form.specs.Faults.{fault_of, is_over_limit}
use Rattle.msg_form.specs.Form as plain
use Rattle.msg_form.specs.Form.{ClassForm, ImpForm}
use Rattle.msg_form.specs.FormNames.{AreNamesOf}
use Rattle.msg_form.specs.Text.{Text, distinct, texts_view}
use Rattle.msg_form.specs.Walk.{selector_texts}
use Rattle.msg_form.specs.declared.form_names.FormNames.{FormNames}
use Rattle.msg_form.proofs.LimitLemmas.{all_selectors}
use Rattle.msg_form.proofs.TextLemmas.{distinct-distinct}
use Rattle.msg_form.specs.Views.{class_view, category_view, object_view, imp_view, item_view, form_view}
use Rattle.msg_image.specs.Document as spec
use Rattle.msg_image.specs.Numbers.{Numbers, numbers_of, numbers_by}
use Rattle.msg_image.specs.Opened.{counts_of, origin_of}
use Rattle.msg_image.specs.declared.opened.TheConstants.{MAX_ROWS, MAX_CHANGES, MAX_SENDERS, MAX_WORDS}
use Rattle.msg_image.specs.Plain.{named_classes, item_parts}
use Rattle.msg_names.specs.Name.{colons_of}
use Rattle.msg_tables.specs.Attached.{listed_lists, category_lists, categories_in}
use Rattle.msg_tables.specs.Origin.{CountsView, OriginView}
use Rattle.msg_tables.specs.declared.limits.Limits.{Limits}
use Rattle.msg_tables.specs.declared.origin.ListedClass.{ListedClass}
use Rattle.msg_image.proofs.KeptLemmas.{listed_part, lists-listed, supers-listed, classes-back, categories-back}
use Rattle.msg_image.specs.Sound.{IsSound, IsSoundItem}
use Rattle.msg_image.specs.Items.{ItemParts}
use Rattle.msg_image.specs.Parts.{ImageParts, ClassParts, ObjectParts, ImpParts}
use Rattle.msg_image.specs.declared.change.Item.{Item}
use Rattle.msg_image.proofs.ItemLemmas.{items_sound}
use Rattle.msg_tables.specs.declared.origin.Category.{Category}
use Rattle.msg_image.proofs.FaultlessLemmas.{faultless}
use Rattle.msg_image.proofs.SoundLemmas.{image_sound, items_few}

-- by the names of a form without fault its parts have their numbers
pub numbers_are : (f : plain.Form) (names : FormNames) → fault_of f ≡ None → AreNamesOf names f → numbers_by names ≡ numbers_of f
numbers_are f names no_fault are = λ j. record {
  selectors = all_selectors f names.selectors (is_over_limit f) are.selectors refl (faultless f no_fault).limit j;
  classes = are.classes j;
  objects = are.objects j;
  imps = are.imps j;
}

-- what was resolved of the forms
pub resolved : {A B C D : Type 0} (parts : B → C) (view : A → D) (meaning : D → C) (found : List B) (forms all : List A) → forms ≡ all → map parts found ≡ map (λ a. meaning (view a)) forms → map parts found ≡ map (λ a. meaning (view a)) all
resolved parts view meaning found forms all same is = is ∙ ap (map (λ a. meaning (view a))) same

same_map : {A : Type 0} (xs : List A) → map (λ x. x) xs ≡ xs
same_map [] = refl
same_map (x ∷ xs) = ap (λ ys. x ∷ ys) (same_map xs)

-- what is its own parts
pub resolved_own : {A B D : Type 0} (view : A → D) (meaning : D → B) (found : List B) (forms all : List A) → forms ≡ all → map (λ b. b) found ≡ map (λ a. meaning (view a)) forms → found ≡ map (λ a. meaning (view a)) all
resolved_own view meaning found forms all same is = sym (same_map found) ∙ is ∙ ap (map (λ a. meaning (view a))) same

-- what an image is made of
pub record Pieces : Type 0 where
  pub selectors : List Text
  pub names : List Text
  pub listed : List ListedClass
  pub may : List Text
  pub categories : List Category
  pub objects : List ObjectParts
  pub imps : List ImpParts

-- those of an image
abbrev pub pieces_of : ImageParts → Pieces
pieces_of image = record {
  selectors = image.names;
  names = map (λ (c : ClassParts). c.name) image.classes;
  listed = map listed_part image.classes;
  may = image.made;
  categories = image.categories;
  objects = image.objects;
  imps = image.imps;
}

-- what tables are opened of
abbrev pub opened : Pieces → OriginView
opened p = record {
  superclasses = map (λ (c : ListedClass). c.superclass) p.listed;
  made = length p.may;
  lists = listed_lists 0 p.listed ++ category_lists p.categories;
  counts = Some (record { colons = map colons_of p.selectors; args = map (λ (m : ImpParts). m.args) p.imps });
  limits = record { rows = MAX_ROWS; changes = MAX_CHANGES; senders = MAX_SENDERS; words = MAX_WORDS };
}

-- and what is seen
abbrev pub shown : Pieces → OriginView → ImageParts
shown p o = record {
  names = p.selectors;
  classes = named_classes p.names o.superclasses o.lists;
  made = p.may;
  categories = categories_in (drop (2 * length o.superclasses) o.lists);
  objects = p.objects;
  imps = p.imps;
}

-- the pieces of an image that were resolved by a form's names, each from the form's list
pub record AreParts (by : FormNames) (f : Form) (p : Pieces) : Type 0 where
  pub selectors : p.selectors ≡ distinct by.selectors
  pub names : p.names ≡ map (λ c. (class_view c).name) f.classes.items
  pub listed : p.listed ≡ map (λ c. spec.listed (numbers_by by) (class_view c)) f.classes.items
  pub may : p.may ≡ texts_view f.made.items
  pub categories : p.categories ≡ map (λ c. spec.category (numbers_by by) (category_view c)) f.categories.items
  pub objects : p.objects ≡ map (λ o. spec.object (numbers_by by) (object_view o)) f.objects.items
  pub imps : p.imps ≡ map (λ i. spec.imp (numbers_by by) (imp_view i)) f.imps.items

names_of : (n : Numbers) (cs : List ClassForm) → map (λ (c : ClassForm). c.name) cs ≡ map (λ (c : ClassParts). c.name) (map (spec.class n) cs)
names_of n [] = refl
names_of n (c ∷ cs) = ap (λ names. c.name ∷ names) (names_of n cs)

listed_of : (n : Numbers) (cs : List ClassForm) → map (spec.listed n) cs ≡ map listed_part (map (spec.class n) cs)
listed_of n [] = refl
listed_of n (c ∷ cs) = ap (λ ks. spec.listed n c ∷ ks) (listed_of n cs)

-- of a form without fault they are the image's
pub made : (names : FormNames) (f : Form) (p : Pieces) → fault_of (form_view f) ≡ None → AreNamesOf names (form_view f) → AreParts names f p → p ≡ pieces_of (spec.image_of (form_view f))
made names f p no_fault are parts =
    let same : numbers_by names ≡ numbers_of (form_view f) = numbers_are (form_view f) names no_fault are in
    λ j. record {
      selectors = (parts.selectors ∙ ap (λ (m : Numbers). distinct m.selectors) same ∙ distinct-distinct (selector_texts (form_view f))) j;
      names = (parts.names ∙ sym (map-map (λ (c : ClassForm). c.name) class_view f.classes.items) ∙ names_of (numbers_of (form_view f)) (form_view f).classes) j;
      listed = (parts.listed ∙ sym (map-map (spec.listed (numbers_by names)) class_view f.classes.items) ∙ ap (λ m. map (spec.listed m) (form_view f).classes) same ∙ listed_of (numbers_of (form_view f)) (form_view f).classes) j;
      may = parts.may j;
      categories = (parts.categories ∙ sym (map-map (spec.category (numbers_by names)) category_view f.categories.items) ∙ ap (λ m. map (spec.category m) (form_view f).categories) same) j;
      objects = (parts.objects ∙ sym (map-map (spec.object (numbers_by names)) object_view f.objects.items) ∙ ap (λ m. map (spec.object m) (form_view f).objects) same) j;
      imps = (parts.imps ∙ sym (map-map (spec.imp (numbers_by names)) imp_view f.imps.items) ∙ ap (λ m. map (spec.imp m) (form_view f).imps) same) j;
    }

pub opened-is : (p : Pieces) (made : ℕ) (counts : CountsView) (limits : Limits) → made ≡ length p.may → counts.colons ≡ map colons_of p.selectors → counts.args ≡ map (λ (m : ImpParts). m.args) p.imps
    → limits ≡ record { rows = MAX_ROWS; changes = MAX_CHANGES; senders = MAX_SENDERS; words = MAX_WORDS }
    → record { superclasses = map (λ (c : ListedClass). c.superclass) p.listed; made = made; lists = listed_lists 0 p.listed ++ category_lists p.categories; counts = Some counts; limits = limits } ≡ opened p
opened-is p made counts limits may colons args same = λ j. record {
  superclasses = map (λ (c : ListedClass). c.superclass) p.listed;
  made = may j;
  lists = listed_lists 0 p.listed ++ category_lists p.categories;
  counts = Some (record { colons = colons j; args = args j });
  limits = same j;
}

-- so what tables are opened of is the image's
pub opened-image : (image : ImageParts) (p : Pieces) → p ≡ pieces_of image → opened p ≡ origin_of image
opened-image image p is = ap opened is ∙ (λ j. record {
  superclasses = supers-listed image.classes j;
  made = length image.made;
  lists = lists-listed 0 image.classes j ++ category_lists image.categories;
  counts = Some (counts_of image);
  limits = record { rows = MAX_ROWS; changes = MAX_CHANGES; senders = MAX_SENDERS; words = MAX_WORDS };
})

-- and what is seen is the image
pub shown-image : (image : ImageParts) (p : Pieces) (o : OriginView) → p ≡ pieces_of image → o ≡ origin_of image → shown p o ≡ image
shown-image image p o is from = ap (λ q. shown q o) is ∙ ap (shown (pieces_of image)) from ∙ (λ j. record {
  names = image.names;
  classes = classes-back 0 image.classes (category_lists image.categories) j;
  made = image.made;
  categories = categories-back image.classes image.categories j;
  objects = image.objects;
  imps = image.imps;
})

-- ---- the whole document

pub items_are : (n : Numbers) (f : Form) (found : List Item) (forms : List ItemForm) → n ≡ numbers_of (form_view f) → forms ≡ f.items.items → map item_parts found ≡ map (λ i. spec.item n (item_view i)) forms → map item_parts found ≡ map (spec.item (numbers_of (form_view f))) (form_view f).items
items_are n f found forms numbers same is = resolved item_parts item_view (spec.item n) found forms f.items.items same is ∙ sym (map-map (spec.item n) item_view f.items.items) ∙ ap (λ m. map (spec.item m) (form_view f).items) numbers

pub document_is : (f : Form) (image : ImageParts) (items : List ItemParts) → image ≡ spec.image_of (form_view f) → items ≡ map (spec.item (numbers_of (form_view f))) (form_view f).items → record { image = image; items = items } ≡ spec.document_of (form_view f)
unfolding spec.document_of
document_is f image items is are = λ j. record { image = is j; items = are j }

pub sound_items : (f : Form) (image : ImageParts) (items : List ItemParts) → fault_of (form_view f) ≡ None → image ≡ spec.image_of (form_view f) → items ≡ map (spec.item (numbers_of (form_view f))) (form_view f).items → All (IsSoundItem image) items
sound_items f image items no_fault is are = subst (λ i. All (IsSoundItem i) items) (sym is) (subst (All (IsSoundItem (spec.image_of (form_view f)))) (sym are) (items_sound (form_view f) (faultless (form_view f) no_fault)))

pub few_items : (f : Form) (found : List Item) (forms : List ItemForm) (n : Numbers) → fault_of (form_view f) ≡ None → forms ≡ f.items.items → map item_parts found ≡ map (λ i. spec.item n (item_view i)) forms → length found ≤ MAX_ITEMS
few_items f found forms n no_fault same is =
    omega (arith, items_few (form_view f) (faultless (form_view f) no_fault), ap length is, ap length same, length-map found item_parts, length-map forms (λ i. spec.item n (item_view i)), length-map f.items.items item_view)

few_args : (is : List Imp) → All (λ (i : ImpForm). i.args ≤ 4) (map imp_view is)
few_args is = All-map (λ (i : ImpForm). i.args ≤ 4) imp_view is (λ k d inside. (get_or is k d).few_args)

-- the image of a form without fault is sound
pub sound : (f : Form) → fault_of (form_view f) ≡ None → IsSound (spec.image_of (form_view f))
sound f no_fault = image_sound (form_view f) (faultless (form_view f) no_fault) (few_args f.imps.items)
