-- Which values have a fault, where the document's form is this one.
use Rattle.std.specs.Prelude.{◌≡◌, ℕ, zero, suc, ◌+◌, ◌||◌, List, [], ◌∷◌, length, Bool, true, false, not, nat_lt, if◌then◌else◌, Option, None, Some, option_and_then}
use Rattle.std.specs.List.{find, list_any}
use Rattle.std.specs.Str.{bytes_eq}
use Rattle.serde_json.specs.Data.{Data}
use Rattle.serde_json.specs.Find.{as_str}
use Rattle.msg_json.specs.View.{view}
use Rattle.msg_names.specs.Name.{is_selector_name}
use Rattle.msg_form.specs.ExprShape.{expression_of}
use Rattle.msg_form.specs.Faults as judge
use Rattle.msg_form.specs.Form.{PairForm, ClassForm, Form}
use Rattle.msg_form.specs.Lists.{class_lists, category_lists, change_lists, item_sends, listed_names, class_names, object_names, imp_names, root_names}
use Rattle.msg_form.specs.Parts.{own_sends}
use Rattle.msg_form.specs.Shape.{category_form_of, change_form_of, class_form_of, imp_form_of, pair_form_of, send_item_of}
use Rattle.msg_form.specs.Text.{Text, has_duplicate, is_among, is_unknown}
use Rattle.msg_form.specs.Version.{makes_classes}
use Rattle.msg_form.specs.Walk.{list_texts}
use Rattle.msg_form.specs.declared.faults.DocumentFault.{DocumentFault}
use Rattle.msg_form.specs.declared.faults.DocumentFault.TheVariants as faults
use Rattle.msg_form.specs.declared.limits.TheConstants.{MAX_CATEGORIES, MAX_CLASSES, MAX_IMPS, MAX_ITEMS, MAX_OBJECTS}
use Rattle.msg_explain.specs.Places.{IsAt}
use Rattle.msg_explain.specs.declared.part.Naming.{Naming}
use Rattle.msg_explain.specs.declared.part.Naming.TheVariants as names
use Rattle.msg_explain.specs.declared.part.Part.{Part}
use Rattle.msg_explain.specs.declared.part.Part.TheVariants as part
use Rattle.msg_explain.specs.declared.part.Wanted.{Wanted}
use Rattle.msg_explain.specs.declared.part.Wanted.TheVariants.{One, Many}
use Rattle.msg_explain.specs.declared.place.Place.{Place}

-- what is read has the property
abbrev pub holds_of : {A : Type 0} → (A → Bool) → Option A → Bool
holds_of p None = false
holds_of p (Some a) = p a

-- ---- names

-- the text stands twice among the texts
abbrev pub stands_twice : List Text → Text → Bool
stands_twice [] text = false
stands_twice (t ∷ texts) text = if bytes_eq text t then is_among text texts else stands_twice texts text

-- the names that are given, of which the fault speaks
abbrev pub names_given : DocumentFault → Form → List Text
names_given faults.DuplicateClass f = class_names f
names_given faults.DuplicateObject f = object_names f
names_given faults.DuplicateImp f = imp_names f
names_given fault f = []

-- ---- superclasses

-- the names that are listed before a class of the name
abbrev pub names_before : Text → List ClassForm → List Text
names_before name [] = []
names_before name (c ∷ cs) = if bytes_eq name c.name then [] else c.name ∷ names_before name cs

-- the class's `super` isn't listed, or in version 1 not before it
abbrev pub has_other_superclass : Form → ClassForm → Bool
has_other_superclass f c =
    if makes_classes f.version then judge.is_outside (listed_names f) c.superclass
    else judge.is_outside (names_before c.name f.classes) c.superclass

-- the `super` of the first class of a name
abbrev pub superclass_named : List ClassForm → Text → Option Text
superclass_named cs name =
    option_and_then (λ (c : ClassForm). c.superclass) (find (λ (c : ClassForm). bytes_eq name c.name) cs)

-- the name is met on the way up from another, within so many classes
abbrev pub is_met : ℕ → List ClassForm → Text → Option Text → Bool
is_met zero cs name above = false
is_met (suc n) cs name None = false
is_met (suc n) cs name (Some above) = bytes_eq name above || is_met n cs name (superclass_named cs above)

-- the class stands above itself
abbrev pub is_above_itself : List ClassForm → ClassForm → Bool
is_above_itself cs c = is_met (length cs) cs c.name c.superclass

-- ---- lists of pairs

-- one of the lists has a selector twice
abbrev pub any_repeats : List (List PairForm) → Bool
any_repeats ls = list_any (λ l. has_duplicate (list_texts l)) ls

-- ---- for each fault the values that have it

abbrev pub has_version : Form → Part → Bool
has_version f part.Version = judge.is_other_version f
has_version f p = false

-- a list that is too long
abbrev pub is_long_list : Form → Part → Bool
is_long_list f part.Class = nat_lt MAX_CLASSES (length f.classes + length f.made)
is_long_list f part.Category = nat_lt MAX_CATEGORIES (length f.categories)
is_long_list f part.Object = nat_lt MAX_OBJECTS (length f.objects)
is_long_list f part.Imp = nat_lt MAX_IMPS (length f.imps)
is_long_list f (part.Item e) = nat_lt MAX_ITEMS (length f.items)
is_long_list f p = false

-- the document, where no list is too long: its entries or its selectors are too many
abbrev pub is_full : Form → Part → Bool
is_full f (part.Document e) = judge.has_many_entries f || judge.has_many_selectors f
is_full f p = false

-- a name that is given twice, or is none of those that may stand there
abbrev pub is_wrong_name : Form → DocumentFault → Naming → Text → Bool
is_wrong_name f faults.DuplicateClass names.NewClass name = stands_twice (class_names f) name
is_wrong_name f faults.DuplicateObject names.NewObject name = stands_twice (object_names f) name
is_wrong_name f faults.DuplicateImp names.NewImp name = stands_twice (imp_names f) name
is_wrong_name f faults.UnknownClass names.Listed name = is_unknown (listed_names f) name
is_wrong_name f faults.UnknownClass names.Class name = is_unknown (class_names f) name
is_wrong_name f faults.UnknownObject names.Object name = is_unknown (object_names f) name
is_wrong_name f faults.UnknownImp names.Imp name = is_unknown (imp_names f) name
is_wrong_name f fault n name = false

-- a text by what it names
abbrev pub has_wrong_name : Form → DocumentFault → Part → Data → Bool
has_wrong_name f fault (part.Name n) d = holds_of (is_wrong_name f fault n) (as_str d)
has_wrong_name f fault part.MadeUnder d = holds_of (is_wrong_name f fault names.Class) (as_str d)
has_wrong_name f fault p d = false

-- a class whose superclass is wrong, or an implementation of a root class that sends to super
abbrev pub has_no_superclass : Form → Part → Data → Bool
has_no_superclass f part.Class d = holds_of (has_other_superclass f) (class_form_of d)
has_no_superclass f part.Imp d = holds_of (judge.sends_above (root_names f)) (imp_form_of d)
has_no_superclass f p d = false

-- lists of pairs that have a selector twice
abbrev pub repeats_selector : Part → Data → Bool
repeats_selector part.Class d = holds_of (λ c. any_repeats (class_lists c)) (class_form_of d)
repeats_selector part.Category d = holds_of (λ c. any_repeats (category_lists c)) (category_form_of d)
repeats_selector (part.Changes e) d = holds_of (λ c. any_repeats (change_lists c)) (change_form_of d)
repeats_selector part.Change d = holds_of (λ c. any_repeats (change_lists c)) (change_form_of d)
repeats_selector p d = false

-- the list behind `send` doesn't fit its selector's colons
abbrev pub send_has_other_count : Data → Bool
send_has_other_count d = holds_of (λ i. list_any judge.is_miscounted_send (item_sends i)) (send_item_of d)

-- a pair or a send that doesn't fit its selector's colons
abbrev pub has_other_count : Form → Part → Data → Bool
has_other_count f part.Pair d = holds_of (judge.is_miscounted f.imps) (pair_form_of d)
has_other_count f part.Send d = send_has_other_count d
has_other_count f part.Body d = holds_of (λ e. list_any judge.is_miscounted_send (own_sends e)) (expression_of d)
has_other_count f p d = false

abbrev pub is_bad_selector : Part → Data → Bool
is_bad_selector part.Selector d = holds_of (λ t. not (is_selector_name t)) (as_str d)
is_bad_selector p d = false

-- an implementation that reads an argument that isn't given
abbrev pub reads_beyond : Part → Data → Bool
reads_beyond part.Imp d = holds_of judge.reads_beyond (imp_form_of d)
reads_beyond p d = false

-- an implementation whose body is too deep or too large
abbrev pub is_too_deep : Part → Data → Bool
is_too_deep part.Imp d = holds_of (λ i. judge.is_too_deep i.body) (imp_form_of d)
is_too_deep p d = false

abbrev pub is_in_cycle : Form → Part → Data → Bool
is_in_cycle f part.Class d = holds_of (is_above_itself f.classes) (class_form_of d)
is_in_cycle f p d = false

-- a part's value has the fault
abbrev pub part_has : Form → DocumentFault → Part → Data → Bool
part_has f faults.Version p d = has_version f p
part_has f faults.Limit p d = is_full f p
part_has f faults.UnknownSuperclass p d = has_no_superclass f p d
part_has f faults.BadSelector p d = is_bad_selector p d
part_has f faults.DuplicateSelector p d = repeats_selector p d
part_has f faults.ArgumentCount p d = has_other_count f p d
part_has f faults.ArgumentIndex p d = reads_beyond p d
part_has f faults.BodyTooDeep p d = is_too_deep p d
part_has f faults.ClassCycle p d = is_in_cycle f p d
part_has f fault p d = has_wrong_name f fault p d

-- a list has the fault
abbrev pub list_has : Form → DocumentFault → Part → Bool
list_has f faults.Limit p = is_long_list f p
list_has f fault p = false

-- the value that is wanted there has the fault
abbrev pub has_fault : Form → DocumentFault → Wanted → Data → Bool
has_fault f fault (One p) d = part_has f fault p d
has_fault f fault (Many p) d = list_has f fault p

-- The value at a place has the fault.
pub record HasFaultAt (f : Form) (fault : DocumentFault) (w : Wanted) (d : Data) (p : Place) : Type 0 where
  pub there : IsAt w d p.path.items p.wanted (view p.found)
  pub faulty : has_fault f fault p.wanted (view p.found) ≡ true
