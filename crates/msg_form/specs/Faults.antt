-- What is wrong with a form: a condition for each fault, and the least fault.
use Rattle.std.specs.Prelude.{ℕ, ◌+◌, ◌==◌, ◌&&◌, ◌||◌, not, pos, List, [], ◌∷◌, ◌++◌, length, map, Bool, false, nat_le, nat_lt, if◌then◌else◌, Option, None, Some, option_map}
use Rattle.std.specs.List.{find, list_any}
use Rattle.std.specs.Ordering.{int_eq}
use Rattle.std.specs.Str.{bytes_eq}
use Rattle.msg_order.specs.Superclasses.{has_cycle}
use Rattle.msg_names.specs.Name.{colons_of, is_selector_name}
use Rattle.msg_names.specs.declared.names.TheConstants.{MAX_NAMES}
use Rattle.msg_form.specs.declared.limits.TheConstants.{MAX_CATEGORIES, MAX_CLASSES, MAX_DEPTH, MAX_ENTRIES, MAX_EXPRESSIONS, MAX_IMPS, MAX_ITEMS, MAX_OBJECTS}
use Rattle.msg_form.specs.declared.faults.DocumentFault.{DocumentFault}
use Rattle.msg_form.specs.declared.faults.DocumentFault.TheVariants as faults
use Rattle.msg_form.specs.Expression.{Expression}
use Rattle.msg_form.specs.Form.{PairForm, ClassForm, ImpForm, Form}
use Rattle.msg_form.specs.Lists.{listed_names, class_names, home_classes, root_names, object_names, imp_names, method_entries, all_lists, sends, classes_named, objects_named, imps_named}
use Rattle.msg_form.specs.Parts.{parts, depth, indices_in, is_super_send}
use Rattle.msg_form.specs.Text.{Text, number_among, is_among, is_unknown, has_duplicate, distinct}
use Rattle.msg_form.specs.Version.{makes_classes}
use Rattle.msg_form.specs.Walk.{selector_texts, list_texts}

-- ---- Version

-- `version` is none of 1, 2 and 3
unfoldable pub is_other_version : Form → Bool
is_other_version f = not (int_eq f.version (pos 1) || makes_classes f.version)

-- ---- Limit

-- `classes` with `made`, `categories`, `objects`, `imps` or `items` is too long
unfoldable pub has_long_list : Form → Bool
has_long_list f =
    nat_lt MAX_CLASSES (length f.classes + length f.made) || nat_lt MAX_CATEGORIES (length f.categories) || nat_lt MAX_OBJECTS (length f.objects) || nat_lt MAX_IMPS (length f.imps) || nat_lt MAX_ITEMS (length f.items)

-- the classes and categories together have too many method entries
unfoldable pub has_many_entries : Form → Bool
has_many_entries f = nat_lt MAX_ENTRIES (length (method_entries f))

-- too many different texts are at places of selectors
unfoldable pub has_many_selectors : Form → Bool
has_many_selectors f = nat_lt MAX_NAMES (length (distinct (selector_texts f)))

unfoldable pub is_over_limit : Form → Bool
is_over_limit f = has_long_list f || has_many_entries f || has_many_selectors f

-- ---- DuplicateClass

-- two classes, listed or that may be made, have the same name
unfoldable pub has_duplicate_class : Form → Bool
has_duplicate_class f = has_duplicate (class_names f)

-- ---- UnknownSuperclass

-- a superclass is not among the names
abbrev pub is_outside : List Text → Option Text → Bool
is_outside names None = false
is_outside names (Some name) = is_unknown names name

-- a class's `super` isn't the name of an earlier class, if those before the classes have these
-- names
abbrev pub has_late_superclass : List Text → List ClassForm → Bool
has_late_superclass names [] = false
has_late_superclass names (c ∷ cs) = is_outside names c.superclass || has_late_superclass (names ++ c.name ∷ []) cs

-- the `super` of one of the classes isn't the name of one of them
abbrev pub has_unlisted_superclass : List ClassForm → Bool
has_unlisted_superclass cs = list_any (λ c. is_outside (map (λ (d : ClassForm). d.name) cs) c.superclass) cs

-- a class's `super` isn't the name of a listed class, or in version 1 of a class that is listed
-- earlier
unfoldable pub has_other_superclass : Form → Bool
has_other_superclass f = if makes_classes f.version then has_unlisted_superclass f.classes else has_late_superclass [] f.classes

-- an implementation has a super send, and its home class is one of the roots and no metaclass
abbrev pub sends_above : List Text → ImpForm → Bool
sends_above roots i = not i.meta && is_among i.class roots && list_any is_super_send (parts i.body)

unfoldable pub has_unknown_superclass : Form → Bool
has_unknown_superclass f = has_other_superclass f || list_any (sends_above (root_names f)) f.imps

-- ---- UnknownClass

-- the class of a category or implementation isn't listed, or an object, change or constant names a
-- class that isn't listed and may not be made
unfoldable pub has_unknown_class : Form → Bool
has_unknown_class f = list_any (is_unknown (class_names f)) (classes_named f) || list_any (is_unknown (listed_names f)) (home_classes f)

-- ---- DuplicateObject

-- two objects have the same name
unfoldable pub has_duplicate_object : Form → Bool
has_duplicate_object f = has_duplicate (object_names f)

-- ---- UnknownObject

-- a constant names an object that isn't listed
unfoldable pub has_unknown_object : Form → Bool
has_unknown_object f = list_any (is_unknown (object_names f)) (objects_named f)

-- ---- DuplicateImp

-- two implementations have the same name
unfoldable pub has_duplicate_imp : Form → Bool
has_duplicate_imp f = has_duplicate (imp_names f)

-- ---- UnknownImp

-- a list L or a change names an implementation that isn't listed
unfoldable pub has_unknown_imp : Form → Bool
has_unknown_imp f = list_any (is_unknown (imp_names f)) (imps_named f)

-- ---- BadSelector

-- a text at a selector's place isn't a selector name
unfoldable pub has_bad_selector : Form → Bool
has_bad_selector f = list_any (λ t. not (is_selector_name t)) (selector_texts f)

-- ---- DuplicateSelector

-- a selector occurs twice in one list L
unfoldable pub has_duplicate_selector : Form → Bool
has_duplicate_selector f = list_any (λ l. has_duplicate (list_texts l)) (all_lists f)

-- ---- ArgumentCount

-- the number of arguments that the implementation with a name takes
abbrev pub args_named : List ImpForm → Text → Option ℕ
args_named imps name = option_map (λ i. i.args) (find (λ i. bytes_eq name i.name) imps)

-- a number of arguments is given, and differs from the number of the selector's colons
abbrev pub differs : Option ℕ → Text → Bool
differs None selector = false
differs (Some n) selector = not (n == colons_of selector)

-- the pair's implementation takes more or fewer arguments than its selector has colons
abbrev pub is_miscounted : List ImpForm → PairForm → Bool
is_miscounted imps p = differs (args_named imps p.imp) p.selector

-- a send has more or fewer arguments than its selector has colons
abbrev pub is_miscounted_send : Text × ℕ → Bool
is_miscounted_send s = differs (Some s.1) s.0

-- a pair in a class's or category's list, a send or a super send is miscounted
unfoldable pub has_wrong_argument_count : Form → Bool
has_wrong_argument_count f = list_any (is_miscounted f.imps) (method_entries f) || list_any is_miscounted_send (sends f)

-- ---- ArgumentIndex

-- the k of an `["arg",k]` is not below the implementation's `args`
abbrev pub reads_beyond : ImpForm → Bool
reads_beyond i = list_any (nat_le i.args) (indices_in i.body)

unfoldable pub has_wrong_argument_index : Form → Bool
has_wrong_argument_index f = list_any reads_beyond f.imps

-- ---- BodyTooDeep

-- a body is too deep or has too many expressions
abbrev pub is_too_deep : Expression → Bool
is_too_deep body = nat_lt MAX_DEPTH (depth body) || nat_lt MAX_EXPRESSIONS (length (parts body))

unfoldable pub has_too_deep_body : Form → Bool
has_too_deep_body f = list_any (λ i. is_too_deep i.body) f.imps

-- ---- ClassCycle

-- the superclasses of the listed classes, by their numbers from 0
abbrev pub superclasses_of : List ClassForm → List (Option ℕ)
superclasses_of cs = map (λ c. option_map (number_among (distinct (map (λ (d : ClassForm). d.name) cs))) c.superclass) cs

-- A listed class is on its own chain of superclasses, so that the chain doesn't end. In version 1
-- superclasses come first.
unfoldable pub has_class_cycle : Form → Bool
has_class_cycle f = makes_classes f.version && has_cycle (superclasses_of f.classes)

-- ---- the least fault

-- a fault, and the condition under which a form has it
abbrev pub Condition : Type 0
Condition = DocumentFault × (Form → Bool)

-- all conditions, in the order of the faults' numbers
abbrev pub conditions : List Condition
conditions =
    (faults.Version, is_other_version) ∷
    (faults.Limit, is_over_limit) ∷
    (faults.DuplicateClass, has_duplicate_class) ∷
    (faults.UnknownSuperclass, has_unknown_superclass) ∷
    (faults.UnknownClass, has_unknown_class) ∷
    (faults.DuplicateObject, has_duplicate_object) ∷
    (faults.UnknownObject, has_unknown_object) ∷
    (faults.DuplicateImp, has_duplicate_imp) ∷
    (faults.UnknownImp, has_unknown_imp) ∷
    (faults.BadSelector, has_bad_selector) ∷
    (faults.DuplicateSelector, has_duplicate_selector) ∷
    (faults.ArgumentCount, has_wrong_argument_count) ∷
    (faults.ArgumentIndex, has_wrong_argument_index) ∷
    (faults.BodyTooDeep, has_too_deep_body) ∷
    (faults.ClassCycle, has_class_cycle) ∷
    []

-- the fault of the first condition that the form meets
abbrev pub first_of : List Condition → Form → Option DocumentFault
first_of [] f = None
first_of (c ∷ cs) f = if c.1 f then Some c.0 else first_of cs f

-- the least fault
unfoldable pub fault_of : Form → Option DocumentFault
fault_of f = first_of conditions f
