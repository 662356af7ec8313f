-- The parts of a form: the names that it gives, its lists, its sends and the names that it cites.
use Rattle.std.specs.Prelude.{ℕ, List, [], ◌∷◌, ◌++◌, length, map, filter, is_none, Option, Some, None}
use Rattle.std.specs.List.{flat_map}
use Rattle.msg_form.specs.Form.{PairForm, ClassForm, CategoryForm, ChangeForm, add, replace, set_imp, exchange, attach, make, remove, dispose, ItemForm, send_item, changes_of, Form}
use Rattle.msg_form.specs.Parts.{classes_in, objects_in, sends_in, own_class, own_object}
use Rattle.msg_form.specs.Text.{Text}

-- ---- names that are given

-- the names of the classes that are listed
abbrev pub listed_names : Form → List Text
listed_names f = map (λ c. c.name) f.classes

-- the names of the listed classes, and then of the classes that may be made
abbrev pub class_names : Form → List Text
class_names f = listed_names f ++ f.made

-- the names of the classes among these whose `super` is null
abbrev pub root_names_in : List ClassForm → List Text
root_names_in classes = map (λ c. c.name) (filter (λ c. is_none c.superclass) classes)

-- the names of the listed classes whose `super` is null
abbrev pub root_names : Form → List Text
root_names f = root_names_in f.classes

-- the names of the objects
abbrev pub object_names : Form → List Text
object_names f = map (λ o. o.name) f.objects

-- the names of the implementations
abbrev pub imp_names : Form → List Text
imp_names f = map (λ i. i.name) f.imps

-- ---- lists of pairs

-- the method lists of a class
abbrev pub class_lists : ClassForm → List (List PairForm)
class_lists c = c.methods ∷ c.class_methods ∷ []

-- the method lists of a category
abbrev pub category_lists : CategoryForm → List (List PairForm)
category_lists c = c.methods ∷ c.class_methods ∷ []

-- the method lists of classes and categories
abbrev pub method_lists : Form → List (List PairForm)
method_lists f = flat_map class_lists f.classes ++ flat_map category_lists f.categories

-- the method lists of a change: those of a category that it attaches
abbrev pub change_lists : ChangeForm → List (List PairForm)
change_lists (add m i) = []
change_lists (replace m i) = []
change_lists (set_imp m i) = []
change_lists (exchange m o) = []
change_lists (attach c ms cs) = ms ∷ cs ∷ []
change_lists (make c s) = []
change_lists (remove m) = []
change_lists (dispose c) = []

-- the method lists of an item: those of categories that it attaches
abbrev pub item_lists : ItemForm → List (List PairForm)
item_lists i = flat_map change_lists (changes_of i)

-- all lists L
abbrev pub all_lists : Form → List (List PairForm)
all_lists f = method_lists f ++ flat_map item_lists f.items

-- the entries of the method lists of classes and categories
abbrev pub method_entries : Form → List PairForm
method_entries f = flat_map (λ l. l) (method_lists f)

-- ---- sends

abbrev pub body_sends : Form → List (Text × ℕ)
body_sends f = flat_map (λ i. sends_in i.body) f.imps

-- the selector of a send of the document, and the number of its arguments
abbrev pub item_sends : ItemForm → List (Text × ℕ)
item_sends (send_item r s args) = (s, length args) ∷ []
item_sends _ = []

-- the selector of each send and super send, and the number of its arguments
abbrev pub sends : Form → List (Text × ℕ)
sends f = body_sends f ++ flat_map item_sends f.items

-- ---- names that are cited

abbrev pub at_most_one : Option Text → List Text
at_most_one None = []
at_most_one (Some name) = name ∷ []

-- the classes that a change names
abbrev pub change_classes : ChangeForm → List Text
change_classes (add m i) = m.class ∷ []
change_classes (replace m i) = m.class ∷ []
change_classes (set_imp m i) = m.class ∷ []
change_classes (exchange m o) = m.class ∷ o.class ∷ []
change_classes (attach c ms cs) = c ∷ []
change_classes (make c s) = c ∷ at_most_one s
change_classes (remove m) = m.class ∷ []
change_classes (dispose c) = c ∷ []

-- the classes that an item names, by a receiver, an argument or its changes
abbrev pub item_classes : ItemForm → List Text
item_classes (send_item r s args) = flat_map own_class (r ∷ args)
item_classes i = flat_map change_classes (changes_of i)

abbrev pub body_classes : Form → List Text
body_classes f = flat_map (λ i. classes_in i.body) f.imps

-- the classes of categories and implementations
abbrev pub home_classes : Form → List Text
home_classes f = map (λ c. c.class) f.categories ++ map (λ i. i.class) f.imps

-- the classes that objects and items name
abbrev pub other_classes : Form → List Text
other_classes f = map (λ o. o.class) f.objects ++ flat_map item_classes f.items

-- the classes that bodies, objects and items name
abbrev pub classes_named : Form → List Text
classes_named f = body_classes f ++ other_classes f

-- the objects that a send of the document names
abbrev pub item_objects : ItemForm → List Text
item_objects (send_item r s args) = flat_map own_object (r ∷ args)
item_objects _ = []

abbrev pub body_objects : Form → List Text
body_objects f = flat_map (λ i. objects_in i.body) f.imps

-- the objects that bodies and items name
abbrev pub objects_named : Form → List Text
objects_named f = body_objects f ++ flat_map item_objects f.items

-- the implementations that a change names, except in its lists
abbrev pub change_imps : ChangeForm → List Text
change_imps (add m i) = i ∷ []
change_imps (replace m i) = i ∷ []
change_imps (set_imp m i) = i ∷ []
change_imps (exchange m o) = []
change_imps (attach c ms cs) = []
change_imps (make c s) = []
change_imps (remove m) = []
change_imps (dispose c) = []

-- the implementations that an item's changes name
abbrev pub item_imps : ItemForm → List Text
item_imps i = flat_map change_imps (changes_of i)

-- the implementations that lists of pairs and changes name
abbrev pub imps_cited : List (List PairForm) → List ItemForm → List Text
imps_cited lists items = map (λ p. p.imp) (flat_map (λ l. l) lists) ++ flat_map item_imps items

-- the implementations that lists L and changes name
abbrev pub imps_named : Form → List Text
imps_named f = imps_cited (all_lists f) f.items
