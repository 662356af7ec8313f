-- The form that the program's parts represent.
use Rattle.std.specs.Prelude.{ℕ, List, Option, [], ◌∷◌, map, option_map}
use Rattle.std.specs.Borrow.{Bor}
use Rattle.msg_form.specs.ExprView.{constant_view, expr_view}
use Rattle.msg_form.specs.Form as plain
use Rattle.msg_form.specs.Form.{PairForm, ClassForm, CategoryForm, ObjectForm, ImpForm, MethodForm, ChangeForm, ItemForm}
use Rattle.msg_form.specs.Text.{Text, number_among, texts_view}
use Rattle.msg_form.specs.declared.form.Category.{Category}
use Rattle.msg_form.specs.declared.form.Change.{Change}
use Rattle.msg_form.specs.declared.form.Change.TheVariants.{Add, Replace, SetImp, Exchange, Attach, Make, Remove, Dispose}
use Rattle.msg_form.specs.declared.form.Class.{Class}
use Rattle.msg_form.specs.declared.form.Form.{Form}
use Rattle.msg_form.specs.declared.form.Imp.{Imp}
use Rattle.msg_form.specs.declared.form.Item.{Item}
use Rattle.msg_form.specs.declared.form.Item.TheVariants as items
use Rattle.msg_form.specs.declared.form.MethodName.{MethodName}
use Rattle.msg_form.specs.declared.form.Object.{Object}
use Rattle.msg_form.specs.declared.form.Pair.{Pair}

-- a method of a list without its pointers
abbrev pub pair_view : Pair → PairForm
pair_view p = record { selector = p.selector.now; imp = p.imp.now }

-- the methods of a list without their pointers
abbrev pub pairs_view : List Pair → List PairForm
pairs_view ps = map pair_view ps

abbrev pub lists_view : List (Bor (List Pair)) → List (List PairForm)
lists_view ls = map (λ l. pairs_view l.now) ls

-- the method lists of a class, or of a category
abbrev pub both_view : List Pair → List Pair → List (List PairForm)
both_view methods class_methods = pairs_view methods ∷ pairs_view class_methods ∷ []

-- a class without its pointers
abbrev pub class_view : Class → ClassForm
class_view c = record { name = c.name.now; superclass = option_map (λ s. s.now) c.superclass; methods = pairs_view c.methods.items; class_methods = pairs_view c.class_methods.items }

abbrev pub classes_view : List Class → List ClassForm
classes_view cs = map class_view cs

-- the names of classes
abbrev pub names_view : List Class → List Text
names_view cs = map (λ c. (class_view c).name) cs

-- the superclasses of classes, by their numbers among the names
abbrev pub superclasses_among : List Text → List Class → List (Option ℕ)
superclasses_among names cs = map (λ c. option_map (number_among names) (class_view c).superclass) cs

-- a category without its pointers
abbrev pub category_view : Category → CategoryForm
category_view c = record { class = c.class.now; methods = pairs_view c.methods.items; class_methods = pairs_view c.class_methods.items }

-- an object without its pointers
abbrev pub object_view : Object → ObjectForm
object_view o = record { name = o.name.now; class = o.class.now }

-- an implementation without its pointers
abbrev pub imp_view : Imp → ImpForm
imp_view i = record { name = i.name.now; class = i.class.now; meta = i.meta; args = i.args; body = expr_view i.body }

-- the implementations of a form, in the type of the definitions
abbrev pub imps_view : List Imp → List ImpForm
imps_view is = map imp_view is

abbrev pub method_view : MethodName → MethodForm
method_view m = record { class = m.class.now; meta = m.meta; selector = m.selector.now }

-- a change without its pointers
abbrev pub change_view : Change → ChangeForm
change_view (Add m i) = plain.add (method_view m) i.now
change_view (Replace m i) = plain.replace (method_view m) i.now
change_view (SetImp m i) = plain.set_imp (method_view m) i.now
change_view (Exchange m o) = plain.exchange (method_view m) (method_view o)
change_view (Attach c ms cs) = plain.attach c.now (pairs_view ms.items) (pairs_view cs.items)
change_view (Make c s) = plain.make c.now (option_map (λ n. n.now) s)
change_view (Remove m) = plain.remove (method_view m)
change_view (Dispose c) = plain.dispose c.now

abbrev pub changes_view : List Change → List ChangeForm
changes_view cs = map change_view cs

-- an item without its pointers
abbrev pub item_view : Item → ItemForm
item_view (items.Send r s args) = plain.send_item (constant_view r) s.now (map constant_view args.now)
item_view (items.Change c) = plain.change_item (change_view c)
item_view (items.ChangeAll cs) = plain.change_all_item (changes_view cs.items)

abbrev pub items_view : List Item → List ItemForm
items_view is = map item_view is

-- a form without its pointers
abbrev pub form_view : Form → plain.Form
form_view f = record {
  version = f.version;
  classes = classes_view f.classes.items;
  made = texts_view f.made.items;
  categories = map category_view f.categories.items;
  objects = map object_view f.objects.items;
  imps = imps_view f.imps.items;
  items = items_view f.items.items;
}
