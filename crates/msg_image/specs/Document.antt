-- The document that a form spells: numbers for names.
use Rattle.std.specs.Prelude.{ℕ, min, List, map, take, option_map}
use Rattle.msg_names.specs.Number.{selector_number, imp_number}
use Rattle.msg_names.specs.declared.value.ClassRef.{ClassRef}
use Rattle.msg_names.specs.declared.value.Value.{Value}
use Rattle.msg_names.specs.declared.value.Value.TheVariants.{Number, Object, Class, Sel, Nil}
use Rattle.msg_form.specs.declared.form.Operator.{Operator}
use Rattle.msg_form.specs.declared.form.Operator.TheVariants as operators
use Rattle.msg_form.specs.Expression as form
use Rattle.msg_form.specs.Form.{PairForm, ClassForm, CategoryForm, ObjectForm, ImpForm, MethodForm, ChangeForm, add, replace, set_imp, exchange, attach, make, remove, dispose, ItemForm, send_item, change_item, change_all_item, Form}
use Rattle.msg_tables.specs.declared.change.Change.{Change}
use Rattle.msg_tables.specs.declared.change.Change.TheVariants as changes
use Rattle.msg_tables.specs.declared.origin.Category.{Category}
use Rattle.msg_tables.specs.declared.origin.ListedClass.{ListedClass}
use Rattle.msg_image.specs.Items.{ItemParts, SendItem, ChangeItem, ChangeAllItem, DocumentParts}
use Rattle.msg_image.specs.Numbers.{Numbers, numbers_of, selector_named, class_named, object_named, imp_named}
use Rattle.msg_image.specs.Parts.{Op, Add, Sub, Mul, Eq, Lt, Expression, Expressions, Const, Me, Arg, Two, If, Send, Super, NoMore, More, ClassParts, ObjectParts, ImpParts, ImageParts}

-- ---- expressions

abbrev pub constant : Numbers → form.Constant → Value
constant n (form.whole z) = Number z
constant n form.nil = Nil
constant n (form.object_named name) = Object (object_named n name)
constant n (form.class_named name) = Class (class_named n name)
constant n (form.selector_named text) = Sel (selector_named n text)

abbrev pub operation : Operator → Op
operation operators.Add = Add
operation operators.Sub = Sub
operation operators.Mul = Mul
operation operators.Eq = Eq
operation operators.Lt = Lt

abbrev mutual
  pub expression : Numbers → form.Expression → Expression
  expression n (form.constant c) = Const (constant n c)
  expression n form.me = Me
  expression n (form.arg k) = Arg (min k 255)
  expression n (form.binary o a b) = Two (operation o) (expression n a) (expression n b)
  expression n (form.choice c a b) = If (expression n c) (expression n a) (expression n b)
  expression n (form.send r s es) = Send (expression n r) (selector_named n s) (expressions n es)
  expression n (form.super_send s es) = Super (selector_named n s) (expressions n es)

  pub expressions : Numbers → form.Expressions → Expressions
  expressions n form.no_more = NoMore
  expressions n (form.more e es) = More (expression n e) (expressions n es)

-- ---- the parts of an image

abbrev pub method : Numbers → PairForm → ℕ × ℕ
method n p = (selector_number (selector_named n p.selector), imp_number (imp_named n p.imp))

abbrev pub methods : Numbers → List PairForm → List (ℕ × ℕ)
methods n ps = map (method n) ps

-- a class with numbers for names
abbrev pub class : Numbers → ClassForm → ClassParts
class n c = record { name = c.name; superclass = option_map (class_named n) c.superclass; methods = methods n c.methods; class_methods = methods n c.class_methods }

-- what tables are opened of, of a class
abbrev pub listed : Numbers → ClassForm → ListedClass
listed n c = record { superclass = option_map (class_named n) c.superclass; methods = methods n c.methods; class_methods = methods n c.class_methods }

-- a category with numbers for names
abbrev pub category : Numbers → CategoryForm → Category
category n c = record { class = class_named n c.class; methods = methods n c.methods; class_methods = methods n c.class_methods }

-- an object with numbers for names
abbrev pub object : Numbers → ObjectForm → ObjectParts
object n o = record { name = o.name; class = class_named n o.class }

-- an implementation with numbers for names
abbrev pub imp : Numbers → ImpForm → ImpParts
imp n i = record { home = record { class = class_named n i.class; meta = i.meta }; args = i.args; body = expression n i.body }

-- ---- items

abbrev pub class_ref : Numbers → MethodForm → ClassRef
class_ref n m = record { class = class_named n m.class; meta = m.meta }

-- a change with numbers for names
abbrev pub change : Numbers → ChangeForm → Change
change n (add m i) = changes.Add (class_ref n m) (selector_named n m.selector) (imp_named n i)
change n (replace m i) = changes.Replace (class_ref n m) (selector_named n m.selector) (imp_named n i)
change n (set_imp m i) = changes.SetImp (class_ref n m) (selector_named n m.selector) (imp_named n i)
change n (exchange m o) = changes.Exchange (class_ref n m) (selector_named n m.selector) (class_ref n o) (selector_named n o.selector)
change n (attach c ms cs) = changes.Attach (class_named n c) (methods n ms) (methods n cs)
change n (make c s) = changes.AddClass (class_named n c) (option_map (class_named n) s)
change n (remove m) = changes.Remove (class_ref n m) (selector_named n m.selector)
change n (dispose c) = changes.DisposeClass (class_named n c)

-- a send has four arguments at most
abbrev pub item : Numbers → ItemForm → ItemParts
item n (send_item r s args) = SendItem (constant n r) (selector_named n s) (map (constant n) (take 4 args))
item n (change_item c) = ChangeItem (change n c)
item n (change_all_item cs) = ChangeAllItem (map (change n) cs)

-- ---- the whole

abbrev pub image_of : Form → ImageParts
image_of f =
    let n = numbers_of f in
    record {
      names = n.selectors;
      classes = map (class n) f.classes;
      made = f.made;
      categories = map (category n) f.categories;
      objects = map (object n) f.objects;
      imps = map (imp n) f.imps;
    }

unfoldable pub document_of : Form → DocumentParts
document_of f = record { image = image_of f; items = map (item (numbers_of f)) f.items }
