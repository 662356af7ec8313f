-- Which JSON values spell the parts of a document: a definition for each row of the format's table.
use Rattle.std.specs.Prelude.{ℕ, ◌+◌, ◌==◌, ℤ, pos, negsuc, List, [], length, Bool, true, false, not, drop, nat_le, codes, if◌then◌else◌, Option, Some, None, option_map}
use Rattle.serde_json.specs.Data.{Data, null, boolean, number, string, array, object}
use Rattle.serde_json.specs.Find.{get, as_str, as_bool}
use Rattle.msg_json.specs.Keys.{has_keys}
use Rattle.msg_form.specs.ExprShape.{is_word, constant_of, expression_of}
use Rattle.std.specs.List.{list_any}
use Rattle.msg_form.specs.Version.{is_second, is_third}
use Rattle.msg_form.specs.Form.{PairForm, ClassForm, CategoryForm, ObjectForm, ImpForm, MethodForm, ChangeForm, add, replace, set_imp, exchange, attach, make, remove, dispose, ItemForm, send_item, change_item, change_all_item, Form}
use Rattle.msg_form.specs.Json.{◌>>=◌, only_if, each, list_at, list_of, field_of, value_of, name_of, whole_of}
use Rattle.msg_form.specs.Text.{Text}

-- list L's entries: `[S,N]`
unfoldable pub pair_form_of : Data → Option PairForm
pair_form_of d = do
  ds ← list_at d
  _ ← only_if (length ds == 2)
  selector ← value_of as_str 0 ds
  imp ← value_of name_of 1 ds
  Some (record { selector = selector; imp = imp })

-- N or `null`
unfoldable pub superclass_of : Data → Option (Option Text)
superclass_of null = Some None
superclass_of (boolean b) = None
superclass_of (number n) = None
superclass_of (string s) = option_map Some (name_of (string s))
superclass_of (array ds) = None
superclass_of (object ms) = None

-- `{"name":N,"super":N or null,"methods":L,"class_methods":L}`
unfoldable pub class_form_of : Data → Option ClassForm
class_form_of d = do
  _ ← only_if (has_keys 4 d)
  name ← field_of name_of (codes "name") d
  superclass ← field_of superclass_of (codes "super") d
  methods ← field_of (list_of pair_form_of) (codes "methods") d
  class_methods ← field_of (list_of pair_form_of) (codes "class_methods") d
  Some (record { name = name; superclass = superclass; methods = methods; class_methods = class_methods })

-- `{"class":N,"methods":L,"class_methods":L}`
unfoldable pub category_form_of : Data → Option CategoryForm
category_form_of d = do
  _ ← only_if (has_keys 3 d)
  class ← field_of name_of (codes "class") d
  methods ← field_of (list_of pair_form_of) (codes "methods") d
  class_methods ← field_of (list_of pair_form_of) (codes "class_methods") d
  Some (record { class = class; methods = methods; class_methods = class_methods })

-- `{"name":N,"class":N}`
unfoldable pub object_form_of : Data → Option ObjectForm
object_form_of d = do
  _ ← only_if (has_keys 2 d)
  name ← field_of name_of (codes "name") d
  class ← field_of name_of (codes "class") d
  Some (record { name = name; class = class })

abbrev pub at_most_four : ℤ → Option ℕ
at_most_four (pos n) = if nat_le n 4 then Some n else None
at_most_four (negsuc n) = None

-- 0 to 4
unfoldable pub args_of : Data → Option ℕ
args_of d = whole_of d >>= at_most_four

-- `{"name":N,"class":N,"meta":true or false,"args":0 to 4,"body":E}`
unfoldable pub imp_form_of : Data → Option ImpForm
imp_form_of d = do
  _ ← only_if (has_keys 5 d)
  name ← field_of name_of (codes "name") d
  class ← field_of name_of (codes "class") d
  meta ← field_of as_bool (codes "meta") d
  args ← field_of args_of (codes "args") d
  body ← field_of expression_of (codes "body") d
  Some (record { name = name; class = class; meta = meta; args = args; body = body })

-- ---- changes

-- `N,meta,S`, from a place on
unfoldable pub method_form_of : ℕ → List Data → Option MethodForm
method_form_of place ds = do
  class ← value_of name_of place ds
  meta ← value_of as_bool (place + 1) ds
  selector ← value_of as_str (place + 2) ds
  Some (record { class = class; meta = meta; selector = selector })

-- `[word,N,meta,S,N]`
unfoldable pub edit_of : List Data → Option (MethodForm × Text)
edit_of ds = do
  _ ← only_if (length ds == 5)
  method ← method_form_of 1 ds
  imp ← value_of name_of 4 ds
  Some (method, imp)

-- `["exchange",N,meta,S,N,meta,S]`
unfoldable pub exchange_of : List Data → Option ChangeForm
exchange_of ds = do
  _ ← only_if (length ds == 7)
  method ← method_form_of 1 ds
  other ← method_form_of 4 ds
  Some (exchange method other)

-- `["attach",N,L,L]`
unfoldable pub attach_of : List Data → Option ChangeForm
attach_of ds = do
  _ ← only_if (length ds == 4)
  class ← value_of name_of 1 ds
  methods ← value_of (list_of pair_form_of) 2 ds
  class_methods ← value_of (list_of pair_form_of) 3 ds
  Some (attach class methods class_methods)

-- `["make",N,N or null]`
unfoldable pub make_of : List Data → Option ChangeForm
make_of ds = do
  _ ← only_if (length ds == 3)
  class ← value_of name_of 1 ds
  superclass ← value_of superclass_of 2 ds
  Some (make class superclass)

-- `["remove",N,meta,S]`
unfoldable pub remove_of : List Data → Option ChangeForm
remove_of ds = do
  _ ← only_if (length ds == 4)
  method ← method_form_of 1 ds
  Some (remove method)

-- `["dispose",N]`
unfoldable pub dispose_of : List Data → Option ChangeForm
dispose_of ds = do
  _ ← only_if (length ds == 2)
  class ← value_of name_of 1 ds
  Some (dispose class)

unfoldable pub worded_change_of : Text → List Data → Option ChangeForm
worded_change_of word ds =
    if is_word word (codes "add") then option_map (λ e. add e.0 e.1) (edit_of ds) else
    (if is_word word (codes "replace") then option_map (λ e. replace e.0 e.1) (edit_of ds) else
    (if is_word word (codes "set") then option_map (λ e. set_imp e.0 e.1) (edit_of ds) else
    (if is_word word (codes "exchange") then exchange_of ds else
    (if is_word word (codes "attach") then attach_of ds else
    (if is_word word (codes "make") then make_of ds else
    (if is_word word (codes "remove") then remove_of ds else
    (if is_word word (codes "dispose") then dispose_of ds else
    None)))))))

-- X, by its first word
unfoldable pub change_form_of : Data → Option ChangeForm
change_form_of d = do
  ds ← list_at d
  word ← value_of as_str 0 ds
  worded_change_of word ds

-- the parts of `["all",X,X,..]`, of which there are at least two
unfoldable pub all_of : List Data → Option (List ChangeForm)
all_of ds = do
  _ ← only_if (nat_le 3 (length ds))
  each change_form_of (drop 1 ds)

-- ---- items

-- `[C,S,C,..]`
unfoldable pub send_item_of : Data → Option ItemForm
send_item_of d = do
  ds ← list_at d
  receiver ← value_of constant_of 0 ds
  selector ← value_of as_str 1 ds
  args ← each constant_of (drop 2 ds)
  Some (send_item receiver selector args)

-- `["all",X,X,..]` or X
unfoldable pub change_item_of : Data → Option ItemForm
change_item_of d = do
  ds ← list_at d
  word ← value_of as_str 0 ds
  if is_word word (codes "all") then option_map change_all_item (all_of ds) else option_map change_item (worded_change_of word ds)

-- the first, if there is one, and else the other
abbrev pub either : {A B : Type 0} → Option A → (A → Option B) → Option B → Option B
either None f other = other
either (Some a) f other = f a

-- `{"send":[C,S,C,..]}`, `{"change":X}` or `{"change":["all",X,X,..]}`
unfoldable pub item_form_of : Data → Option ItemForm
item_form_of d = do
  _ ← only_if (has_keys 1 d)
  either (get (codes "send") d) send_item_of (field_of change_item_of (codes "change") d)

-- ---- the whole document

-- the parts that the versions share, apart from the names of the classes that may be made
unfoldable pub parts_of : ℤ → List Text → Data → Option Form
parts_of version made d = do
  classes ← field_of (list_of class_form_of) (codes "classes") d
  categories ← field_of (list_of category_form_of) (codes "categories") d
  objects ← field_of (list_of object_form_of) (codes "objects") d
  imps ← field_of (list_of imp_form_of) (codes "imps") d
  items ← field_of (list_of item_form_of) (codes "items") d
  Some (record { version = version; classes = classes; made = made; categories = categories; objects = objects; imps = imps; items = items })

-- changes that are made as one, or a change that removes a method or disposes of a class: version 3
-- added these
abbrev pub is_newest : ItemForm → Bool
is_newest (change_all_item cs) = true
is_newest (change_item (remove m)) = true
is_newest (change_item (dispose c)) = true
is_newest _ = false

-- one of these, or a change that makes a class, which version 2 added
abbrev pub is_later : ItemForm → Bool
is_later (change_item (make c s)) = true
is_later i = is_newest i

-- version 1, which makes no classes
unfoldable pub first_form_of : ℤ → Data → Option Form
first_form_of version d = do
  _ ← only_if (has_keys 6 d)
  f ← parts_of version [] d
  _ ← only_if (not (list_any is_later f.items))
  Some f

-- version 3, which has one more key than version 1: `made`, a list of names
unfoldable pub third_form_of : ℤ → Data → Option Form
third_form_of version d = do
  _ ← only_if (has_keys 7 d)
  made ← field_of (list_of name_of) (codes "made") d
  parts_of version made d

-- version 2, which is version 3 without what version 3 added
unfoldable pub second_form_of : ℤ → Data → Option Form
second_form_of version d = do
  f ← third_form_of version d
  _ ← only_if (not (list_any is_newest f.items))
  Some f

-- the form of a document of this version
abbrev pub form_by : ℤ → Data → Option Form
form_by version d = if is_third version then third_form_of version d else (if is_second version then second_form_of version d else first_form_of version d)

-- The version decides the form if it is 2 or 3. Any other document has the form of version 1.
unfoldable pub form_of : Data → Option Form
form_of d = do
  version ← field_of whole_of (codes "version") d
  form_by version d
