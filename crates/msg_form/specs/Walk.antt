-- The walk over a document's places of selectors, which numbers them.
use Rattle.std.specs.Prelude.{List, [], ◌∷◌, ◌++◌, map, codes}
use Rattle.std.specs.List.{flat_map}
use Rattle.msg_form.specs.Expression.{Expression, Expressions, constant, me, arg, binary, choice, send, super_send, no_more, more}
use Rattle.msg_form.specs.Form.{PairForm, ClassForm, CategoryForm, ImpForm, ChangeForm, add, replace, set_imp, exchange, attach, make, remove, dispose, ItemForm, send_item, changes_of, Form}
use Rattle.msg_form.specs.Parts.{own_selector}
use Rattle.msg_form.specs.Text.{Text}

-- the selector of the message that asks an object for a forwarding target
abbrev pub forwarding_text : Text
forwarding_text = codes "forwardingTargetForSelector:"

-- the selectors of a list of pairs
abbrev pub list_texts : List PairForm → List Text
list_texts pairs = map (λ p. p.selector) pairs

-- from the outside in and left to right: a send's selector after its receiver and before its
-- arguments
abbrev mutual
  pub texts_in : Expression → List Text
  texts_in (constant c) = own_selector c
  texts_in me = []
  texts_in (arg k) = []
  texts_in (binary o a b) = texts_in a ++ texts_in b
  texts_in (choice a b c) = texts_in a ++ (texts_in b ++ texts_in c)
  texts_in (send r s es) = texts_in r ++ (s ∷ all_texts_in es)
  texts_in (super_send s es) = s ∷ all_texts_in es

  pub all_texts_in : Expressions → List Text
  all_texts_in no_more = []
  all_texts_in (more e es) = texts_in e ++ all_texts_in es

-- the selectors of a class, in the order of the walk
abbrev pub class_texts : ClassForm → List Text
class_texts c = list_texts c.methods ++ list_texts c.class_methods

-- the selectors of a category, in the order of the walk
abbrev pub category_texts : CategoryForm → List Text
category_texts c = list_texts c.methods ++ list_texts c.class_methods

-- the selectors of an implementation's body, in the order of the walk
abbrev pub imp_texts : ImpForm → List Text
imp_texts i = texts_in i.body

-- the selectors of a change, in the order of the walk
abbrev pub change_texts : ChangeForm → List Text
change_texts (add m i) = m.selector ∷ []
change_texts (replace m i) = m.selector ∷ []
change_texts (set_imp m i) = m.selector ∷ []
change_texts (exchange m o) = m.selector ∷ o.selector ∷ []
change_texts (attach c ms cs) = list_texts ms ++ list_texts cs
change_texts (make c s) = []
change_texts (remove m) = m.selector ∷ []
change_texts (dispose c) = []

-- the selectors of an item, in the order of the walk
abbrev pub item_texts : ItemForm → List Text
item_texts (send_item r s args) = own_selector r ++ (s ∷ flat_map own_selector args)
item_texts i = flat_map change_texts (changes_of i)

-- the texts at all places of selectors, `forwardingTargetForSelector:` first
unfoldable pub selector_texts : Form → List Text
selector_texts f =
    forwarding_text ∷ (flat_map class_texts f.classes ++ flat_map category_texts f.categories ++ flat_map imp_texts f.imps ++ flat_map item_texts f.items)
