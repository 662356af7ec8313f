-- Whether a value is what is wanted, as the reader of documents has it.
use Rattle.std.specs.Prelude.{List, Bool, true, false, not, is_some, Option, None, Some}
use Rattle.std.specs.List.{list_all}
use Rattle.serde_json.specs.Data.{Data}
use Rattle.serde_json.specs.Find.{as_bool, as_str}
use Rattle.msg_form.specs.ExprShape.{constant_of, expression_of, natural}
use Rattle.msg_form.specs.Form.{ItemForm}
use Rattle.msg_form.specs.Json.{◌>>=◌, list_at, name_of, whole_of}
use Rattle.msg_form.specs.Shape.{args_of, category_form_of, change_form_of, change_item_of, class_form_of, form_of, imp_form_of, is_newest, is_later, item_form_of, object_form_of, pair_form_of, send_item_of, superclass_of}
use Rattle.msg_explain.specs.declared.part.Edition.{Edition}
use Rattle.msg_explain.specs.declared.part.Edition.TheVariants.{First, Second, Third}
use Rattle.msg_explain.specs.declared.part.Part.{Part}
use Rattle.msg_explain.specs.declared.part.Part.TheVariants.{Document, Version, Class, Category, Object, Imp, Item, Name, Superclass, MadeUnder, Pair, Attached, Truth, Args, Body, Send, Changes, Change, Constant, Selector, Index}
use Rattle.msg_explain.specs.declared.part.Wanted.{Wanted}
use Rattle.msg_explain.specs.declared.part.Wanted.TheVariants.{One, Many}

-- the edition has such items
abbrev pub suits : Edition → ItemForm → Bool
suits First i = not (is_later i)
suits Second i = not (is_newest i)
suits Third i = true

-- an item is spelled that the edition has
abbrev pub is_item : Edition → Option ItemForm → Bool
is_item e None = false
is_item e (Some i) = suits e i

-- the value spells the part
unfoldable pub is_part : Part → Data → Bool
is_part (Document e) d = is_some (form_of d)
is_part Version d = is_some (whole_of d)
is_part Class d = is_some (class_form_of d)
is_part Category d = is_some (category_form_of d)
is_part Object d = is_some (object_form_of d)
is_part Imp d = is_some (imp_form_of d)
is_part (Item e) d = is_item e (item_form_of d)
is_part (Name n) d = is_some (name_of d)
is_part Superclass d = is_some (superclass_of d)
is_part MadeUnder d = is_some (superclass_of d)
is_part Pair d = is_some (pair_form_of d)
is_part Attached d = is_some (pair_form_of d)
is_part Truth d = is_some (as_bool d)
is_part Args d = is_some (args_of d)
is_part Body d = is_some (expression_of d)
is_part Send d = is_some (send_item_of d)
is_part (Changes e) d = is_item e (change_item_of d)
is_part Change d = is_some (change_form_of d)
is_part Constant d = is_some (constant_of d)
is_part Selector d = is_some (as_str d)
is_part Index d = is_some (whole_of d >>= natural)

-- the part is a single value, which has no parts
abbrev pub IsPlain : Part → Type 0
IsPlain Version = Unit {0}
IsPlain Truth = Unit {0}
IsPlain Args = Unit {0}
IsPlain Selector = Unit {0}
IsPlain Index = Unit {0}
IsPlain p = ⊥

-- each value of a list spells the part
abbrev pub are_parts : Part → Option (List Data) → Bool
are_parts p None = false
are_parts p (Some ds) = list_all (is_part p) ds

-- the value is what is wanted
unfoldable pub fits : Wanted → Data → Bool
fits (One p) d = is_part p d
fits (Many p) d = are_parts p (list_at d)
