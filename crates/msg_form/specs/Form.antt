-- The parts of a document, with names as texts.
use Rattle.std.specs.Prelude.{ℕ, ℤ, List, [], ◌∷◌, Bool, Option}
use Rattle.msg_form.specs.Expression.{Constant, Expression}
use Rattle.msg_form.specs.Text.{Text}

-- an entry of a method list: a selector and the name of its implementation
pub record PairForm : Type 0 where
  pub selector : Text
  pub imp : Text

-- a class as it is listed, with names as texts
pub record ClassForm : Type 0 where
  pub name : Text
  pub superclass : Option Text
  pub methods : List PairForm
  pub class_methods : List PairForm

-- a category, with names as texts
pub record CategoryForm : Type 0 where
  pub class : Text
  pub methods : List PairForm
  pub class_methods : List PairForm

-- an object, with names as texts
pub record ObjectForm : Type 0 where
  pub name : Text
  pub class : Text

-- an implementation; its home class is the class, or the metaclass of the class if meta is true
pub record ImpForm : Type 0 where
  pub name : Text
  pub class : Text
  pub meta : Bool
  pub args : ℕ
  pub body : Expression

-- the name of a method: `-[class selector]`, or `+[class selector]` if meta is true
pub record MethodForm : Type 0 where
  pub class : Text
  pub meta : Bool
  pub selector : Text

pub data ChangeForm : Type 0 where
  add : MethodForm → Text → ChangeForm
  replace : MethodForm → Text → ChangeForm
  set_imp : MethodForm → Text → ChangeForm
  exchange : MethodForm → MethodForm → ChangeForm
  -- class, its methods, its class methods
  attach : Text → List PairForm → List PairForm → ChangeForm
  -- class, superclass
  make : Text → Option Text → ChangeForm
  remove : MethodForm → ChangeForm
  dispose : Text → ChangeForm

-- an item, with names as texts
pub data ItemForm : Type 0 where
  -- receiver, selector, arguments
  send_item : Constant → Text → List Constant → ItemForm
  change_item : ChangeForm → ItemForm
  -- changes that are made as one change
  change_all_item : List ChangeForm → ItemForm

-- the changes of an item, in their order
abbrev pub changes_of : ItemForm → List ChangeForm
changes_of (send_item r s args) = []
changes_of (change_item c) = c ∷ []
changes_of (change_all_item cs) = cs

-- a document as it is written, with names as texts
pub record Form : Type 0 where
  pub version : ℤ
  pub classes : List ClassForm
  -- the names of the classes that may be made at run time; version 1 has none
  pub made : List Text
  pub categories : List CategoryForm
  pub objects : List ObjectForm
  pub imps : List ImpForm
  pub items : List ItemForm
