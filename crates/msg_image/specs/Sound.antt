-- What holds of every image.
use Rattle.std.specs.Prelude.{◌≡◌, ◌<◌, ◌≤◌, ◌+◌, ℕ, List, ◌∷◌, Some, option_map, length, sum_by, All, true, false, IsSome, IfSome}
use Rattle.std.specs.List.{flat_map}
use Rattle.msg_order.specs.Superclasses.{has_cycle}
use Rattle.msg_names.specs.Name.{colons_of}
use Rattle.msg_names.specs.Number.{selector_number, imp_number}
use Rattle.msg_names.specs.declared.value.ClassRef.{ClassRef}
use Rattle.msg_names.specs.declared.value.ImpRef.{ImpRef}
use Rattle.msg_tables.specs.declared.change.Change.{Change}
use Rattle.msg_tables.specs.declared.change.Change.TheVariants.{Add, Replace, SetImp, Exchange, Attach, AddClass, Remove, DisposeClass}
use Rattle.msg_names.specs.Numbering.{name_at}
use Rattle.msg_names.specs.declared.value.Selector.{Selector}
use Rattle.msg_names.specs.declared.value.Value.{Value}
use Rattle.msg_names.specs.declared.value.Value.TheVariants.{Number, Object, Class, Sel, Nil}
use Rattle.msg_tables.specs.declared.origin.Category.{Category}
use Rattle.msg_image.specs.Items.{ItemParts, SendItem, ChangeItem, ChangeAllItem}
use Rattle.msg_image.specs.Parts.{ImageParts, class_total, ClassParts, ObjectParts, ImpParts, Expression, Expressions, Const, Me, Arg, Two, If, Send, Super, NoMore, More, superclass_in, superclasses}
use Rattle.msg_image.specs.Contents.{own_selector, selectors_in, arguments_in, has_super_send}
use Rattle.msg_image.specs.Sizes.{count, depth, arity}
use Rattle.msg_form.specs.Walk.{forwarding_text}
use Rattle.msg_form.specs.declared.limits.TheConstants.{MAX_CATEGORIES, MAX_CLASSES, MAX_DEPTH, MAX_ENTRIES, MAX_EXPRESSIONS, MAX_IMPS, MAX_OBJECTS}

-- an object or a class is one of the image's
abbrev pub IsOf : ImageParts → Value → Type 0
IsOf image (Object o) = o.object < length image.objects
IsOf image (Class c) = c < class_total image
IsOf image (Number n) = Unit {0}
IsOf image (Sel s) = Unit {0}
IsOf image Nil = Unit {0}

abbrev mutual
  -- its constants are of the image, and none of its sends has more than four arguments
  pub IsExpressionOf : ImageParts → Expression → Type 0
  IsExpressionOf image (Const v) = IsOf image v
  IsExpressionOf image Me = Unit {0}
  IsExpressionOf image (Arg k) = Unit {0}
  IsExpressionOf image (Two o a b) = IsExpressionOf image a × IsExpressionOf image b
  IsExpressionOf image (If c a b) = IsExpressionOf image c × IsExpressionOf image a × IsExpressionOf image b
  IsExpressionOf image (Send a s es) = IsExpressionOf image a × AreExpressionsOf image es × (arity es ≤ 4)
  IsExpressionOf image (Super s es) = AreExpressionsOf image es × (arity es ≤ 4)

  pub AreExpressionsOf : ImageParts → Expressions → Type 0
  AreExpressionsOf image NoMore = Unit {0}
  AreExpressionsOf image (More e es) = IsExpressionOf image e × AreExpressionsOf image es

-- a class reference's class is one of the image's, listed or made at run time
abbrev pub HasClass : ImageParts → ClassRef → Type 0
HasClass image c = c.class < class_total image

-- a selector is one of the image's
abbrev pub HasSelector : ImageParts → Selector → Type 0
HasSelector image s = selector_number s ≤ length image.names

-- an implementation is listed
abbrev pub HasImp : ImageParts → ImpRef → Type 0
HasImp image i = (0 < imp_number i) × (imp_number i ≤ length image.imps)

-- a method's implementation is listed, and its selector is one of the image's
abbrev pub IsMethodOf : ImageParts → ℕ × ℕ → Type 0
IsMethodOf image m = (0 < m.1) × (m.1 ≤ length image.imps) × (m.0 ≤ length image.names)

-- all are methods of the image
abbrev pub AreListed : ImageParts → List (ℕ × ℕ) → Type 0
AreListed image methods = All (IsMethodOf image) methods

-- how many rows the tables have as the image is opened
abbrev pub row_count : ImageParts → ℕ
row_count image =
    sum_by (λ (c : ClassParts). length c.methods + length c.class_methods) image.classes
    + sum_by (λ (c : Category). length c.methods + length c.class_methods) image.categories

pub record IsSoundClass (image : ImageParts) (c : ClassParts) : Type 0 where
  pub superclass : IfSome c.superclass (λ d. d < length image.classes)
  pub methods : AreListed image c.methods
  pub class_methods : AreListed image c.class_methods

-- a category is of a listed class, with methods of the image
pub record IsSoundCategory (image : ImageParts) (c : Category) : Type 0 where
  pub class : c.class < length image.classes
  pub methods : AreListed image c.methods
  pub class_methods : AreListed image c.class_methods

-- an implementation is in a listed class, and its body reads its own arguments and names what the
-- image has
pub record IsSoundImp (image : ImageParts) (i : ImpParts) : Type 0 where
  pub home : i.home.class < length image.classes
  pub args : i.args ≤ 4
  pub body : IsExpressionOf image i.body
  pub selectors : All (HasSelector image) (selectors_in i.body)
  -- each argument that the body reads is one of those that the implementation takes
  pub arguments : All (λ k. k < i.args) (arguments_in i.body)
  -- if the body has a super send, there is a class above the home class
  pub above : has_super_send i.body ≡ true → IsSome (superclass_in image i.home)
  pub count : count i.body ≤ MAX_EXPRESSIONS
  pub depth : depth i.body ≤ MAX_DEPTH

-- numbers are those of parts that are there, and sizes are within the limits
pub record IsSound (image : ImageParts) : Type 0 where
  -- selector 1 is `forwardingTargetForSelector:`
  pub forwarding : name_at image.names 1 ≡ Some forwarding_text
  pub classes : All (IsSoundClass image) image.classes
  -- the chain of superclasses of each listed class ends
  pub chains : has_cycle (superclasses image) ≡ false
  pub categories : All (IsSoundCategory image) image.categories
  pub objects : All (λ (o : ObjectParts). o.class < class_total image) image.objects
  pub imps : All (IsSoundImp image) image.imps
  pub few_classes : class_total image ≤ MAX_CLASSES
  pub few_categories : length image.categories ≤ MAX_CATEGORIES
  pub few_objects : length image.objects ≤ MAX_OBJECTS
  pub few_imps : length image.imps ≤ MAX_IMPS
  pub few_rows : row_count image ≤ MAX_ENTRIES

-- the image has the selector, and that takes this number of arguments
abbrev pub Takes : ImageParts → Selector → ℕ → Type 0
Takes image s n = option_map colons_of (name_at image.names (selector_number s)) ≡ Some n

-- the classes, selectors and implementations that a change names are the image's
abbrev pub IsSoundChange : ImageParts → Change → Type 0
IsSoundChange image (Add c s i) = HasClass image c × HasSelector image s × HasImp image i
IsSoundChange image (Replace c s i) = HasClass image c × HasSelector image s × HasImp image i
IsSoundChange image (SetImp c s i) = HasClass image c × HasSelector image s × HasImp image i
IsSoundChange image (Exchange c s d t) = HasClass image c × HasSelector image s × HasClass image d × HasSelector image t
IsSoundChange image (Attach k ms cs) = (k < class_total image) × AreListed image ms × AreListed image cs
IsSoundChange image (AddClass k d) = (k < class_total image) × IfSome d (λ e. e < class_total image)
IsSoundChange image (Remove c s) = HasClass image c × HasSelector image s
IsSoundChange image (DisposeClass k) = k < class_total image

-- a send is of the image's selectors, objects and classes, with as many arguments as its selector
-- takes
abbrev pub IsSoundItem : ImageParts → ItemParts → Type 0
IsSoundItem image (SendItem r s args) = IsOf image r × All (IsOf image) args × Takes image s (length args) × All (HasSelector image) (flat_map own_selector (r ∷ args))
IsSoundItem image (ChangeItem c) = IsSoundChange image c
IsSoundItem image (ChangeAllItem cs) = All (IsSoundChange image) cs
