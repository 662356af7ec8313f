-- The parts of an image, with no pointers.
use Rattle.std.specs.Prelude.{ℕ, suc, ◌+◌, ◌++◌, length, map, List, [], ◌∷◌, Option, Some, None, slice_get, if◌then◌else◌}
use Rattle.std.specs.Option.{option_map_or}
use Rattle.msg_order.specs.Superclasses.{depth_of}
use Rattle.msg_names.specs.ClassRef.{above}
use Rattle.msg_names.specs.declared.value.Selector.{Selector}
use Rattle.msg_names.specs.Number.{selector_of}
use Rattle.msg_names.specs.declared.value.Value.{Value}
use Rattle.msg_names.specs.declared.value.ClassRef.{ClassRef}
use Rattle.msg_names.specs.declared.value.ObjectRef.{ObjectRef}
use Rattle.msg_tables.specs.declared.origin.Category.{Category}

-- the operations on two values
pub data Op : Type 0 where
  Add Sub Mul Eq Lt : Op

mutual
  -- an expression of a body
  pub data Expression : Type 0 where
    Const : Value → Expression
    Me : Expression
    Arg : ℕ → Expression
    Two : Op → Expression → Expression → Expression
    If : Expression → Expression → Expression → Expression
    Send : Expression → Selector → Expressions → Expression
    Super : Selector → Expressions → Expression

  -- the arguments of a send, from the first on
  pub data Expressions : Type 0 where
    NoMore : Expressions
    More : Expression → Expressions → Expressions

-- those of a list
abbrev pub in_row : List Expression → Expressions
in_row [] = NoMore
in_row (e ∷ es) = More e (in_row es)

-- a listed class
pub record ClassParts : Type 0 where
  pub name : List ℕ
  pub superclass : Option ℕ
  pub methods : List (ℕ × ℕ)
  pub class_methods : List (ℕ × ℕ)

-- an object
pub record ObjectParts : Type 0 where
  pub name : List ℕ
  pub class : ℕ

-- an implementation, with the class reference in whose source it is
pub record ImpParts : Type 0 where
  pub home : ClassRef
  pub args : ℕ
  pub body : Expression

-- an image
pub record ImageParts : Type 0 where
  -- the names of the selectors, in the order of their numbers
  pub names : List (List ℕ)
  -- the listed classes, which are numbered first
  pub classes : List ClassParts
  -- the names of the classes that may be made at run time, which are numbered after them
  pub made : List (List ℕ)
  pub categories : List Category
  pub objects : List ObjectParts
  pub imps : List ImpParts

-- how many classes have numbers: the listed ones, and those that may be made
abbrev pub class_total : ImageParts → ℕ
class_total image = length image.classes + length image.made

-- the names of the classes, in the order of their numbers
abbrev pub class_names : ImageParts → List (List ℕ)
class_names image = map (λ (c : ClassParts). c.name) image.classes ++ image.made

-- the selector of `forwardingTargetForSelector:`
abbrev pub forwarding_selector : Selector
forwarding_selector = selector_of 1

-- the superclass of a class reference
abbrev pub superclass_in : ImageParts → ClassRef → Option ClassRef
superclass_in image c = of_listed (slice_get image.classes c.class)
  where
    of_listed : Option ClassParts → Option ClassRef
    of_listed None = None
    of_listed (Some k) = above c k.superclass

-- the superclasses of the listed classes
abbrev pub superclasses : ImageParts → List (Option ℕ)
superclasses image = map (λ (c : ClassParts). c.superclass) image.classes

-- how many superclasses are above a listed class
abbrev pub depth_in : ImageParts → ℕ → ℕ
depth_in image k = depth_of (superclasses image) k

-- one more than so many are above a superclass, and none if there is no superclass
abbrev pub one_deeper : ImageParts → Option ℕ → ℕ
one_deeper image superclass = option_map_or (λ d. suc (depth_in image d)) superclass 0

-- the object of a number, if there is one
abbrev pub object_at : ImageParts → ObjectRef → Option ObjectParts
object_at image o = slice_get image.objects o.object

-- the listed methods of a class reference, whose class has these parts
abbrev pub methods_of : ClassRef → ClassParts → List (ℕ × ℕ)
methods_of c k = if c.meta then k.class_methods else k.methods

-- the listed methods of a class reference; a class that may be made has none
abbrev pub methods_in : ImageParts → ClassRef → List (ℕ × ℕ)
methods_in image c = option_map_or (methods_of c) (slice_get image.classes c.class) []
