-- The parts of an image of the program.
use Rattle.std.specs.Prelude.{ℕ, ◌*◌, List, [], ◌∷◌, Option, drop, length, map, string_bytes}
use Rattle.msg_tables.specs.Attached.{categories_in}
use Rattle.msg_tables.specs.Methods.{MethodsOf}
use Rattle.msg_image.specs.Items.{ItemParts, SendItem, ChangeItem, ChangeAllItem}
use Rattle.msg_image.specs.Parts.{Add, Sub, Mul, Eq, Lt, Expression, Expressions, Const, Me, Arg, Two, If, Send, Super, in_row, ClassParts, ObjectParts, ImpParts, ImageParts}
use Rattle.msg_image.specs.declared.expr.Expr.{Expr, fold-Expr}
use Rattle.msg_image.specs.declared.expr.Expr.TheOpen.{Expr-F}
use Rattle.msg_image.specs.declared.image.Imp.{Imp}
use Rattle.msg_image.specs.declared.change.Item.{Item}
use Rattle.msg_image.specs.declared.change.Item.TheVariants as items
use Rattle.msg_image.specs.declared.image.Object.{Object}
use Rattle.msg_image.specs.declared.image.Image.TheInside.{Inside}

-- one level of an expression, with each expression inside already seen
abbrev pub expr_step : Expr-F Expression → Expression
expr_step (Expr-F.Const v) = Const v
expr_step Expr-F.Me = Me
expr_step (Expr-F.Arg k) = Arg k
expr_step (Expr-F.Add a b) = Two Add a.value b.value
expr_step (Expr-F.Sub a b) = Two Sub a.value b.value
expr_step (Expr-F.Mul a b) = Two Mul a.value b.value
expr_step (Expr-F.Eq a b) = Two Eq a.value b.value
expr_step (Expr-F.Lt a b) = Two Lt a.value b.value
expr_step (Expr-F.If c a b) = If c.value a.value b.value
expr_step (Expr-F.Send a s args) = Send a.value s (in_row args.items)
expr_step (Expr-F.Super s args) = Super s (in_row args.items)

-- an expression without its pointers
abbrev pub plain : Expr → Expression
plain = fold-Expr Expression expr_step

-- several
abbrev pub plain_all : List Expr → Expressions
plain_all es = in_row (map plain es)

-- listed classes, by their names and what tables are opened of
abbrev pub named_classes : List (List ℕ) → List (Option ℕ) → List MethodsOf → List ClassParts
named_classes (name ∷ names) (d ∷ ds) (own ∷ meta ∷ ls) = record { name = name; superclass = d; methods = own.methods; class_methods = meta.methods } ∷ named_classes names ds ls
named_classes _ _ _ = []

-- an object without its pointers
abbrev pub object_parts : Object → ObjectParts
object_parts o = record { name = string_bytes o.name; class = o.class }

-- an implementation without its pointers
abbrev pub imp_parts : Imp → ImpParts
imp_parts i = record { home = i.home; args = i.args; body = plain i.body }

-- an image without its pointers
abbrev pub image_parts : Inside → ImageParts
image_parts i = record {
  names = i.names;
  classes = named_classes (map string_bytes i.listed.items) i.origin.superclasses i.origin.lists;
  made = map string_bytes i.made.items;
  categories = categories_in (drop (2 * length i.origin.superclasses) i.origin.lists);
  objects = map object_parts i.objects.items;
  imps = map imp_parts i.imps.items;
}

-- an item without its pointers
abbrev pub item_parts : Item → ItemParts
item_parts (items.Send r s args) = SendItem r s args.items
item_parts (items.Change x) = ChangeItem x
item_parts (items.ChangeAll xs) = ChangeAllItem xs.items
