-- The contracts' view of the links between classes.
use Rattle.std.specs.Prelude.{ℕ, List, Option, map}
use Rattle.msg_tables.specs.declared.preorder.Link.{Link}
use Rattle.msg_tables.specs.declared.preorder.Preorder.TheInside.{Inside}

-- for each class the number of superclasses above it, and the class that comes next
pub record PreorderView : Type 0 where
  pub depths : List ℕ
  pub nexts : List (Option ℕ)

-- the view of the links
abbrev pub preorder_view : Inside → PreorderView
preorder_view p = record { depths = map (λ (l : Link). l.depth) p.links.items; nexts = map (λ (l : Link). l.next) p.links.items }
