-- The data of a tree.
use Rattle.std.specs.Prelude.{ℕ, List, [], ◌∷◌, map}
use Rattle.std.specs.Borrow.{Bor}
use Rattle.serde_json.specs.Data.{Data, null, boolean, number, string, array, object, Items, Members, no_members, put}
use Rattle.serde_json.specs.View.{number_view, items_of}
use Rattle.msg_json.specs.declared.tree.Tree.{Tree, fold-Tree}
use Rattle.msg_json.specs.declared.tree.Tree.TheOpen.{Tree-F}

-- The members go in one after another, so the last value of a key stays.
abbrev pub with_members : Members → List (Bor (List ℕ) × Data) → Members
with_members found [] = found
with_members found (m ∷ ms) = with_members (put m.0.now m.1 found) ms

-- one level, with the data of each value inside
abbrev pub view_step : Tree-F Data → Data
view_step Tree-F.Null = null
view_step (Tree-F.Bool b) = boolean b
view_step (Tree-F.Number x) = number (number_view x)
view_step (Tree-F.Text s) = string s.now
view_step (Tree-F.Array vs) = array (items_of vs.now)
view_step (Tree-F.Object ms) = object (with_members no_members ms.now)

-- the data of a tree, which is serde_json's value of the same text
abbrev pub view : Tree → Data
view = fold-Tree Data view_step

abbrev pub items_view : List Tree → Items
items_view vs = items_of (map view vs)

-- the data of members
abbrev pub entries : List (Bor (List ℕ) × Tree) → List (Bor (List ℕ) × Data)
entries ms = map (λ m. (m.0, view m.1)) ms

abbrev pub members_view : List (Bor (List ℕ) × Tree) → Members
members_view ms = with_members no_members (entries ms)
