-- The contracts' view of `Tables`.
use Rattle.std.specs.Prelude.{◌≡◌, ◌<◌, ◌≤◌, ◌+◌, ℕ, length, List, [], ◌∷◌, Option, Some, None, slice_index_or, true}
use Rattle.std.specs.Option.{option_map_or}
use Rattle.msg_names.specs.ClassRef.{slot_of}
use Rattle.msg_names.specs.Number.{selector_number}
use Rattle.msg_names.specs.declared.value.ClassRef.{ClassRef}
use Rattle.msg_names.specs.declared.value.Selector.{Selector}
use Rattle.msg_tables.specs.Chain.{is_present}
use Rattle.msg_tables.specs.declared.presence.Presence.{Presence}
use Rattle.msg_tables.specs.Origin.{CountsView, are_listed, last_imp}
use Rattle.msg_tables.specs.declared.limits.Limits.{Limits}
use Rattle.msg_rows.specs.RowList.{own_in}

-- the contracts' view of tables
pub record TablesView : Type 0 where
  -- for each class number the class with its superclass, if it is present
  pub supers : List (Option Presence)
  -- the classes that are present, each after its superclass
  pub order : List ℕ
  -- the number of classes that were listed when tables were opened
  pub listed : ℕ
  -- the rows of each class reference, at its place, oldest first
  pub lists : List (List (ℕ × ℕ))
  -- the number of rows of each class reference that there is room for
  pub rooms : List ℕ
  pub counts : Option CountsView
  pub limits : Limits
  pub row_count : ℕ
  pub change_count : ℕ

-- the same tables, except for room
abbrev pub IsKept : TablesView → TablesView → Type 0
IsKept old new = new ≡ record old { rooms = new.rooms }

-- the rows kept for a class reference
abbrev pub kept : List (List (ℕ × ℕ)) → ClassRef → List (ℕ × ℕ)
kept lists c = slice_index_or lists (slot_of c) []

-- the first of the class references that has the method, and its implementation
abbrev pub kept_method : List (List (ℕ × ℕ)) → List ClassRef → ℕ → Option (ClassRef × ℕ)
kept_method lists [] s = None
kept_method lists (c ∷ cs) s = option_map_or (λ i. Some (c, i)) (own_in s (kept lists c)) (kept_method lists cs s)

-- the number of rows of a class reference that there is room for
abbrev pub room_of : TablesView → ClassRef → ℕ
room_of t c = slice_index_or t.rooms (slot_of c) 0

-- a class reference has no room for this number of further rows
abbrev pub LacksRoom : TablesView → ClassRef → ℕ → Type 0
LacksRoom t c n = room_of t c < length (kept t.lists c) + n

-- each class reference has room for the rows that it has
abbrev pub IsWithinRoom : TablesView → Type 0
IsWithinRoom t = (c : ClassRef) → length (kept t.lists c) ≤ room_of t c

-- the implementation in the own row of a class reference and a selector
abbrev pub own_of : TablesView → ClassRef → Selector → Option ℕ
own_of t c s = own_in (selector_number s) (kept t.lists c)

-- the class is present
abbrev pub HasClass : TablesView → ℕ → Type 0
HasClass t k = is_present t.supers k ≡ true

-- the implementations of the methods exist
abbrev pub HaveListedImps : TablesView → List (ℕ × ℕ) → Type 0
HaveListedImps t methods = are_listed (last_imp t.counts) methods ≡ true
