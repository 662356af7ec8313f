-- The memory that lists of changes and their ways back need.
use Rattle.std.specs.Prelude.{◌≡◌, ◌<◌, ◌≤◌, ◌⊎◌, ℕ, Bool, true, false, List, [], ◌∷◌, length, slice_index_or, take}
use Rattle.msg_names.specs.ClassRef.{slot_of}
use Rattle.msg_names.specs.declared.value.ClassRef.{ClassRef}
use Rattle.msg_tables.specs.ListLaws.{HoldsAtMost, IsMadeAt}
use Rattle.msg_tables.specs.Log.{Log, table}
use Rattle.msg_tables.specs.Several.{and_all}
use Rattle.msg_tables.specs.Undo.{undo_all}
use Rattle.msg_tables.specs.declared.change.Change.{Change}
use Rattle.msg_tables.specs.declared.change.Change.TheVariants.{SetImp, Exchange, AddClass, Remove}

-- the number of rows of a class reference that there is room for
abbrev pub room_in : List ℕ → ClassRef → ℕ
room_in rooms c = slice_index_or rooms (slot_of c) 0

-- there is room for as many rows of each class reference as there are at any time while a list is
-- made
abbrev pub HaveRoomFor : List ℕ → Log → List Change → Type 0
HaveRoomFor rooms h xs = (c : ClassRef) → HoldsAtMost (room_in rooms c) c h xs

-- there is too little room for the entries that a list writes, or for the rows of some class
-- reference
abbrev pub LackRoomFor : List ℕ → ℕ → Log → List Change → Type 0
LackRoomFor rooms room h xs = (room < length (undo_all (table h) xs)) ⊎ ((c : ClassRef) × (HoldsAtMost (room_in rooms c) c h xs → ⊥))

-- a way back writes no more entries than its list did
abbrev pub WayBackWritesNoMore : Type 0
WayBackWritesNoMore = (h : Log) (xs : List Change) (k : ℕ) → IsMadeAt h xs → length (undo_all (table (and_all h xs)) (take k (undo_all (table h) xs))) ≤ length (undo_all (table h) xs)

-- So it needs no memory: room for the rows that each class reference had at any time while its list
-- was made, and for as many entries, is enough for it, as far as it is made.
abbrev pub WayBackWantsNoMemory : Type 0
WayBackWantsNoMemory = (h : Log) (xs : List Change) (rooms : List ℕ) (room k : ℕ) → IsMadeAt h xs → HaveRoomFor rooms h xs → length (undo_all (table h) xs) ≤ room
    → LackRoomFor rooms room (and_all h xs) (take k (undo_all (table h) xs)) → ⊥

-- ---- changes that add no row

-- a method that is set or removed, an exchange, and a class that is made
abbrev pub adds_no_row : Change → Bool
adds_no_row (SetImp c s i) = true
adds_no_row (Exchange c s d u) = true
adds_no_row (Remove c s) = true
adds_no_row (AddClass k d) = true
adds_no_row _ = false

-- if each class reference has room for its rows and there is room for two entries, such changes
-- need no memory
abbrev pub NoRowWantsNoMemory : Type 0
NoRowWantsNoMemory = (h : Log) (rooms : List ℕ) (room : ℕ) (x : Change) → adds_no_row x ≡ true → HaveRoomFor rooms h [] → 2 ≤ room → LackRoomFor rooms room h (x ∷ []) → ⊥
