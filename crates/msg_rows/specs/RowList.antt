-- The rows of one class reference, as pairs of a selector and an implementation.
use Rattle.std.specs.Prelude.{◌≡◌, ◌<◌, ◌≤◌, ℕ, suc, ◌+◌, ◌-◌, ◌==◌, ◌&&◌, List, [], ◌∷◌, ◌++◌, Option, Some, None, option_map, map, if◌then◌else◌, is_none, length, replicate, reverse, slice_get, slice_index_or, slice_set, take, drop}
use Rattle.msg_names.specs.declared.value.ImpRef.{ImpRef}
use Rattle.msg_names.specs.declared.value.Selector.{Selector}
use Rattle.msg_names.specs.Number.{selector_number, imp_number}
use Rattle.msg_rows.specs.Methods.{method_numbers}

-- the rows, oldest first, and the number of further rows with room
pub record RowList : Type 0 where
  pub rows : List (ℕ × ℕ)
  pub room : ℕ

-- the rows alone
abbrev pub rows_of : List RowList → List (List (ℕ × ℕ))
rows_of lists = map (λ (r : RowList). r.rows) lists

-- the number of rows that each list has room for: those that it has, and more
abbrev pub rooms_of : List RowList → List ℕ
rooms_of lists = map (λ (r : RowList). length r.rows + r.room) lists

-- no list has less room than it had
pub record HaveGrown (old new : List ℕ) : Type 0 where
  pub at : (k : ℕ) → slice_index_or old k 0 ≤ slice_index_or new k 0

-- one more row
abbrev pub with_row : Selector → ImpRef → List (ℕ × ℕ) → List (ℕ × ℕ)
with_row s i ms = ms ++ (selector_number s, imp_number i) ∷ []

-- more rows
abbrev pub with_rows : List (ℕ × ℕ) → List (ℕ × ℕ) → List (ℕ × ℕ)
with_rows more ms = ms ++ more

-- one of the lists is changed, and the others stay the same
abbrev pub changed_at : (List (ℕ × ℕ) → List (ℕ × ℕ)) → ℕ → List (List (ℕ × ℕ)) → List (List (ℕ × ℕ))
changed_at f at lists = slice_set lists at (f (slice_index_or lists at []))

-- the later of two, if there is one
abbrev pub or_else : Option ℕ → Option ℕ → Option ℕ
or_else (Some i) o = Some i
or_else None o = o

-- the implementation in the last row of a selector
abbrev pub own_in : ℕ → List (ℕ × ℕ) → Option ℕ
own_in s [] = None
own_in s (m ∷ ms) = or_else (own_in s ms) (if m.0 == s then Some m.1 else None)

-- the place of the last row of a selector
abbrev pub last_index : ℕ → List (ℕ × ℕ) → Option ℕ
last_index s [] = None
last_index s (m ∷ ms) = or_else (option_map suc (last_index s ms)) (if m.0 == s then Some 0 else None)

-- the last row
abbrev pub last_row : List (ℕ × ℕ) → Option (ℕ × ℕ)
last_row ms = slice_get ms (length ms - 1)

-- the list without this number of rows at the end
abbrev pub without_last : ℕ → List (ℕ × ℕ) → List (ℕ × ℕ)
without_last n ms = take (length ms - n) ms

-- the list without the last row of a selector
abbrev pub without_row : ℕ → List (ℕ × ℕ) → List (ℕ × ℕ)
without_row s [] = []
without_row s (m ∷ ms) = if (m.0 == s) && is_none (own_in s ms) then ms else m ∷ without_row s ms

-- the list with a row at a place
abbrev pub with_row_at : ℕ → Selector → ImpRef → List (ℕ × ℕ) → List (ℕ × ℕ)
with_row_at at s i ms = take at ms ++ (selector_number s, imp_number i) ∷ drop at ms

-- another implementation in the last row of a selector
abbrev pub set_last : ℕ → ℕ → List (ℕ × ℕ) → List (ℕ × ℕ)
set_last s i [] = []
set_last s i (m ∷ ms) = (if (m.0 == s) && is_none (own_in s ms) then (s, i) else m) ∷ set_last s i ms

-- the same for the program's selector and implementation
abbrev pub with_imp : Selector → ImpRef → List (ℕ × ℕ) → List (ℕ × ℕ)
with_imp s i ms = set_last (selector_number s) (imp_number i) ms

-- more methods
abbrev pub with_methods : List (Selector × ImpRef) → List (ℕ × ℕ) → List (ℕ × ℕ)
with_methods methods ms = with_rows (method_numbers methods) ms

-- more methods, from the last to the first
abbrev pub with_methods_reversed : List (Selector × ImpRef) → List (ℕ × ℕ) → List (ℕ × ℕ)
with_methods_reversed methods ms = ms ++ reverse (method_numbers methods)

-- ---- lists of rows, before and after

-- one of the lists has no room for this number of further rows
abbrev pub LacksRoomAt : List RowList → ℕ → ℕ → Type 0
LacksRoomAt lists at n = slice_index_or (rooms_of lists) at 0 < length (slice_index_or (rows_of lists) at []) + n

-- there is room for as many rows as there was
abbrev pub KeepsRoom : RowList → RowList → Type 0
KeepsRoom old new = length old.rows + old.room ≤ length new.rows + new.room

-- the same in each of the lists
abbrev pub KeepRoom : List RowList → List RowList → Type 0
KeepRoom old new = HaveGrown (rooms_of old) (rooms_of new)

-- one of the lists was changed, and the others stayed the same
abbrev pub ChangesAt : (List (ℕ × ℕ) → List (ℕ × ℕ)) → ℕ → List RowList → List RowList → Type 0
ChangesAt f at old new = rows_of new ≡ changed_at f at (rows_of old)

-- methods were attached to the list of a class and to that of its metaclass, which comes next, each
-- from the last to the first
abbrev pub Attaches : ℕ → List (Selector × ImpRef) → List (Selector × ImpRef) → List RowList → List RowList → Type 0
Attaches at methods class_methods old new = rows_of new ≡ slice_set
    (slice_set (rows_of old) at (with_methods_reversed methods (slice_index_or (rows_of old) at [])))
    (at + 1) (with_methods_reversed class_methods (slice_index_or (rows_of old) (at + 1) []))

-- lists without rows were added at the end
abbrev pub GainsEmpty : List RowList → List RowList → Type 0
GainsEmpty old new = rows_of new ≡ rows_of old ++ replicate (length new - length old) []

-- the place and the implementation of the last row of a selector in one of the lists, if it has one
pub record IsOwnRow (lists : List RowList) (at : ℕ) (s : Selector) (o : Option (ℕ × ImpRef)) : Type 0 where
  pub own : option_map (λ r. imp_number r.1) o ≡ own_in (selector_number s) (slice_index_or (rows_of lists) at [])
  pub last : option_map (λ r. r.0) o ≡ last_index (selector_number s) (slice_index_or (rows_of lists) at [])

-- the implementation in the last row of a selector in one of the lists, if it has one
abbrev pub IsOwnIn : List RowList → ℕ → Selector → Option ImpRef → Type 0
IsOwnIn lists at s o = option_map imp_number o ≡ own_in (selector_number s) (slice_index_or (rows_of lists) at [])

-- the implementation that would be in the last row of a selector if that row were removed
abbrev pub IsCoveredIn : List RowList → ℕ → Selector → Option ImpRef → Type 0
IsCoveredIn lists at s o = option_map imp_number o ≡ own_in (selector_number s) (without_row (selector_number s) (slice_index_or (rows_of lists) at []))
