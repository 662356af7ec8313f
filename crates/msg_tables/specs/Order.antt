-- An order of the classes that are present, in which each comes after its superclass.
use Rattle.std.specs.Prelude.{◌≡◌, ◌<◌, ◌+◌, ℕ, List, [], ◌∷◌, Option, Some, true, length, slice_get, is_some, if◌then◌else◌}
use Rattle.msg_tables.specs.declared.presence.Presence.{Presence}
use Rattle.msg_tables.specs.Chain.{presence_of, is_present}

-- a class is before a place of the order
pub record StandsBefore (order : List ℕ) (place k : ℕ) : Type 0 where
  pub at : ℕ
  pub before : at < place
  pub is : slice_get order at ≡ Some k

-- the number of classes that are present
abbrev pub present_count : List (Option Presence) → ℕ
present_count [] = 0
present_count (x ∷ xs) = (if is_some x then 1 else 0) + present_count xs

pub record IsOrder (supers : List (Option Presence)) (order : List ℕ) : Type 0 where
  -- the classes in the order are present, and their superclasses come before them
  pub present : (place k : ℕ) → slice_get order place ≡ Some k → is_present supers k ≡ true
  pub above : (place k d : ℕ) (p : Presence) → slice_get order place ≡ Some k → presence_of supers k ≡ Some p → p.superclass ≡ Some d → StandsBefore order place d
  -- and all classes that are present are in the order, once
  pub whole : (k : ℕ) → is_present supers k ≡ true → StandsBefore order (length order) k
  pub count : length order ≡ present_count supers
