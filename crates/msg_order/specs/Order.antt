-- An order of classes in which each comes after its superclass.
use Rattle.std.specs.Prelude.{◌≡◌, ◌<◌, ◌+◌, ℕ, List, [], ◌∷◌, Bool, true, false, Option, Some, length, slice_get, slice_index_or, if◌then◌else◌}
use Rattle.msg_order.specs.Superclasses.{super_of}
use Rattle.msg_order.specs.declared.order.Placing.{Placing}

-- a class is before a place of the order
pub record StandsBefore (order : List ℕ) (place k : ℕ) : Type 0 where
  pub at : ℕ
  pub before : at < place
  pub is : slice_get order at ≡ Some k

-- a class is marked
abbrev pub IsMarked : List Bool → ℕ → Type 0
IsMarked marks k = slice_index_or marks k false ≡ true

-- the number of classes that are marked
abbrev pub mark_count : List Bool → ℕ
mark_count [] = 0
mark_count (b ∷ bs) = (if b then 1 else 0) + mark_count bs

-- some of the classes are in the order, each after its superclass, and exactly those are marked
pub record ArePlaced (supers : List (Option ℕ)) (marks : List Bool) (order : List ℕ) : Type 0 where
  pub sizes : length marks ≡ length supers
  pub marked : (place k : ℕ) → slice_get order place ≡ Some k → IsMarked marks k
  pub above : (place k d : ℕ) → slice_get order place ≡ Some k → super_of supers k ≡ Some d → StandsBefore order place d
  pub whole : (k : ℕ) → IsMarked marks k → StandsBefore order (length order) k
  pub count : length order ≡ mark_count marks

-- the classes that were put in order so far are placed
abbrev pub IsPlacing : List (Option ℕ) → Placing → Type 0
IsPlacing supers p = ArePlaced supers p.marks.items p.order.items

-- a class is in the order so far
abbrev pub HasPlaced : Placing → ℕ → Type 0
HasPlaced p k = IsMarked p.marks.items k

-- what is marked stays marked
abbrev pub Stay : List Bool → List Bool → Type 0
Stay old new = (k : ℕ) → IsMarked old k → IsMarked new k

-- all classes are in the order, each once, and after its superclass
pub record IsClassOrder (supers : List (Option ℕ)) (order : List ℕ) : Type 0 where
  pub listed : (place k : ℕ) → slice_get order place ≡ Some k → k < length supers
  pub above : (place k d : ℕ) → slice_get order place ≡ Some k → super_of supers k ≡ Some d → StandsBefore order place d
  pub whole : (k : ℕ) → k < length supers → StandsBefore order (length order) k
  pub count : length order ≡ length supers
