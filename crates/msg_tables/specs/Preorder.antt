-- The classes that are present, in an order in which those below a class come right after it.
use Rattle.std.specs.Prelude.{◌≡◌, ◌<◌, ◌≤◌, ◌==◌, ℕ, suc, slice_set, List, [], ◌∷◌, Option, Some, None, IfSome, Bool, true, false, if◌then◌else◌, length, nat_lt, slice_index_or}
use Rattle.std.specs.List.{list_any}
use Rattle.msg_tables.specs.declared.limits.TheConstants.{MAX_CLASSES}
use Rattle.msg_tables.specs.declared.presence.Presence.{Presence}
use Rattle.msg_tables.specs.After.{of_class}
use Rattle.msg_tables.specs.Chain.{is_present, descends, has_subclass}
use Rattle.msg_tables.specs.Order.{present_count}
use Rattle.msg_tables.specs.PreorderView.{PreorderView}

-- an element of the list
abbrev pub is_in : ℕ → List ℕ → Bool
is_in k ks = list_any (λ x. x == k) ks

-- each element is in the list once
abbrev pub AreOnce : List ℕ → Type 0
AreOnce [] = Unit {0}
AreOnce (k ∷ ks) = (is_in k ks ≡ false) × AreOnce ks

-- the classes that a list begins with, as long as they are deeper
abbrev pub deeper : (ℕ → ℕ) → ℕ → List ℕ → List ℕ
deeper depth d [] = []
deeper depth d (k ∷ ks) = if nat_lt d (depth k) then k ∷ deeper depth d ks else []

-- the depth of the first of a list
abbrev pub first_depth : (ℕ → ℕ) → List ℕ → ℕ
first_depth depth [] = 0
first_depth depth (k ∷ ks) = depth k

-- of some classes, those below a class are the deeper ones that come right after it
pub record IsFollowed (supers : List (Option Presence)) (depth : ℕ → ℕ) (all : List ℕ) (k : ℕ) (ks : List ℕ) : Type 0 where
  pub below : (j : ℕ) → is_in j all ≡ true → is_in j (k ∷ deeper depth (depth k) ks) ≡ descends supers (of_class k) (of_class j)
  pub once : is_in k ks ≡ false
  pub step : first_depth depth ks ≤ suc (depth k)

-- this holds for each class of a list, with those that come after it
abbrev pub AreFollowed : List (Option Presence) → (ℕ → ℕ) → List ℕ → List ℕ → Type 0
AreFollowed supers depth all [] = Unit {0}
AreFollowed supers depth all (k ∷ ks) = IsFollowed supers depth all k ks × AreFollowed supers depth all ks

-- the class that comes next, unless it is a root class
abbrev pub next_in : (ℕ → ℕ) → List ℕ → Option ℕ
next_in depth [] = None
next_in depth (k ∷ ks) = if depth k == 0 then None else Some k

-- the link of each class is to the next one
abbrev pub AreLinked : (ℕ → ℕ) → (ℕ → Option ℕ) → List ℕ → Type 0
AreLinked depth next [] = Unit {0}
AreLinked depth next (k ∷ ks) = (next k ≡ next_in depth ks) × AreLinked depth next ks

-- the depth of a class, and the class that comes next
abbrev pub depth_at : List ℕ → ℕ → ℕ
depth_at depths k = slice_index_or depths k 0

abbrev pub next_at : List (Option ℕ) → ℕ → Option ℕ
next_at nexts k = slice_index_or nexts k None

-- the classes of a list are in such an order, a root class first
pub record IsPreorder (supers : List (Option Presence)) (depths : List ℕ) (nexts : List (Option ℕ)) (ks : List ℕ) : Type 0 where
  pub followed : AreFollowed supers (depth_at depths) ks ks
  pub linked : AreLinked (depth_at depths) (next_at nexts) ks
  pub root : first_depth (depth_at depths) ks ≡ 0
  pub shallow : (k : ℕ) → is_in k ks ≡ true → depth_at depths k < length ks

-- the classes that are present are in such an order, each once
pub record HavePreorder (supers : List (Option Presence)) (depths : List ℕ) (nexts : List (Option ℕ)) : Type 0 where
  pub classes : List ℕ
  pub is : IsPreorder supers depths nexts classes
  pub present : (k : ℕ) → is_in k classes ≡ is_present supers k
  pub count : length classes ≡ present_count supers
  pub depth_room : length depths ≡ length supers
  pub next_room : length nexts ≡ length supers

-- a class is placed: a root class before all others, and another right after its superclass
abbrev pub depths_with : List ℕ → ℕ → Option ℕ → List ℕ
depths_with depths k None = slice_set depths k 0
depths_with depths k (Some d) = slice_set depths k (suc (depth_at depths d))

abbrev pub nexts_with : List (Option ℕ) → ℕ → Option ℕ → List (Option ℕ)
nexts_with nexts k None = slice_set nexts k None
nexts_with nexts k (Some d) = slice_set (slice_set nexts k (next_at nexts d)) d (Some k)

-- a class that came right after its superclass is skipped
pub record LeavesAfter (nexts : List (Option ℕ)) (k : ℕ) (superclass : Option ℕ) (left : List (Option ℕ)) : Type 0 where
  pub above : ℕ
  pub is : superclass ≡ Some above
  pub first : next_at nexts above ≡ Some k
  pub rest : left ≡ slice_set nexts above (next_at nexts k)

-- ---- what the program keeps of it

-- there is room for a class, and its depth is less than the number of classes
abbrev pub CanBeSuperclass : PreorderView → ℕ → Type 0
CanBeSuperclass p d = (d < length p.depths) × (d < length p.nexts) × (depth_at p.depths d < MAX_CLASSES)

-- this is the order from before a class left that has no class below it; its superclass is given
pub record CanBeForgotten (p : PreorderView) (k : ℕ) (superclass : Option ℕ) (supers : List (Option Presence)) : Type 0 where
  pub was : List (Option Presence)
  pub order : HavePreorder was p.depths p.nexts
  pub here : is_present was k ≡ true
  pub above : IfSome superclass (λ d. is_present was d ≡ true)
  pub leaf : has_subclass was k ≡ false
  pub is : supers ≡ slice_set was k None
