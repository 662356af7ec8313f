-- A walk over a class and those below it.
use Rattle.std.specs.Prelude.{◌≡◌, ◌<◌, ◌≤◌, ℕ, zero, suc, List, [], ◌∷◌, Option, Some, None, IfSome, if◌then◌else◌, length, nat_lt, true}
use Rattle.msg_tables.specs.declared.presence.Presence.{Presence}
use Rattle.msg_tables.specs.declared.walk.Walk.TheInside.{Inside}
use Rattle.msg_tables.specs.After.{of_class}
use Rattle.msg_tables.specs.Chain.{is_present, descends}
use Rattle.msg_tables.specs.PreorderView.{PreorderView}
use Rattle.msg_tables.specs.Preorder.{AreOnce, HavePreorder, depth_at, is_in, next_at}

-- a class, if it is deeper than d
abbrev pub if_deeper : (ℕ → ℕ) → ℕ → Option ℕ → Option ℕ
if_deeper depth d None = None
if_deeper depth d (Some k) = if nat_lt d (depth k) then Some k else None

-- a class and those to which links lead from it, as long as each is deeper than d; at most n
abbrev pub walk : (ℕ → ℕ) → (ℕ → Option ℕ) → ℕ → ℕ → Option ℕ → List ℕ
walk depth next d zero at = []
walk depth next d (suc n) None = []
walk depth next d (suc n) (Some k) = k ∷ walk depth next d n (if_deeper depth d (next k))

-- these are all to which the links lead
abbrev pub IsWalkOver : (ℕ → ℕ) → (ℕ → Option ℕ) → ℕ → Option ℕ → List ℕ → Type 0
IsWalkOver depth next d at [] = at ≡ None
IsWalkOver depth next d at (k ∷ ks) = (at ≡ Some k) × IsWalkOver depth next d (if_deeper depth d (next k)) ks

-- the contracts' view of a walk: the classes that it has still to visit
abbrev pub classes_of : Inside → List ℕ
classes_of w =
    walk (depth_at w.preorder.now.depths) (next_at w.preorder.now.nexts) w.depth (length w.preorder.now.depths) w.next

-- the links from a class lead to one that has a depth
abbrev pub HasLinks : PreorderView → ℕ → Type 0
HasLinks p k = (k < length p.nexts) × IfSome (next_at p.nexts k) (λ j. j < length p.depths)

-- the invariant of a walk: it ends
pub record IsWalk (w : Inside) : Type 0 where
  pub classes : List ℕ
  pub over : IsWalkOver (depth_at w.preorder.now.depths) (next_at w.preorder.now.nexts) w.depth w.next classes
  pub linked : (k : ℕ) → is_in k classes ≡ true → HasLinks w.preorder.now k
  pub few : length classes ≤ length w.preorder.now.depths

-- a class is one of those in such an order
abbrev pub CanBeWalked : PreorderView → ℕ → Type 0
CanBeWalked p class = (supers : List (Option Presence)) × HavePreorder supers p.depths p.nexts × (is_present supers class ≡ true)

-- whatever classes are in this order, a class that is present and those below it are these
abbrev pub AreAllBelow : PreorderView → ℕ → List ℕ → Type 0
AreAllBelow p class found = (supers : List (Option Presence)) → HavePreorder supers p.depths p.nexts → is_present supers class ≡ true
    → (k : ℕ) → is_in k found ≡ descends supers (of_class class) (of_class k)

-- a class is the first of these, each of which is among them once
abbrev pub AreFirstAndOnce : ℕ → List ℕ → Type 0
AreFirstAndOnce class found = AreOnce found × (rest : List ℕ) × (found ≡ class ∷ rest)
