-- Laws of lists of changes, which are made as one or undone.
use Rattle.std.specs.Prelude.{◌≡◌, ◌≤◌, ◌+◌, ◌||◌, ℕ, List, length, option_map, ◌∷◌, [], ◌++◌, Some, None, true, false}
use Rattle.msg_names.specs.declared.value.ClassRef.{ClassRef}
use Rattle.msg_tables.specs.Chain.{is_member}
use Rattle.msg_names.specs.ClassRef.{same_class}
use Rattle.msg_tables.specs.Log.{Log, and_then, chain_at, table, lookup}
use Rattle.msg_tables.specs.Origin.{IsSound}
use Rattle.msg_tables.specs.Refusal.{IsLog, AreAccepted, refusal}
use Rattle.msg_tables.specs.Several.{and_all, refused_from, is_affected_by_all, is_below, is_of_one, made_by_all, written_by_all}
use Rattle.msg_tables.specs.Undo.{AreAlike, AreFit, AreNumbered, count_at, undo_all}
use Rattle.msg_tables.specs.declared.change.Change.{Change}
use Rattle.msg_tables.specs.declared.fault.ChangeFault.{ChangeFault}

-- if no change of a list would be refused, each is accepted after those before it
abbrev pub AcceptedWhereNoneIsRefused : Type 0
AcceptedWhereNoneIsRefused = (h : Log) (xs : List Change) (k : ℕ) → refused_from k h xs ≡ None → AreAccepted h xs

-- if each change is accepted after those before it, none is refused
abbrev pub NoneIsRefusedWhereAccepted : Type 0
NoneIsRefusedWhereAccepted = (h : Log) (xs : List Change) (k : ℕ) → AreAccepted h xs → refused_from k h xs ≡ None

-- the changes before a place are accepted one after another, and the change at the place is then
-- refused for this fault
abbrev pub IsFirstRefused : Log → List Change → ℕ → ChangeFault → Type 0
IsFirstRefused h xs n f = (before : List Change) × (x : Change) × (later : List Change) × (xs ≡ before ++ x ∷ later) × (length before ≡ n)
    × AreAccepted h before × (refusal (and_all h before) x ≡ Some f)

-- the change that is named is the first that would be refused, and the fault is its fault
abbrev pub RefusedIsFirst : Type 0
RefusedIsFirst = (h : Log) (xs : List Change) (n : ℕ) (f : ChangeFault) → refused_from 0 h xs ≡ Some (n, f) → IsFirstRefused h xs n f

-- a list of one change is refused as that change, at place 0
abbrev pub OneIsRefusedAsItself : Type 0
OneIsRefusedAsItself = (h : Log) (x : Change) → refused_from 0 h (x ∷ []) ≡ option_map (λ f. (0, f)) (refusal h x)

-- a class reference that no change of an accepted list affects finds what it found before
abbrev pub ListAffectsNoMore : Type 0
ListAffectsNoMore = (h : Log) (xs : List Change) (c : ClassRef) (s : ℕ) → IsSound h.origin → IsLog h → refused_from 0 h xs ≡ None
    → is_affected_by_all h xs c ≡ false → lookup (and_all h xs) c s ≡ lookup h c s

-- what is below a class reference stays there while changes are made, unless its class is disposed
-- of
abbrev pub WhatIsBelowStays : Type 0
WhatIsBelowStays = (h : Log) (xs : List Change) (c p : ClassRef) → IsSound h.origin → IsLog h → AreAccepted h xs
    → is_of_one (made_by_all xs) c ≡ false → is_member p (chain_at h c) ≡ true → is_member p (chain_at (and_all h xs) c) ≡ true

-- after all changes of a list are made, a class reference that one of them affects belongs to a
-- class that was made or disposed of, or it is at or below a place at which one wrote
abbrev pub AffectedIsAtItsPlaces : Type 0
AffectedIsAtItsPlaces = (h : Log) (xs : List Change) (c : ClassRef) → IsSound h.origin → IsLog h → AreAccepted h xs → is_affected_by_all h xs c ≡ true
    → (is_of_one (made_by_all xs) c || is_below (and_all h xs) (written_by_all h xs) c) ≡ true

-- a list is accepted at a log, from whose origin tables could be opened and changed
pub record IsMadeAt (h : Log) (xs : List Change) : Type 0 where
  pub sound : IsSound h.origin
  -- each method that was listed at the opening could be set again
  pub fit : AreFit h.origin
  pub log : IsLog h
  pub accepted : AreAccepted h xs
  -- selectors that the list attaches are numbered from 1
  pub numbered : AreNumbered xs

-- Directly after a list its way back is accepted, as long as that many changes are.
abbrev pub WayBackIsAccepted : Type 0
WayBackIsAccepted = (h : Log) (xs : List Change) → IsMadeAt h xs → let ys = undo_all (table h) xs in
    length h.changes + length xs + length ys ≤ h.origin.limits.changes → refused_from 0 (and_all h xs) ys ≡ None

-- the way back restores each lookup
abbrev pub WayBackBringsBackEachLookup : Type 0
WayBackBringsBackEachLookup = (h : Log) (xs : List Change) (c : ClassRef) (s : ℕ) → IsMadeAt h xs
    → lookup (and_all (and_all h xs) (undo_all (table h) xs)) c s ≡ lookup h c s

-- the way back restores each class with its superclass, and for each class reference the
-- implementations of a selector, covered ones too
abbrev pub WayBackBringsBackTheTables : Type 0
WayBackBringsBackTheTables = (h : Log) (xs : List Change) → IsMadeAt h xs → AreAlike (table (and_all (and_all h xs) (undo_all (table h) xs))) (table h)

-- a list and its way back affect the same class references
abbrev pub ListAndWayBackReachTheSame : Type 0
ListAndWayBackReachTheSame = (h : Log) (xs : List Change) (c : ClassRef) → IsMadeAt h xs
    → is_affected_by_all (and_all h xs) (undo_all (table h) xs) c ≡ is_affected_by_all h xs c

-- no class reference ever has more than n rows: neither before a list, nor after any of its changes
abbrev pub HoldsAtMost : ℕ → ClassRef → Log → List Change → Type 0
HoldsAtMost n c h [] = count_at (λ d. same_class d c) (table h).rows ≤ n
HoldsAtMost n c h (x ∷ xs) = (count_at (λ d. same_class d c) (table h).rows ≤ n) × HoldsAtMost n c (and_then h x) xs

-- a number of rows that is enough for a list is enough for its way back
abbrev pub WayBackHoldsNoMore : Type 0
WayBackHoldsNoMore = (h : Log) (xs : List Change) (c : ClassRef) (n : ℕ) → IsMadeAt h xs → HoldsAtMost n c h xs → HoldsAtMost n c (and_all h xs) (undo_all (table h) xs)

-- Every accepted list has a way back. It is accepted directly afterwards, as long as that many
-- changes are, and it restores each lookup.
abbrev pub EveryListHasWayBack : Type 0
EveryListHasWayBack = (h : Log) (xs : List Change) → IsMadeAt h xs → (ys : List Change)
    × (length h.changes + length xs + length ys ≤ h.origin.limits.changes → AreAccepted (and_all h xs) ys)
    × ((c : ClassRef) (s : ℕ) → lookup (and_all (and_all h xs) ys) c s ≡ lookup h c s)
