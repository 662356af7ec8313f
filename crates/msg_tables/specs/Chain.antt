-- Chains of superclasses.
use Rattle.std.specs.Prelude.{ℕ, zero, suc, ◌+◌, ◌<◌, if◌then◌else◌, ◌==◌, Bool, List, [], ◌∷◌, Option, Some, None, slice_index_or, length, is_some, is_none, true, false}
use Rattle.std.specs.Option.{option_map_or}
use Rattle.std.specs.List.{list_any}
use Rattle.msg_names.specs.declared.value.ClassRef.{ClassRef}
use Rattle.msg_names.specs.ClassRef.{same_class, above}
use Rattle.msg_tables.specs.declared.presence.Presence.{Presence}

-- the class with this number, if it is present
abbrev pub presence_of : List (Option Presence) → ℕ → Option Presence
presence_of supers k = slice_index_or supers k None

-- whether a class is listed in a class list or was made
abbrev pub is_present : List (Option Presence) → ℕ → Bool
is_present supers k = is_some (presence_of supers k)

-- the superclass of a class reference, if each class that is present has the superclass given here
abbrev pub super_of : List (Option Presence) → ClassRef → Option ClassRef
super_of supers c = option_map_or (λ p. above c p.superclass) (presence_of supers c.class) None

-- a class reference, and at most n above it
abbrev pub chain_up : ℕ → List (Option Presence) → ClassRef → List ClassRef
chain_up zero supers c = c ∷ []
chain_up (suc n) supers c = c ∷ option_map_or (chain_up n supers) (super_of supers c) []

-- A class reference and those above it, up to a root class; nothing for one that isn't present. No
-- more are above it than there are class numbers: at most the other metaclasses and the root class.
unfoldable pub chain_of : List (Option Presence) → ClassRef → List ClassRef
chain_of supers c = if is_present supers c.class then chain_up (length supers) supers c else []

-- the class reference, if its class is present
abbrev pub only_present : List (Option Presence) → ClassRef → Option ClassRef
only_present supers c = if is_present supers c.class then Some c else None

-- the first place of a class in an order
abbrev pub index_in : List ℕ → ℕ → ℕ
index_in [] k = 0
index_in (x ∷ xs) k = if x == k then 0 else suc (index_in xs k)

-- a number that is at least the number of classes above a class reference, if each superclass comes
-- before its subclasses in the order
abbrev pub steps_of : List ℕ → ClassRef → ℕ
steps_of order c = index_in order c.class + (if c.meta then 1 else 0)

-- fewer can be above this class reference than above another
abbrev pub HasFewerSteps : List ℕ → ClassRef → ClassRef → Type 0
HasFewerSteps order c above = steps_of order above < steps_of order c

-- an element of the list
abbrev pub is_member : ClassRef → List ClassRef → Bool
is_member c cs = list_any (same_class c) cs

-- the class reference descends from another, or is it
unfoldable pub descends : List (Option Presence) → ClassRef → ClassRef → Bool
descends supers origin c = is_member origin (chain_of supers c)

-- a class has this superclass
abbrev pub is_directly_below : ℕ → Option Presence → Bool
is_directly_below k x = option_map_or (λ p. option_map_or (λ d. d == k) p.superclass false) x false

-- some class that is present is directly below a class
abbrev pub has_subclass : List (Option Presence) → ℕ → Bool
has_subclass supers k = list_any (is_directly_below k) supers

-- a class has no superclass above it
abbrev pub is_root : List (Option Presence) → ℕ → Bool
is_root supers k = option_map_or (λ p. is_none p.superclass) (presence_of supers k) true
