-- The contracts' view of the keeper's copy of what arrays are used for.
use Rattle.std.specs.Prelude.{◌≡◌, ℕ, zero, suc, ◌&&◌, ◌<◌, ◌≤◌, not, List, [], Bool, true, false, length, map, replicate, slice_index_or, slice_set}
use Rattle.std.specs.List.{range_with_len, filter}
use Rattle.msg_model.specs.declared.state.Standing.{Standing}
use Rattle.msg_model.specs.declared.state.Standing.TheVariants.{Free, Live, Retired}
use Rattle.msg_model.specs.State.{awaits}
use Rattle.msg_model.specs.Steps.{everyone}
use Rattle.msg_cache.specs.Keeping.{looked_by}

-- what an array is used for, but not for which class reference, nor since when it is retired
pub data ArrayUse : Type 0 where
  free : ArrayUse
  live : ArrayUse
  -- it is retired, and awaits these senders
  waiting : List Bool → ArrayUse

-- how many senders there may be, what each array is used for, and the free arrays that are still to
-- be taken out of the queue
pub record StandingsView : Type 0 where
  pub senders : ℕ
  pub uses : List ArrayUse
  pub ready : List ℕ

-- of a standing
abbrev pub use_of : Standing → ArrayUse
use_of Free = free
use_of (Live c) = live
use_of (Retired c r awaited) = waiting awaited

abbrev pub use_at : List ArrayUse → ℕ → ArrayUse
use_at uses a = slice_index_or uses a free

abbrev pub is_free_use : ArrayUse → Bool
is_free_use free = true
is_free_use live = false
is_free_use (waiting awaited) = false

-- it is retired
abbrev pub is_waiting : ArrayUse → Bool
is_waiting free = false
is_waiting live = false
is_waiting (waiting awaited) = true

-- this number of arrays, which are free, and this number of senders
abbrev pub all_free : ℕ → ℕ → StandingsView
all_free arrays senders = record { senders = senders; uses = replicate arrays free; ready = [] }

-- each array that waits, waits for some sender
abbrev pub EachAwaitsSome : List ArrayUse → Type 0
EachAwaitsSome uses = (a : ℕ) (awaited : List Bool) → use_at uses a ≡ waiting awaited → (n : ℕ) × (awaits awaited n ≡ true)

-- no array from one number up to another is free
abbrev pub HasNoFree : List ArrayUse → ℕ → ℕ → Type 0
HasNoFree uses from until = (a : ℕ) → from ≤ a → a < until → is_free_use (use_at uses a) ≡ false

-- the lowest free array from one number up to another
abbrev pub IsFirstFree : List ArrayUse → ℕ → ℕ → ℕ → Type 0
IsFirstFree uses from until found = (from ≤ found) × (found < until) × (is_free_use (use_at uses found) ≡ true) × HasNoFree uses from found

-- the uses, once nothing is to be taken out of the queue
abbrev pub settled : ℕ → List Standing → StandingsView
settled senders standings = record { senders = senders; uses = map use_of standings; ready = [] }

-- the uses, once the array of a header word is retired and awaits these senders
abbrev pub retired_in : ℕ → List Bool → List ArrayUse → List ArrayUse
retired_in zero all uses = uses
retired_in (suc a) all uses = slice_set uses a (waiting all)

-- the array of a header word, if it names one, is retired
abbrev pub header_retired : ℕ → StandingsView → StandingsView
header_retired header v = record v { uses = retired_in header (everyone v.senders) v.uses }

-- an array is retired, and awaits all senders
abbrev pub array_retired : ℕ → StandingsView → StandingsView
array_retired a v = record v { uses = slice_set v.uses a (waiting (everyone v.senders)) }

-- of whatever standings the first uses are, the second are of the same after one look at each
-- sender
abbrev pub AreLookedAt : ℕ → List Bool → List ArrayUse → List ArrayUse → Type 0
AreLookedAt senders outs old new = (l : List Standing) → old ≡ map use_of l → new ≡ map use_of (map (looked_by senders outs) l)

-- the arrays that are free by the second uses and were not by the first
abbrev pub newly_freed : List ArrayUse → List ArrayUse → List ℕ
newly_freed old new = filter (λ a. is_free_use (use_at new a) && not (is_free_use (use_at old a))) (range_with_len 0 (length old))
