-- The contracts' view of `Machine`, and its state.
use Rattle.std.specs.Prelude.{◌≡◌, ◌<◌, ◌≤◌, ◌*◌, ℕ, List, [], length, map, Option, Some, None, slice_index, slice_index_or}
use Rattle.msg_tables.specs.Origin.{OriginView, class_total}
use Rattle.msg_names.specs.declared.value.ClassRef.{ClassRef}
use Rattle.msg_tables.specs.History.{History}
use Rattle.msg_names.specs.ClassRef.{slot_of}
use Rattle.msg_model.specs.declared.state.Standing.{Standing}
use Rattle.msg_model.specs.declared.state.Standing.TheVariants.{Free, Live, Retired}
use Rattle.msg_tables.specs.declared.limits.TheConstants.{MOST_SENDERS}
use Rattle.msg_model.specs.declared.state.Whereabouts.{Whereabouts}
use Rattle.msg_model.specs.declared.state.Whereabouts.TheVariants.{Out, In, Holding}
use Rattle.msg_model.specs.State.{Layout, State, layout_for}

-- the contracts' view of a machine: its history, and by number what each word says
pub record MachineView : Type 0 where
  pub history : History
  -- the live array of each class reference, at its slot
  pub live : List (Option ℕ)
  -- the words of each array, and what it is for
  pub arrays : List (List ℕ)
  pub standings : List Standing
  -- where each sender is
  pub whereabouts : List Whereabouts

abbrev pub live_at : List (Option ℕ) → ClassRef → Option ℕ
live_at live c = slice_index_or live (slot_of c) None

abbrev pub word_at : List (List ℕ) → ℕ → ℕ → ℕ
word_at arrays a p = slice_index (slice_index_or arrays a []) p

abbrev pub standing_at : List Standing → ℕ → Standing
standing_at standings a = slice_index_or standings a Free

abbrev pub sender_at : List Whereabouts → ℕ → Whereabouts
sender_at whereabouts n = slice_index_or whereabouts n Out

-- the layout of a machine
abbrev pub layout_of : MachineView → Layout
layout_of v = record {
  classes = class_total v.history.origin;
  senders = length v.whereabouts;
  capacities = map length v.arrays;
}

-- the classes are those of an origin, with this number of senders, and arrays of these capacities
abbrev pub HasLayout : OriginView → ℕ → List ℕ → MachineView → Type 0
HasLayout origin senders capacities v = layout_of v ≡ layout_for origin senders capacities

-- the state of a machine
abbrev pub state_of : MachineView → State
state_of v = record {
  history = v.history;
  live = live_at v.live;
  word = word_at v.arrays;
  standing = standing_at v.standings;
  whereabouts = sender_at v.whereabouts;
}

-- all numbers that are kept name what exists
pub record IsWhole (v : MachineView) : Type 0 where
  -- there is a header word for each class reference, and a standing for each array
  pub headers : length v.live ≡ 2 * class_total v.history.origin
  pub standings : length v.standings ≡ length v.arrays
  pub few_senders : length v.whereabouts ≤ MOST_SENDERS
  pub live_arrays : (c : ClassRef) (a : ℕ) → live_at v.live c ≡ Some a → a < length v.arrays
  pub held_arrays : (n : ℕ) (c : ClassRef) (a : ℕ) → sender_at v.whereabouts n ≡ Holding c a → a < length v.arrays
  pub live_classes : (a : ℕ) (c : ClassRef) → standing_at v.standings a ≡ Live c → c.class < class_total v.history.origin

-- the number is that of an array
abbrev pub HasArray : MachineView → ℕ → Type 0
HasArray v a = a < length (layout_of v).capacities

-- a fact about the array that is held, if one is
abbrev pub IfHolding : Whereabouts → (ℕ → Type 0) → Type 0
IfHolding Out P = Unit {0}
IfHolding In P = Unit {0}
IfHolding (Holding c a) P = P a

-- a fact about the class reference for which an array is live, if it is
abbrev pub IfLive : Standing → (ClassRef → Type 0) → Type 0
IfLive Free P = Unit {0}
IfLive (Live c) P = P c
IfLive (Retired c r awaited) P = Unit {0}
