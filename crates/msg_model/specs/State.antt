-- The state of the cache machine, and which states are lawful.
use Rattle.std.specs.Prelude.{◌≡◌, ◌≢◌, ◌<◌, ◌≤◌, ◌⊎◌, ℕ, List, length, map, replicate, take, Bool, true, false, Option, Some, slice_index, slice_index_or}
use Rattle.msg_names.specs.declared.value.ClassRef.{ClassRef}
use Rattle.msg_buckets.specs.Word.{sel_of, imp_of}
use Rattle.msg_tables.specs.History.{History}
use Rattle.msg_tables.specs.Origin.{OriginView, class_total}
use Rattle.msg_model.specs.declared.state.Standing.{Standing}
use Rattle.msg_model.specs.declared.state.Standing.TheVariants.{Free, Live, Retired}
use Rattle.msg_model.specs.declared.state.Whereabouts.{Whereabouts}
use Rattle.msg_model.specs.declared.state.Whereabouts.TheVariants.{Holding}

-- the numbers of classes and of senders, and the number of words of each array
pub record Layout : Type 0 where
  pub classes : ℕ
  pub senders : ℕ
  pub capacities : List ℕ

-- the layout for a number of senders and arrays of these capacities, for the classes of an origin
abbrev pub layout_for : OriginView → ℕ → List ℕ → Layout
layout_for origin senders capacities = record { classes = class_total origin; senders = senders; capacities = capacities }

abbrev pub capacity : Layout → ℕ → ℕ
capacity z a = slice_index z.capacities a

-- the words of arrays that are empty
abbrev pub empty_arrays_of : List ℕ → List (List ℕ)
empty_arrays_of capacities = map (λ n. replicate n 0) capacities

-- the history, and by number what the words say: the live array of each class reference, the words
-- of each array, what the array is for, and where each sender is
pub record State : Type 0 where
  pub history : History
  pub live : ClassRef → Option ℕ
  pub word : ℕ → ℕ → ℕ
  pub standing : ℕ → Standing
  pub whereabouts : ℕ → Whereabouts

abbrev pub state_from : History → (ClassRef → Option ℕ) → (ℕ → ℕ → ℕ) → (ℕ → Standing) → (ℕ → Whereabouts) → State
state_from h live word standing whereabouts = record { history = h; live = live; word = word; standing = standing; whereabouts = whereabouts }

-- the number of times that changes were made
abbrev pub size : History → ℕ
size h = length h.changes

-- the history when it had n lists of changes
abbrev pub first : ℕ → History → History
first n h = record { origin = h.origin; changes = take n h.changes }

-- a word that isn't 0 has a selector, and the implementation that is looked up for it
abbrev pub Agrees : (ClassRef → ℕ → ℕ) → ClassRef → ℕ → Type 0
Agrees look c word = word ≢ 0 → (0 < sel_of word) × (imp_of word ≡ look c (sel_of word))

-- an array awaits a sender
abbrev pub awaits : List Bool → ℕ → Bool
awaits awaited n = slice_index_or awaited n false

-- an array is live for the class reference, or is retired from it and awaits the sender
abbrev pub KeepsFor : Standing → ClassRef → ℕ → Type 0
KeepsFor s c n = (s ≡ Live c) ⊎ ((r : ℕ) × (awaited : List Bool) × (s ≡ Retired c r awaited) × (awaits awaited n ≡ true))

module _ (look : History → ClassRef → ℕ → ℕ) (z : Layout) where
  -- The facts that make reading without a lock right.
  pub record Lawful (m : State) : Type 0 where
    -- an array that a sender holds is live, or was retired and awaits the sender
    pub held : (n : ℕ) (c : ClassRef) (a : ℕ) → m.whereabouts n ≡ Holding c a → KeepsFor (m.standing a) c n
    -- words of a live array agree with the present method lists
    pub live_words : (c : ClassRef) (a p : ℕ) → m.standing a ≡ Live c → p < capacity z a → Agrees (look m.history) c (m.word a p)
    -- words of a retired array agree with the method lists at the time when it was retired
    pub retired_words : (c : ClassRef) (r a p : ℕ) (awaited : List Bool) → m.standing a ≡ Retired c r awaited → p < capacity z a
        → Agrees (look (first r m.history)) c (m.word a p)
    -- the live array of a class reference is the one that is live for it
    pub live_stands : (c : ClassRef) (a : ℕ) → c.class < z.classes → m.live c ≡ Some a → m.standing a ≡ Live c
    pub stands_live : (c : ClassRef) (a : ℕ) → m.standing a ≡ Live c → m.live c ≡ Some a
    -- a retired array awaits some sender, and nobody holds a free one
    pub awaits_some : (c : ClassRef) (r a : ℕ) (awaited : List Bool) → m.standing a ≡ Retired c r awaited → (n : ℕ) × (n < z.senders) × (awaits awaited n ≡ true)
    pub free_unheld : (a : ℕ) → m.standing a ≡ Free → (n : ℕ) (c : ClassRef) → m.whereabouts n ≢ Holding c a

  -- What every event needs in addition: numbers are those of the layout, and arrays were retired in
  -- the past.
  pub record InRange (m : State) : Type 0 where
    -- else a commit could make the change that a retired array's length names, and the array's
    -- words would have to agree with it
    pub retired_before : (c : ClassRef) (r a : ℕ) (awaited : List Bool) → m.standing a ≡ Retired c r awaited → r ≤ size m.history
    -- else an array could be live where no flush finds it
    pub live_class : (c : ClassRef) (a : ℕ) → m.standing a ≡ Live c → c.class < z.classes
    -- else a commit, which looks only at the arrays of the layout, could let a live word disagree
    pub live_array : (c : ClassRef) (a : ℕ) → m.standing a ≡ Live c → a < length z.capacities
    -- else an array could for ever await a sender that isn't there to be seen out
    pub awaited_senders : (c : ClassRef) (r a : ℕ) (awaited : List Bool) → m.standing a ≡ Retired c r awaited → (n : ℕ) → awaits awaited n ≡ true → n < z.senders
    -- else a retired array, which awaits all senders, wouldn't await all holders
    pub holder : (n : ℕ) (c : ClassRef) (a : ℕ) → m.whereabouts n ≡ Holding c a → n < z.senders

  -- what every event keeps
  pub record Sound (m : State) : Type 0 where
    pub lawful : Lawful m
    pub in_range : InRange m
