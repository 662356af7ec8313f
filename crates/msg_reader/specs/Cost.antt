-- What finds cost: each probes one cache at most, and reads one array of it at most.
use Rattle.std.specs.Prelude.{◌≡◌, ◌≤◌, ◌+◌, ◌⊎◌, ℕ, [], length, Some, None}
use Rattle.msg_names.specs.declared.value.ClassRef.{ClassRef}
use Rattle.msg_model.specs.State.{Layout, capacity}
use Rattle.msg_cache.specs.Record.{InPlaces, MadeNoProbe}
use Rattle.msg_cache.specs.Views.{ArenaView, layout}
use Rattle.msg_cache.specs.declared.view.Record.{Record}
use Rattle.msg_cache.specs.declared.view.SenderView.{SenderView}

-- A probe for the lookup reads nothing, or words of one array, in their order and no more than the
-- array has.
abbrev pub ReadsOneArray : Layout → ClassRef → ℕ → Record → Type 0
ReadsOneArray z c sel l =
    (l.class ≡ c) × (l.sel ≡ sel) × (l.array ≡ None → l.reads ≡ [])
    × ((a : ℕ) → l.array ≡ Some a → InPlaces z a sel 0 l.reads × (length l.reads ≤ capacity z a))

-- one probe is made, for the lookup
abbrev pub ProbesOnce : ArenaView → ClassRef → ℕ → SenderView → SenderView → Type 0
ProbesOnce a c sel v w = (w.count ≡ v.count + 1) × ReadsOneArray (layout a) c sel w.last

-- so it is, or none is made
abbrev pub ProbesOnceAtMost : ArenaView → ClassRef → ℕ → SenderView → SenderView → Type 0
ProbesOnceAtMost a c sel v w = MadeNoProbe v w ⊎ ProbesOnce a c sel v w

-- no more than n are made
abbrev pub ProbesAtMost : ℕ → SenderView → SenderView → Type 0
ProbesAtMost n v w = w.count ≤ v.count + n
