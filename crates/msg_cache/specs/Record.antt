-- What the record of a probe says.
use Rattle.std.specs.Prelude.{◌≡◌, ℕ, suc, ◌+◌, ◌-◌, ◌≤◌, ◌⊎◌, List, [], ◌∷◌, length, take, Some, None}
use Rattle.msg_names.specs.declared.value.ClassRef.{ClassRef}
use Rattle.msg_buckets.specs.Probing.{probe_place, end_of, found_at, hit, empty, wrapped}
use Rattle.msg_tables.specs.History.{BeginsWith}
use Rattle.msg_model.specs.State.{Layout, capacity}
use Rattle.msg_cache.specs.declared.view.Record.{Record}
use Rattle.msg_cache.specs.declared.view.SenderView.{SenderView}
use Rattle.msg_cache.specs.Layout.{base}
use Rattle.msg_cache.specs.Rule.{IsAccepted}

-- the words of an array to which a probe of s comes, in their order, from the k-th on
abbrev pub InPlaces : Layout → ℕ → ℕ → ℕ → List (ℕ × ℕ) → Type 0
InPlaces z a s k [] = Unit {0}
InPlaces z a s k (read ∷ reads) = (read.0 ≡ base z a + probe_place s (capacity z a) k) × InPlaces z a s (suc k) reads

-- all reads but the last
abbrev pub earlier : List (ℕ × ℕ) → List (ℕ × ℕ)
earlier reads = take (length reads - 1) reads

-- the last word has the selector, and this implementation
abbrev pub Hits : Record → ℕ → Type 0
Hits l i = found_at (end_of l.sel l.reads) ≡ hit i

-- no array was seen, the last word is 0, or each place was read and none has the selector
abbrev pub Misses : Layout → Record → Type 0
Misses z l =
    (l.array ≡ None)
    ⊎ ((i : ℕ) × (found_at (end_of l.sel l.reads) ≡ empty i))
    ⊎ ((a : ℕ) × (l.array ≡ Some a) × (length l.reads ≡ capacity z a) × (found_at (end_of l.sel l.reads) ≡ wrapped))

-- a sender's view went from v to w by a probe of c and s
pub record Probes (z : Layout) (c : ClassRef) (s : ℕ) (v w : SenderView) : Type 0 where
  pub number : w.number ≡ v.number
  pub begins : BeginsWith w.front v.front
  pub accepted : IsAccepted w.front
  pub counted : w.count ≡ v.count + 1
  -- no stamp is loaded, nor the count of changes
  pub stamps : w.stamps ≡ v.stamps
  pub looks : w.looks ≡ v.looks
  pub class_is : w.last.class ≡ c
  pub sel_is : w.last.sel ≡ s
  -- where no array was seen nothing is read
  pub no_array : w.last.array ≡ None → w.last.reads ≡ []
  -- else words of that array, in their order, and no more than it has
  pub places : (a : ℕ) → w.last.array ≡ Some a → InPlaces z a s 0 w.last.reads × (length w.last.reads ≤ capacity z a)
  -- no word before the last is 0 or has the selector
  pub unended : end_of s (earlier w.last.reads) ≡ None

-- a sender's view went from v to w without a probe
abbrev pub MadeNoProbe : SenderView → SenderView → Type 0
MadeNoProbe v w = (w.count ≡ v.count) × (w.last ≡ v.last)

-- a probe doesn't both hit and miss, nor hit twice
abbrev pub HitsOrMisses : Type 0
HitsOrMisses = (z : Layout) (c : ClassRef) (s : ℕ) (v w : SenderView) (i : ℕ) → Probes z c s v w → Hits w.last i → Misses z w.last → ⊥

-- a probe hits with one implementation
abbrev pub HitsOnce : Type 0
HitsOnce = (l : Record) (i j : ℕ) → Hits l i → Hits l j → i ≡ j
