-- What flushes note and count, however many there are.
use Rattle.std.specs.Prelude.{◌≡◌, ◌↔◌, ◌+◌, ◌<◌, ◌⊎◌, ℕ, zero, suc, List, length, true, Some, None, slice_index}
use Rattle.std.specs.List.{filter}
use Rattle.msg_names.specs.ClassRef.{slot_of}
use Rattle.msg_names.specs.declared.value.ClassRef.{ClassRef}
use Rattle.msg_model.specs.State.{Layout, capacity}
use Rattle.msg_cache.specs.Counts.{after_flush}
use Rattle.msg_cache.specs.Keeping.{is_retired, standing_of}
use Rattle.msg_cache.specs.Rule.{live_in}
use Rattle.msg_cache.specs.declared.answer.Report.{Report}
use Rattle.msg_cache.specs.declared.view.KeeperView.{KeeperView}

-- how many arrays are retired
abbrev pub retired_count : KeeperView → ℕ
retired_count k = length (filter is_retired k.standings)

-- so many class references lost their live arrays to flushes
abbrev pub after_flushes : ℕ → Report → Report
after_flushes zero r = r
after_flushes (suc n) r = after_flush (after_flushes n r)

-- The class reference has the live array that it had, or none as before. The capacity that is
-- remembered for it is the same.
abbrev pub KeepsArray : Layout → KeeperView → KeeperView → List ℕ → List ℕ → ClassRef → Type 0
KeepsArray z k k' m m' c = (live_in z k'.words c ≡ live_in z k.words c) × (slice_index m' (slot_of c) ≡ slice_index m (slot_of c))

-- the class reference lost its live array, whose capacity is remembered
abbrev pub LosesArray : Layout → KeeperView → KeeperView → List ℕ → List ℕ → ClassRef → Type 0
LosesArray z k k' m m' c = (a : ℕ) × (live_in z k.words c ≡ Some a) × (live_in z k'.words c ≡ None) × (slice_index m' (slot_of c) ≡ capacity z a)

-- the array is retired
abbrev pub IsRetired : KeeperView → ℕ → Type 0
IsRetired k a = is_retired (standing_of k a) ≡ true

-- some class reference lost the array
abbrev pub IsLost : Layout → KeeperView → KeeperView → ℕ → Type 0
IsLost z k k' a = (c : ClassRef) × (c.class < z.classes) × (live_in z k.words c ≡ Some a) × (live_in z k'.words c ≡ None)

-- From the view k, the remembered capacities m and the report r to k', m' and r' there were only
-- flushes: the capacity of each array that was lost is remembered. Retired are those that were, and
-- those that were lost. As many flushes were counted as these are more, and nothing else.
pub record OnlyFlushes (z : Layout) (k k' : KeeperView) (m m' : List ℕ) (r r' : Report) : Type 0 where
  pub each : (c : ClassRef) → c.class < z.classes → KeepsArray z k k' m m' c ⊎ LosesArray z k k' m m' c
  pub retired : (a : ℕ) → IsRetired k' a ↔ (IsRetired k a ⊎ IsLost z k k' a)
  pub counted : (n : ℕ) × (retired_count k' ≡ retired_count k + n) × (r' ≡ after_flushes n r)
