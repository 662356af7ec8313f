-- Several lookups that are answered as one.
use Rattle.std.specs.Prelude.{◌≡◌, ◌≢◌, ◌<◌, ◌≤◌, ◌⊎◌, ◌^◌, ℕ, List, ◌∷◌, ◌++◌, length, map, Some, None, slice_get, All}
use Rattle.msg_names.specs.ClassRef.{slot_of}
use Rattle.msg_names.specs.Number.{selector_number}
use Rattle.msg_names.specs.declared.value.ClassRef.{ClassRef}
use Rattle.msg_names.specs.declared.value.ImpRef.{ImpRef}
use Rattle.msg_names.specs.declared.value.Selector.{Selector}
use Rattle.msg_tables.specs.History.{History, BeginsWith, lookup}
use Rattle.msg_model.specs.State.{first}
use Rattle.msg_cache.specs.Views.{ArenaView, IsFoundAt, classes}
use Rattle.msg_cache.specs.declared.view.SenderView.{SenderView}
use Rattle.msg_reader.specs.Key.{place_of}
use Rattle.msg_reader.specs.Kept.{MissesUnlessChanged, StayAt}
use Rattle.msg_reader.specs.Notes.{IsNoted, recalled_of}
use Rattle.msg_reader.specs.declared.lookup.Lookup.{Lookup}
use Rattle.msg_reader.specs.declared.notes.Notes.{Notes}

-- what a lookup finds at a history: the number of the implementation, or 0 for forwarding
abbrev pub found_of : History → Lookup → ℕ
found_of h k = lookup h k.class (selector_number k.sel)

-- these are what the lookups find, all at this history
abbrev pub AreFoundAt : History → List Lookup → List ℕ → Type 0
AreFoundAt h ks imps = imps ≡ map (found_of h) ks

-- after the first n changes of a history a lookup finds the implementation
abbrev pub IsFoundAfter : ℕ → History → ClassRef → Selector → ImpRef → Type 0
IsFoundAfter n h c s i = IsFoundAt (first n h) c s i

-- A sender's view went from v to w. These are what the lookups find, all after the first n changes
-- that it has then seen, which are no fewer than it had seen.
pub record AreFoundAfter (v w : SenderView) (ks : List Lookup) (imps : List ℕ) (n : ℕ) : Type 0 where
  pub since : length v.front.changes ≤ n
  pub seen : n ≤ length w.front.changes
  pub found : AreFoundAt (first n w.front) ks imps

-- so they are at one history, which is no older than what the sender had seen, and the sender has
-- then seen it
abbrev pub AreFoundTogether : SenderView → SenderView → List Lookup → List ℕ → Type 0
AreFoundTogether v w ks imps = (h : History) × BeginsWith h v.front × BeginsWith w.front h × AreFoundAt h ks imps

-- the arena has words for the class of each
abbrev pub AreAsked : ArenaView → List Lookup → Type 0
AreAsked a ks = All (λ (k : Lookup). k.class.class < classes a) ks

-- ---- what isn't answered

-- this is one of the lookups
abbrev pub IsAmong : List Lookup → Lookup → Type 0
IsAmong ks k = (place : ℕ) × (slice_get ks place ≡ Some k)

-- between the views v and w a stamp of the class reference was loaded, which was n
abbrev pub LoadsAmong : ClassRef → ℕ → SenderView → SenderView → Type 0
LoadsAmong c n v w = (more : List (ClassRef × ℕ)) × (before : List (ClassRef × ℕ)) × (w.stamps ≡ more ++ ((c, n) ∷ (before ++ v.stamps)))

-- the stamp that was loaded for a lookup says more than this number of changes, or the notes have
-- nothing of it since then
abbrev pub LacksIt : Notes → ℕ → Lookup → SenderView → SenderView → Type 0
LacksIt n count k v w = (since : ℕ) × LoadsAmong k.class since v w × ((count < since) ⊎ (recalled_of n since k.class k.sel ≡ None))

-- the same for one of the lookups, and for the changes that the sender had seen
abbrev pub LackOne : Notes → List Lookup → SenderView → SenderView → Type 0
LackOne n ks v w = (k : Lookup) × IsAmong ks k × LacksIt n (length v.front.changes) k v w

-- one of the lookups is missed by a probe, or the stamp of its class reference that was loaded last
-- says more changes than the sender had seen
abbrev pub MissOne : ArenaView → List Lookup → SenderView → SenderView → Type 0
MissOne a ks v w = (k : Lookup) × IsAmong ks k × MissesUnlessChanged a k.class (selector_number k.sel) v w

-- ---- what is noted

-- where the note of a lookup lies
abbrev pub lies_at : Lookup → ℕ
lies_at k = place_of (slot_of k.class) (selector_number k.sel)

-- at each place but those of the lookups, notes have what they had
abbrev pub KeepOthersOfAll : Notes → Notes → List Lookup → Type 0
KeepOthersOfAll old new ks = (place : ℕ) → ((k : Lookup) → IsAmong ks k → place ≢ lies_at k) → StayAt place old new

-- between the views v and w a stamp of the lookup's class reference was loaded, since which the
-- notes have the implementation of this number
abbrev pub IsNotedAmong : Notes → SenderView → SenderView → Lookup → ℕ → Type 0
IsNotedAmong n v w k i = (since : ℕ) × LoadsAmong k.class since v w × (slot_of k.class < 2 ^ 26 → recalled_of n since k.class k.sel ≡ Some i)

-- so it is, or they have it at all changes of the history
abbrev pub IsNotedOrAt : History → Notes → SenderView → SenderView → Lookup → ℕ → Type 0
IsNotedOrAt h n v w k i = IsNotedAmong n v w k i ⊎ IsNoted h n k.class (selector_number k.sel) i

-- of the first m lookups none that comes later lies where this one does
abbrev pub IsLastThere : ℕ → List Lookup → ℕ → Lookup → Type 0
IsLastThere m ks place k = (later : ℕ) (j : Lookup) → place < later → later < m → slice_get ks later ≡ Some j → lies_at k ≢ lies_at j

-- the same for each of the first m lookups and what it found, unless a later one lies there
abbrev pub IsOfLast : ℕ → (Lookup → ℕ → Type 0) → List Lookup → List ℕ → Type 0
IsOfLast m is_so ks imps = (place : ℕ) (k : Lookup) (i : ℕ) → place < m → slice_get ks place ≡ Some k → slice_get imps place ≡ Some i → IsLastThere m ks place k → is_so k i

-- what each lookup found is noted, unless the note of a later one lies there
abbrev pub AreNoted : Notes → SenderView → SenderView → List Lookup → List ℕ → Type 0
AreNoted n v w ks imps = IsOfLast (length ks) (IsNotedAmong n v w) ks imps

-- the same, if they were answered at this history
abbrev pub AreNotedOrAt : History → Notes → SenderView → SenderView → List Lookup → List ℕ → Type 0
AreNotedOrAt h n v w ks imps = IsOfLast (length ks) (IsNotedOrAt h n v w) ks imps
