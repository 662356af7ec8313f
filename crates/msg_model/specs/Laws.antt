-- Laws of the machine, for every lookup, every layout with a sender, and every list of events none
-- of which is refused.
use Rattle.std.specs.Prelude.{◌≡◌, ◌≢◌, ℕ, suc, ◌<◌, ◌≤◌, List, [], ◌∷◌, ◌++◌, All, if◌then◌else◌}
use Rattle.msg_names.specs.declared.value.ClassRef.{ClassRef}
use Rattle.msg_buckets.specs.Word.{sel_of}
use Rattle.msg_tables.specs.declared.change.Change.{Change}
use Rattle.msg_tables.specs.Origin.{OriginView, IsSound}
use Rattle.msg_tables.specs.History.{History, BeginsWith, and_then, log, lookup}
use Rattle.msg_tables.specs.Refusal.{IsLog}
use Rattle.msg_tables.specs.Several.{is_affected_by_all}
use Rattle.msg_model.specs.Event.{Event, Header, Read, Fill, Install, Clear}
use Rattle.msg_model.specs.declared.state.Whereabouts.TheVariants.{Holding}
use Rattle.msg_model.specs.Runs.{opening, after_all, AreLegal, IsNoHeader, LeavesArrayOf, HasLoaded, AgreesBetween}
use Rattle.msg_model.specs.Stamps.{last_affected}
use Rattle.msg_model.specs.State.{Layout, State, Lawful, Sound, first, size}
use Rattle.msg_model.specs.Steps.{after, Legal, held_word}

-- an event that isn't refused keeps a sound state sound
abbrev pub EventsKeepSound : Type 0
EventsKeepSound = (look : History → ClassRef → ℕ → ℕ) (z : Layout) (m : State) (e : Event) → 0 < z.senders → Sound look z m → Legal look z m e → Sound look z (after z m e)

-- after a legal run the state is lawful
abbrev pub RunsAreLawful : Type 0
RunsAreLawful = (look : History → ClassRef → ℕ → ℕ) (z : Layout) (origin : OriginView) (es : List Event) → 0 < z.senders → AreLegal look z (opening origin) es
    → Lawful look z (after_all z (opening origin) es)

-- and its numbers are in range
abbrev pub RunsAreSound : Type 0
RunsAreSound = (look : History → ClassRef → ℕ → ℕ) (z : Layout) (origin : OriginView) (es : List Event) → 0 < z.senders → AreLegal look z (opening origin) es
    → Sound look z (after_all z (opening origin) es)

-- nobody holds an array that is installed next
abbrev pub NobodyHoldsInstalled : Type 0
NobodyHoldsInstalled = (look : History → ClassRef → ℕ → ℕ) (z : Layout) (origin : OriginView) (es : List Event) (c : ClassRef) (a : ℕ) → 0 < z.senders
    → AreLegal look z (opening origin) (es ++ Install c a ∷ []) → (n : ℕ) (d : ClassRef) → (after_all z (opening origin) es).whereabouts n ≢ Holding d a

-- nobody holds an array a word of which is cleared next
abbrev pub NobodyHoldsCleared : Type 0
NobodyHoldsCleared = (look : History → ClassRef → ℕ → ℕ) (z : Layout) (origin : OriginView) (es : List Event) (a p : ℕ) → 0 < z.senders
    → AreLegal look z (opening origin) (es ++ Clear a p ∷ []) → (n : ℕ) (d : ClassRef) → (after_all z (opening origin) es).whereabouts n ≢ Holding d a

-- a sender that holds an array for a class reference has loaded its header word, and none since
abbrev pub HolderHasLoaded : Type 0
HolderHasLoaded = (z : Layout) (origin : OriginView) (es : List Event) (n : ℕ) (c : ClassRef) (a : ℕ)
    → (after_all z (opening origin) es).whereabouts n ≡ Holding c a → HasLoaded n c es

-- a sender that reads next holds an array for a class reference; it has loaded its header word, and
-- none since
abbrev pub ReaderHolds : Type 0
ReaderHolds = (look : History → ClassRef → ℕ → ℕ) (z : Layout) (origin : OriginView) (es : List Event) (n p : ℕ) → AreLegal look z (opening origin) (es ++ Read n p ∷ [])
    → (c : ClassRef) × (a : ℕ) × ((after_all z (opening origin) es).whereabouts n ≡ Holding c a) × HasLoaded n c es

-- a word that is read next has a selector, if it isn't 0
abbrev pub ReadHasSelector : Type 0
ReadHasSelector = (look : History → ClassRef → ℕ → ℕ) (z : Layout) (origin : OriginView) (es : List Event) (n p : ℕ) → 0 < z.senders
    → AreLegal look z (opening origin) (es ++ Read n p ∷ [])
    → let m = after_all z (opening origin) es in held_word m.word (m.whereabouts n) p ≢ 0 → 0 < sel_of (held_word m.word (m.whereabouts n) p)

-- and the implementation that was looked up for that selector, not before the reader's last header
-- load and not after the read
abbrev pub ReadAgreesSinceHeader : Type 0
ReadAgreesSinceHeader = (look : History → ClassRef → ℕ → ℕ) (z : Layout) (origin : OriginView) (before mid : List Event) (n : ℕ) (c : ClassRef) (p : ℕ) → 0 < z.senders
    → AreLegal look z (opening origin) (before ++ Header n c ∷ mid ++ Read n p ∷ []) → All (IsNoHeader n) mid
    → let m = after_all z (opening origin) (before ++ Header n c ∷ mid) in
    held_word m.word (m.whereabouts n) p ≢ 0
    → AgreesBetween look (size (after_all z (opening origin) before).history) m.history c (held_word m.word (m.whereabouts n) p)

-- A word that was filled in is read at its place by each sender whose last header load came before
-- the class reference was flushed or got another array.
abbrev pub FilledIsRead : Type 0
FilledIsRead = (look : History → ClassRef → ℕ → ℕ) (z : Layout) (origin : OriginView) (before mid more : List Event) (n : ℕ) (c : ClassRef) (p w : ℕ) → 0 < z.senders
    → AreLegal look z (opening origin) (before ++ Fill c p w ∷ mid ++ Header n c ∷ more ++ Read n p ∷ []) → All (LeavesArrayOf c) mid → All (IsNoHeader n) more
    → let m = after_all z (opening origin) (before ++ Fill c p w ∷ mid ++ Header n c ∷ more) in held_word m.word (m.whereabouts n) p ≡ w

-- ---- how long lookups stay the same

-- Take any number of changes since the last that affects a class reference. Its lookups after them
-- are those after all changes.
abbrev pub LookupStaysSince : Type 0
LookupStaysSince = (h : History) (c : ClassRef) (s k : ℕ) → IsSound h.origin → IsLog (log h) → last_affected h c ≤ k → k ≤ size h → lookup (first k h) c s ≡ lookup h c s

-- the same for a history and one that begins with it
abbrev pub LookupStaysInLonger : Type 0
LookupStaysInLonger = (p h : History) (c : ClassRef) (s : ℕ) → IsSound p.origin → IsLog (log p) → BeginsWith p h → last_affected p c ≤ size h → lookup p c s ≡ lookup h c s

-- one more list of changes is the last that affects a class reference, or is not among those that
-- do
abbrev pub LastAffectedOfLonger : Type 0
LastAffectedOfLonger = (h : History) (xs : List Change) (c : ClassRef)
    → last_affected (and_then h xs) c ≡ (if is_affected_by_all (log h) xs c then suc (size h) else last_affected h c)

-- the last list that affects a class reference is one of the history's
abbrev pub LastAffectedIsReached : Type 0
LastAffectedIsReached = (h : History) (c : ClassRef) → last_affected h c ≤ size h
