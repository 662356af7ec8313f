-- What stays noted, and what is recalled by a stamp.
use Rattle.std.specs.Prelude.{◌≡◌, ◌≢◌, ◌<◌, ◌⊎◌, ◌^◌, ℕ, List, ◌∷◌, ◌++◌, length, Option, Some, IfSome, slice_get, true}
use Rattle.msg_names.specs.ClassRef.{slot_of}
use Rattle.msg_names.specs.Number.{selector_number, imp_number}
use Rattle.msg_names.specs.declared.value.ClassRef.{ClassRef}
use Rattle.msg_names.specs.declared.value.ImpRef.{ImpRef}
use Rattle.msg_names.specs.declared.value.Selector.{Selector}
use Rattle.msg_cache.specs.Plays.{stamped_to}
use Rattle.msg_cache.specs.Record.{MadeNoProbe, Misses}
use Rattle.msg_cache.specs.Views.{ArenaView, layout}
use Rattle.msg_cache.specs.declared.view.SenderView.{SenderView}
use Rattle.msg_reader.specs.Key.{key_of, place_of}
use Rattle.msg_reader.specs.Notes.{LiesThere, is_free_for, recalled}
use Rattle.msg_reader.specs.declared.note.Note.{Note}
use Rattle.msg_reader.specs.declared.notes.Notes.{Notes}

-- at a place, notes have the two that they had
abbrev pub StayAt : ℕ → Notes → Notes → Type 0
StayAt place old new = (slice_get new.first place ≡ slice_get old.first place) × (slice_get new.second place ≡ slice_get old.second place)

-- so they have at each place but that of the lookup of a class reference and a selector
abbrev pub HaveOthersOf : ClassRef → ℕ → Notes → Notes → Type 0
HaveOthersOf c sel old new = (place : ℕ) → place ≢ place_of (slot_of c) sel → StayAt place old new

-- Where one of the two notes at the lookup's place is blank or of that lookup, notes have what they
-- had of each other one.
abbrev pub SpareOthersOf : ClassRef → ℕ → Notes → Notes → Type 0
SpareOthersOf c sel old new = (n : Note) → LiesThere old (place_of (slot_of c) sel) n → is_free_for n (slot_of c) sel ≡ true
    → (since slot other : ℕ) → key_of slot other ≢ key_of (slot_of c) sel → recalled new since slot other ≡ recalled old since slot other

-- both for a selector of the program
abbrev pub KeepOthers : Notes → Notes → ClassRef → Selector → Type 0
KeepOthers old new c s = HaveOthersOf c (selector_number s) old new

-- where a note at its place is free, those of other lookups are spared
abbrev pub SpareOthers : Notes → Notes → ClassRef → Selector → Type 0
SpareOthers old new c s = SpareOthersOf c (selector_number s) old new

-- ---- what a sender's view v and its next one w say of stamps

-- The stamp of the class reference was loaded, which was n. No other load was recorded, and the flag
-- is as it was.
abbrev pub LoadsStamp : ClassRef → ℕ → SenderView → SenderView → Type 0
LoadsStamp c n v w = w ≡ stamped_to v w.front c n

-- stamps were loaded, or none
abbrev pub LoadsMore : SenderView → SenderView → Type 0
LoadsMore v w = (more : List (ClassRef × ℕ)) × (w.stamps ≡ more ++ v.stamps)

-- of the stamps that were loaded the first is that of the class reference, which was n
abbrev pub LoadsFirst : ClassRef → ℕ → SenderView → SenderView → Type 0
LoadsFirst c n v w = (more : List (ClassRef × ℕ)) × (w.stamps ≡ more ++ (c, n) ∷ v.stamps)

-- the last is that of the class reference, which was n
abbrev pub HasLoaded : ClassRef → ℕ → SenderView → Type 0
HasLoaded c n w = (before : List (ClassRef × ℕ)) × (w.stamps ≡ (c, n) ∷ before)

-- ---- what is recalled

-- a stamp is loaded, and what the notes have since then is the result
abbrev pub RecallsSince : Notes → ClassRef → ℕ → SenderView → SenderView → Option ℕ → Type 0
RecallsSince n c sel v w found = (since : ℕ) × LoadsStamp c since v w × (found ≡ recalled n since (slot_of c) sel)

-- a stamp is loaded, and what the notes have since then is found; then nothing else was done, and
-- the notes stay
abbrev pub FindsRecalled : Notes → Notes → ClassRef → ℕ → SenderView → SenderView → Option ℕ → Type 0
FindsRecalled was is c sel v w found =
    (since : ℕ) × LoadsFirst c since v w × IfSome (recalled was since (slot_of c) sel) (λ i. (found ≡ Some i) × LoadsStamp c since v w × (is ≡ was))

-- since the stamp that was loaded last, the notes have this implementation of the lookup
abbrev pub HaveNotedSince : Notes → ClassRef → ℕ → SenderView → ℕ → Type 0
HaveNotedSince n c sel w i = (since : ℕ) × HasLoaded c since w × (recalled n since (slot_of c) sel ≡ Some i)

-- the same, if the slot is below 2^26
abbrev pub IsNotedSince : Notes → ClassRef → ℕ → SenderView → ℕ → Type 0
IsNotedSince n c sel w i = (since : ℕ) × HasLoaded c since w × (slot_of c < 2 ^ 26 → recalled n since (slot_of c) sel ≡ Some i)

-- the same for a selector and an implementation
abbrev pub IsNotedFound : Notes → ClassRef → Selector → SenderView → ImpRef → Type 0
IsNotedFound n c s w i = IsNotedSince n c (selector_number s) w (imp_number i)

-- The last probe was for the lookup, and missed; or the stamp that was loaded last says more
-- changes than these: the class reference was closed, or opened after more.
abbrev pub MissesAfter : ArenaView → ClassRef → ℕ → ℕ → SenderView → Type 0
MissesAfter a c sel count w = ((w.last.class ≡ c) × (w.last.sel ≡ sel) × Misses (layout a) w.last) ⊎ ((n : ℕ) × HasLoaded c n w × (count < n))

-- the same after the changes that the sender had seen
abbrev pub MissesUnlessChanged : ArenaView → ClassRef → ℕ → SenderView → SenderView → Type 0
MissesUnlessChanged a c sel v w = MissesAfter a c sel (length v.front.changes) w

-- a stamp is loaded, and what the notes have since then is found, without a probe
abbrev pub FindsUnprobed : Notes → ClassRef → ℕ → SenderView → SenderView → Option ℕ → Type 0
FindsUnprobed was c sel v w found =
    (since : ℕ) × LoadsFirst c since v w × IfSome (recalled was since (slot_of c) sel) (λ i. (found ≡ Some i) × MadeNoProbe v w)
