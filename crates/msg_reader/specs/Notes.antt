-- What is noted of lookups.
use Rattle.std.specs.Prelude.{◌≡◌, ◌≢◌, ◌<◌, ◌≤◌, ◌+◌, ◌*◌, ◌%◌, ◌^◌, ◌==◌, ◌&&◌, ◌||◌, ◌⊎◌, ℕ, Bool, List, Option, Some, None, if◌then◌else◌, length, nat_le, nat_lt, option_and_then, slice_get, get_or, All}
use Rattle.std.specs.Option.{option_or}
use Rattle.msg_names.specs.ClassRef.{slot_of}
use Rattle.msg_names.specs.Number.{selector_number, imp_number}
use Rattle.msg_names.specs.declared.value.ClassRef.{ClassRef}
use Rattle.msg_names.specs.declared.value.ImpRef.{ImpRef}
use Rattle.msg_names.specs.declared.value.Selector.{Selector}
use Rattle.msg_reader.specs.Blank.{IsBlank}
use Rattle.msg_reader.specs.Key.{IsSealOf, key_of, mark_of, place_of}
use Rattle.msg_tables.specs.Origin.{last_imp}
use Rattle.msg_tables.specs.History.{History, lookup}
use Rattle.msg_model.specs.State.{Layout, first}
use Rattle.msg_model.specs.Stamps.{last_affected}
use Rattle.msg_cache.specs.Layout.{stamp_at, word_count}
use Rattle.msg_cache.specs.Rule.{IsAccepted}
use Rattle.msg_cache.specs.Views.{IsFoundAt}
use Rattle.msg_reader.specs.Found.{IsListed}
use Rattle.msg_reader.specs.declared.note.Note.{Note}
use Rattle.msg_reader.specs.declared.notes.Notes.{Notes}

-- The lookup of a selector by the class reference of a slot, at the point of the history after its
-- first n changes, finds this implementation.
pub record IsRecalled (h : History) (n slot sel imp : ℕ) : Type 0 where
  pub seen : n ≤ length h.changes
  pub listed : imp ≤ last_imp h.origin.counts
  pub found : (c : ClassRef) → slot_of c ≡ slot → imp ≡ lookup (first n h) c sel

-- A note is what a lookup found at a point of the history, or blank.
pub record IsNoteOf (h : History) (n : Note) : Type 0 where
  pub recalled : (slot sel : ℕ) → slot < 2 ^ 26 → sel < 2 ^ 32 → IsSealOf n.seal slot sel n.imp → IsRecalled h n.count slot sel n.imp

-- a note lies at the place of its key, if it isn't blank
abbrev pub LiesAt : ℕ → Note → Type 0
LiesAt place n = n.seal ≢ 0 → (n.seal + mark_of n.imp) % 65536 ≡ place * 8

-- each of some notes is a note of the history, and lies at its place
pub record AreNotesAt (h : History) (ns : List Note) : Type 0 where
  pub notes : All (IsNoteOf h) ns
  pub placed : (p : ℕ) (d : Note) → p < length ns → LiesAt p (get_or ns p d)

-- so it is with the first notes of all places, and with the second ones
pub record AreNotesOf (h : History) (n : Notes) : Type 0 where
  pub first : AreNotesAt h n.first
  pub second : AreNotesAt h n.second

-- the arrays have their places
pub record HavePlaces (n : Notes) : Type 0 where
  pub first : length n.first ≡ 8192
  pub second : length n.second ≡ 8192
  pub written : length n.written ≡ 64

-- nothing is noted: each note is blank
pub record AreBlank (n : Notes) : Type 0 where
  pub first : All IsBlank n.first
  pub second : All IsBlank n.second

-- A note says where the stamp of the class reference that it is of lies: this number of bytes after
-- the first word of the table. Whatever it is of, a word of the table lies there.
pub record IsStamped (z : Layout) (n : Note) : Type 0 where
  pub tells : (c : ClassRef) (sel : ℕ) → sel < 2 ^ 32 → IsSealOf n.seal (slot_of c) sel n.imp → n.stamp ≡ 8 * stamp_at z c
  pub whole : n.stamp % 8 ≡ 0
  pub within : n.stamp < 8 * word_count z

-- the same for each note
abbrev pub AreStamped : Layout → Notes → Type 0
AreStamped z n = All (IsStamped z) n.first × All (IsStamped z) n.second

-- and so it stays
abbrev pub StayStamped : Layout → Notes → Notes → Type 0
StayStamped z old new = AreStamped z old → AreStamped z new

-- what a note has of a lookup after this number of changes or more: the implementation's number, 0
-- where it found no method
abbrev pub found_by : Note → ℕ → ℕ → ℕ → Option ℕ
found_by n since slot sel = if n.seal + mark_of n.imp == key_of slot sel && nat_le since n.count then Some n.imp else None

-- a note is blank or of this lookup
abbrev pub is_free_for : Note → ℕ → ℕ → Bool
is_free_for n slot sel = n.seal == 0 || n.seal + mark_of n.imp == key_of slot sel

-- what the first or the second notes have of a lookup, at its place
abbrev pub found_in : List Note → ℕ → ℕ → ℕ → Option ℕ
found_in ns since slot sel = option_and_then (λ k. found_by k since slot sel) (slice_get ns (place_of slot sel))

-- what notes have of a lookup: that which the first one at its place says, or else the second. Of
-- slots from 2^26 on nothing is noted.
abbrev pub recalled : Notes → ℕ → ℕ → ℕ → Option ℕ
recalled n since slot sel = if nat_lt slot (2 ^ 26) then option_or (found_in n.first since slot sel) (found_in n.second since slot sel) else None

-- what notes of a history have of a lookup at all its changes
abbrev pub noted_at : Notes → History → ClassRef → ℕ → Option ℕ
noted_at n h c sel = recalled n (length h.changes) (slot_of c) sel

-- they have this implementation of it
abbrev pub HaveNoted : Notes → History → ClassRef → ℕ → ℕ → Type 0
HaveNoted n h c sel imp = noted_at n h c sel ≡ Some imp

-- the same, if the slot is below 2^26
abbrev pub IsNoted : History → Notes → ClassRef → ℕ → ℕ → Type 0
IsNoted h n c sel imp = slot_of c < 2 ^ 26 → HaveNoted n h c sel imp

-- ---- what notes say

-- no two lookups of slots and selectors in 32 bits have the same key
abbrev pub KeysAreOneToOne : Type 0
KeysAreOneToOne = (slot sel other next : ℕ) → sel < 2 ^ 32 → next < 2 ^ 32 → key_of slot sel ≡ key_of other next → (slot ≡ other) × (sel ≡ next)

-- a word that the seal of a note is less than a key, by no more than 16 bits, says that the note is
-- of that lookup, and what it found
abbrev pub SealTells : Note → ℕ → ℕ → Type 0
SealTells n slot sel = (said : ℕ) → 0 < said → said < 65536 → n.seal + said ≡ key_of slot sel → IsSealOf n.seal slot sel n.imp × (said ≡ mark_of n.imp)

-- this is one of the two notes of a place
abbrev pub LiesThere : Notes → ℕ → Note → Type 0
LiesThere n place k = (slice_get n.first place ≡ Some k) ⊎ (slice_get n.second place ≡ Some k)

-- whatever history these are notes of, each seal identifies the lookups that have its place
abbrev pub SealsTell : Type 0
SealsTell = (h : History) (n : Notes) (slot sel : ℕ) (k : Note) → AreNotesOf h n → LiesThere n (place_of slot sel) k → SealTells k slot sel

-- at some point of the history, after this number of changes or more, the lookup found this
-- implementation
abbrev pub IsRecalledSince : History → ℕ → ℕ → ℕ → ℕ → Type 0
IsRecalledSince h since slot sel imp = (k : ℕ) × (since ≤ k) × IsRecalled h k slot sel imp

-- so it is of whatever history this is a note
abbrev pub Tells : Note → ℕ → ℕ → ℕ → ℕ → Type 0
Tells n since slot sel i = (h : History) → IsNoteOf h n → IsRecalledSince h since slot sel i

-- of whatever history these are notes
abbrev pub Tell : Notes → ℕ → ℕ → ℕ → ℕ → Type 0
Tell n since slot sel i = (h : History) → AreNotesOf h n → IsRecalledSince h since slot sel i

-- of whatever history of changes that were accepted these are notes, where none after so many
-- affects the class reference: there the lookup finds this implementation
abbrev pub TellFound : Notes → ℕ → ClassRef → Selector → ImpRef → Type 0
TellFound n since c s i = (h : History) → AreNotesOf h n → IsAccepted h → last_affected h c ≤ since → IsFoundAt h c s i × IsListed h i

-- of each history where the lookup finds this implementation after the first `count` changes, what
-- were notes still are
abbrev pub StayNotes : Notes → Notes → ℕ → ClassRef → Selector → ImpRef → Type 0
StayNotes old new count c s i = (h : History) → AreNotesOf h old → count ≤ length h.changes → IsFoundAt (first count h) c s i → IsListed h i → AreNotesOf h new

-- what notes have of a lookup
abbrev pub recalled_of : Notes → ℕ → ClassRef → Selector → Option ℕ
recalled_of n since c s = recalled n since (slot_of c) (selector_number s)

-- they have this implementation of it, if the slot is below 2^26
abbrev pub HaveKept : Notes → ℕ → ClassRef → Selector → ImpRef → Type 0
HaveKept n since c s i = slot_of c < 2 ^ 26 → recalled_of n since c s ≡ Some (imp_number i)

-- it is noted after this number of changes: since as many, or fewer
abbrev pub IsKeptAt : ℕ → Notes → ClassRef → Selector → ImpRef → Type 0
IsKeptAt count n c s i = (since : ℕ) → since ≤ count → HaveKept n since c s i

-- they have it at a history
abbrev pub HaveNotedFor : Notes → History → ClassRef → Selector → ImpRef → Type 0
HaveNotedFor n h c s i = HaveNoted n h c (selector_number s) (imp_number i)

-- the same, if the slot is below 2^26
abbrev pub IsNotedFor : History → Notes → ClassRef → Selector → ImpRef → Type 0
IsNotedFor h n c s i = IsNoted h n c (selector_number s) (imp_number i)
