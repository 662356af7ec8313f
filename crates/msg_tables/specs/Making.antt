-- Changes of a list that were made, and the journal of what they wrote.
use Rattle.std.specs.Prelude.{ℕ, ◌⊎◌, ◌≡◌, ◌≢◌, ◌<◌, ◌+◌, ◌||◌, Bool, true, List, ◌++◌, Some, None, length, take}
use Rattle.msg_names.specs.declared.value.ClassRef.{ClassRef}
use Rattle.msg_tables.specs.declared.change.Change.{Change}
use Rattle.msg_tables.specs.declared.change.ChangeRef.{ChangeRef}
use Rattle.msg_tables.specs.declared.apply_all.Refused.{Refused}
use Rattle.msg_tables.specs.declared.entry.Entry.{Entry}
use Rattle.msg_tables.specs.declared.fault.ChangeFault.TheVariants.{Memory}
use Rattle.msg_tables.specs.Affected.{written_refs}
use Rattle.msg_tables.specs.ChangeList.{change_of}
use Rattle.msg_tables.specs.Chain.{is_member}
use Rattle.msg_tables.specs.Log.{Log, and_then, chain_at, table}
use Rattle.msg_tables.specs.Marking.{MarksAffectedByAll, is_marked}
use Rattle.msg_tables.specs.Journal.{AllNameListed, ArePlacesOf, IsJournalOf, classes_of, places_of, undo_journal}
use Rattle.msg_tables.specs.Origin.{IsSound}
use Rattle.msg_tables.specs.Refusal.{AreAccepted}
use Rattle.msg_tables.specs.Several.{and_all, is_affected_by_all, is_below, is_of_one, made_by, made_by_all, refused_from, written_by_all}
use Rattle.msg_tables.specs.Stands.{StandsAt}
use Rattle.msg_tables.specs.Undo.{count_at, undo, undo_all}
use Rattle.msg_tables.specs.View.{TablesView, room_of}
use Rattle.msg_names.specs.ClassRef.{same_class}
use Rattle.msg_tables.specs.RoomLaws.{HaveRoomFor, LackRoomFor}

-- what no change alters
pub record IsBeside (old new : TablesView) : Type 0 where
  pub count : length new.supers ≡ length old.supers
  pub rest : old ≡ record new { supers = old.supers; order = old.order; lists = old.lists; rooms = old.rooms; row_count = old.row_count; change_count = old.change_count }

-- a change was made, and the journal has what it wrote added
pub record IsPart (x : Change) (journal longer : List Entry) (old new : TablesView) : Type 0 where
  pub entries : List Entry
  pub is : longer ≡ journal ++ entries
  pub back : IsJournalOf entries old new
  pub places : (h : Log) → StandsAt old h → ArePlacesOf (written_refs h x) (made_by x) (places_of entries)
  pub made : classes_of entries ≡ made_by x
  pub undone : (h : Log) → StandsAt old h → undo_journal entries ≡ undo (table h) x
  pub listed : AllNameListed (length old.supers) entries
  pub beside : IsBeside old new

-- the same for a change as it is read
abbrev pub IsReadPart : ChangeRef → List Entry → List Entry → TablesView → TablesView → Type 0
IsReadPart r journal longer old new = IsPart (change_of r) journal longer old new

-- a journal has the class references at which a list writes, and otherwise only those of classes
-- that the list makes or disposes of
abbrev pub HasPlaces : List Change → TablesView → List Entry → Type 0
HasPlaces xs old journal = (h : Log) → StandsAt old h → ArePlacesOf (written_by_all h xs) (made_by_all xs) (places_of journal)

-- a journal has the entries that take a list back
abbrev pub IsUndone : List Change → TablesView → List Entry → Type 0
IsUndone xs old journal = (h : Log) → StandsAt old h → undo_all (table h) xs ≡ undo_journal journal

-- changes were made, and the journal describes what they wrote
pub record IsMade (xs : List Change) (journal : List Entry) (old new : TablesView) : Type 0 where
  pub back : IsJournalOf journal old new
  pub stands : (h : Log) → StandsAt old h → AreAccepted h xs × StandsAt new (and_all h xs)
  pub places : HasPlaces xs old journal
  pub made : classes_of journal ≡ made_by_all xs
  pub undone : IsUndone xs old journal
  pub listed : AllNameListed (length old.supers) journal
  pub beside : IsBeside old new

-- the tables were at a log, and are at the log after a list, no change of which was refused
abbrev pub StandAfter : List Change → TablesView → TablesView → Type 0
StandAfter xs old new = (h : Log) → StandsAt old h → (refused_from 0 h xs ≡ None) × StandsAt new (and_all h xs)

-- the changes of a list before one of them were made
abbrev pub AreMadeTo : List Change → List Entry → TablesView → TablesView → Refused → Type 0
AreMadeTo xs journal old new r = (r.place < length xs) × IsMade (take r.place xs) journal old new

-- no change of a list would be refused
abbrev pub RefusesNone : List Change → TablesView → Type 0
RefusesNone xs old = (h : Log) → StandsAt old h → refused_from 0 h xs ≡ None

-- this is the first change of a list that would be refused, with its fault
abbrev pub IsRefused : List Change → TablesView → Refused → Type 0
IsRefused xs old r = (h : Log) → StandsAt old h → refused_from 0 h xs ≡ Some (r.place, r.fault)

-- the same, unless memory was lacking
abbrev pub IsRefusedUnlessMemory : List Change → TablesView → Refused → Type 0
IsRefusedUnlessMemory xs old r = r.fault ≢ Memory → IsRefused xs old r

-- if memory is lacking for one more change, the journal has too little room for its entries, or
-- some class reference for its rows
abbrev pub WantsMore : Change → ℕ → ℕ → TablesView → Type 0
WantsMore x count room old = (h : Log) → StandsAt old h
    → (room < count + length (undo (table h) x)) ⊎ ((c : ClassRef) × (room_of old c < count_at (λ d. same_class d c) (table (and_then h x)).rows))

-- if memory was lacking, there was too little room for the changes so far and for that one
abbrev pub WantsMemory : List Change → ℕ → TablesView → Refused → Type 0
WantsMemory xs room old r = r.fault ≡ Memory → (h : Log) → StandsAt old h → LackRoomFor old.rooms room h (take (r.place + 1) xs)

-- there is room now for the rows that each class reference had at any time while a list was made
abbrev pub AreHeld : List Change → TablesView → TablesView → Type 0
AreHeld xs old new = (h : Log) → StandsAt old h → HaveRoomFor new.rooms h xs

-- the changes before it would be made
abbrev pub AreMadeBefore : List Change → TablesView → Refused → Type 0
AreMadeBefore xs old r = (h : Log) → StandsAt old h → refused_from 0 h (take r.place xs) ≡ None

-- if memory was lacking, the change at that place would be made too
abbrev pub LacksMemory : List Change → TablesView → Refused → Type 0
LacksMemory xs old r = r.fault ≡ Memory → (h : Log) → StandsAt old h → refused_from 0 h (take (r.place + 1) xs) ≡ None

-- what a list affects is marked, in addition to what was
abbrev pub ReachesAll : List Change → TablesView → List Bool → List Bool → Type 0
ReachesAll xs t old new = (h : Log) → StandsAt t h → MarksAffectedByAll (length t.supers) h xs old new

-- what the changes before one of a list affect is marked, unless memory was lacking
abbrev pub ReachesBefore : List Change → TablesView → List Bool → List Bool → Refused → Type 0
ReachesBefore xs t old new r = r.fault ≢ Memory → ReachesAll (take r.place xs) t old new

-- the class reference belongs to a class in a journal, or it is at or below one of the journal's
-- places
abbrev pub is_told : Log → List Entry → ClassRef → Bool
is_told h journal c = is_of_one (classes_of journal) c || is_below h (places_of journal) c

-- what entries describe is marked, in addition to what was, by the tables as they are
abbrev pub MarksTold : TablesView → List Entry → List Bool → List Bool → Type 0
MarksTold t entries old new = (h : Log) → StandsAt t h → (c : ClassRef) → c.class < length t.supers → is_marked new c ≡ (is_marked old c || is_told h entries c)

-- a class reference and all below it are marked
abbrev pub IsMarkedBelow : TablesView → List Bool → ClassRef → Type 0
IsMarkedBelow t marks place = (h : Log) → StandsAt t h → (c : ClassRef) → c.class < length t.supers → is_member place (chain_at h c) ≡ true → is_marked marks c ≡ true

-- after all changes of a list are made, its journal gives what it affects
abbrev pub TellsAll : List Change → TablesView → List Entry → Type 0
TellsAll xs old journal = (h : Log) → IsSound h.origin → StandsAt old h → (c : ClassRef) → is_affected_by_all h xs c ≡ true → is_told (and_all h xs) journal c ≡ true
