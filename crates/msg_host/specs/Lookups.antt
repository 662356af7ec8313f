-- Several lookups in numbers.
use Rattle.std.specs.Prelude.{◌≡◌, ◌≢◌, ◌⊎◌, ℕ, ◌==◌, nat_lt, if◌then◌else◌, Bool, true, false, List, map, take, length, slice_get, Some, Result, Ok, Err}
use Rattle.std.specs.List.{list_all}
use Rattle.std.specs.Result.{is_ok}
use Rattle.msg_names.specs.Number.{selector_of}
use Rattle.msg_tables.specs.History.{History, BeginsWith, lookup}
use Rattle.msg_cache.specs.declared.view.SenderView.{SenderView as Seen}
use Rattle.msg_cache.specs.Views.{ArenaView, classes}
use Rattle.msg_reader.specs.Several.{AreNoted, AreNotedOrAt, KeepOthersOfAll, LackOne, MissOne}
use Rattle.msg_reader.specs.declared.lookup.Lookup.{Lookup}
use Rattle.msg_reader.specs.declared.notes.Notes.{Notes}
use Rattle.msg_host.specs.Asking.{ask_fault_number, want_of_room}
use Rattle.msg_host.specs.Named.{ref_of}
use Rattle.msg_host.specs.declared.fault.AskFault.{AskFault}
use Rattle.msg_host.specs.declared.fault.AskFault.TheVariants.{NoClass, NoSelector, BadRow}
use Rattle.msg_host.specs.declared.lookups.LookupRow.{LookupRow}

-- the lookup of a class, or of its metaclass, and a selector, among this number of classes
abbrev pub lookup_by : ℕ → ℕ → Bool → ℕ → Result Lookup AskFault
lookup_by n class meta sel = if nat_lt class n then (if sel == 0 then Err NoSelector else Ok (record { class = ref_of class meta; sel = selector_of sel })) else Err NoClass

-- the lookup that a row means, or why it means none
abbrev pub lookup_in : ℕ → LookupRow → Result Lookup AskFault
lookup_in n r = if r.meta == 0 then lookup_by n r.class false r.sel else (if r.meta == 1 then lookup_by n r.class true r.sel else Err BadRow)

-- each row means one
abbrev pub are_asked : ℕ → List LookupRow → Bool
are_asked n rows = list_all (λ r. is_ok (lookup_in n r)) rows

-- the lookup, if there is one; else some other
abbrev pub lookup_or_other : Result Lookup AskFault → Lookup
lookup_or_other (Ok k) = k
lookup_or_other (Err f) = record { class = ref_of 0 false; sel = selector_of 1 }

-- the lookups of rows each of which means one
abbrev pub lookups_in : ℕ → List LookupRow → List Lookup
lookups_in n rows = map (λ r. lookup_or_other (lookup_in n r)) rows

-- the row of this place means none, and this is the number of its fault; those before it mean some
abbrev pub IsBadLookup : ℕ → List LookupRow → ℕ → ℕ → Type 0
IsBadLookup n rows place number = (are_asked n (take place rows) ≡ true)
    × (r : LookupRow) × (slice_get rows place ≡ Some r) × (f : AskFault) × (lookup_in n r ≡ Err f) × (number ≡ ask_fault_number f)

-- Why rows aren't answered, if there are this number of places for results. Either that is another
-- number of places, and no place of a row is written; or the row of the place that is written means
-- no lookup.
abbrev pub AreRefusedLookups : ℕ → List LookupRow → ℕ → ℕ → ℕ → ℕ → Type 0
AreRefusedLookups n rows places old new number =
    ((number ≡ want_of_room) × (places ≢ length rows) × (new ≡ old)) ⊎ ((number ≢ want_of_room) × (places ≡ length rows) × IsBadLookup n rows new number)

-- The rows are answered: there are as many places for results, and each row means a lookup. No
-- place is written.
abbrev pub AreTakenLookups : ℕ → List LookupRow → ℕ → ℕ → ℕ → Type 0
AreTakenLookups n rows places old new = (places ≡ length rows) × (are_asked n rows ≡ true) × (new ≡ old)

-- ---- what is found

-- what the lookup that a row means finds at a history
abbrev pub row_found : History → LookupRow → ℕ
row_found h r = lookup h (ref_of r.class (r.meta == 1)) r.sel

-- these are what the lookups of the rows find, all at this history
abbrev pub AreRowsFoundAt : History → List LookupRow → List ℕ → Type 0
AreRowsFoundAt h rows imps = imps ≡ map (row_found h) rows

-- A sender's view went from v to w. These are what the lookups of the rows find, all at one
-- history. It is no older than what the sender had seen, and the sender has then seen it.
abbrev pub AreRowsFound : Seen → Seen → List LookupRow → List ℕ → Type 0
AreRowsFound v w rows imps = (h : History) × BeginsWith h v.front × BeginsWith w.front h × AreRowsFoundAt h rows imps

-- The notes have nothing of one of the lookups since a stamp of its class reference that was
-- loaded, or that says more changes than the sender had seen.
abbrev pub RowsLackOne : ArenaView → Notes → List LookupRow → Seen → Seen → Type 0
RowsLackOne a n rows v w = LackOne n (lookups_in (classes a) rows) v w

-- one of the lookups is missed by a probe, or the stamp of its class reference that was loaded last
-- says more changes than the sender had seen
abbrev pub RowsMissOne : ArenaView → List LookupRow → Seen → Seen → Type 0
RowsMissOne a rows v w = MissOne a (lookups_in (classes a) rows) v w

-- ---- what is noted

-- what each of the lookups found is noted, unless the note of a later one lies there
abbrev pub RowsAreNoted : ArenaView → Notes → Seen → Seen → List LookupRow → List ℕ → Type 0
RowsAreNoted a n v w rows imps = AreNoted n v w (lookups_in (classes a) rows) imps

-- the same, if they were answered at this history
abbrev pub RowsAreNotedOrAt : ArenaView → History → Notes → Seen → Seen → List LookupRow → List ℕ → Type 0
RowsAreNotedOrAt a h n v w rows imps = AreNotedOrAt h n v w (lookups_in (classes a) rows) imps

-- at each place but those of the lookups, notes have what they had
abbrev pub RowsKeepOthers : ArenaView → Notes → Notes → List LookupRow → Type 0
RowsKeepOthers a old new rows = KeepOthersOfAll old new (lookups_in (classes a) rows)
