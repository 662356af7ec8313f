-- Lists of changes in numbers.
use Rattle.std.specs.Prelude.{◌≡◌, ◌≢◌, ◌<◌, ◌+◌, ◌⊎◌, ℕ, ◌==◌, if◌then◌else◌, Bool, true, false, List, map, take, length, slice_get, Option, Some, None, Result, Ok, Err}
use Rattle.std.specs.List.{list_all}
use Rattle.std.specs.Result.{is_ok}
use Rattle.msg_names.specs.declared.value.ClassRef.{ClassRef}
use Rattle.msg_names.specs.declared.value.Selector.{Selector}
use Rattle.msg_names.specs.Number.{imp_number, imp_ref_of, selector_number, selector_of}
use Rattle.msg_tables.specs.ChangeList as by_ref
use Rattle.msg_tables.specs.declared.change.ChangeRef.{ChangeRef}
use Rattle.msg_tables.specs.declared.change.Change.{Change}
use Rattle.msg_tables.specs.declared.change.Change.TheVariants.{Add, Replace, SetImp, Exchange, AddClass, Remove, DisposeClass}
use Rattle.msg_tables.specs.declared.entry.Entry.{Entry}
use Rattle.msg_tables.specs.declared.entry.Entry.TheVariants.{Added, Rewrote, Removed, Made, Disposed}
use Rattle.msg_tables.specs.declared.fault.ChangeFault.{ChangeFault}
use Rattle.msg_tables.specs.FaultNumber.{change_fault_number}
use Rattle.msg_tables.specs.History.{History, log}
use Rattle.msg_tables.specs.Log.{table}
use Rattle.msg_tables.specs.Made.{AreMade, TellsWayBack}
use Rattle.msg_tables.specs.Marking.{MarksAffectedByAll}
use Rattle.msg_tables.specs.Several.{refused_from}
use Rattle.msg_tables.specs.Undo.{covering, undo_all}
use Rattle.msg_cache.specs.Views.{classes}
use Rattle.msg_runtime.specs.Calls.{HoldsRoomFor, LacksRoomFor}
use Rattle.msg_runtime.specs.Spared.{ChillsAffected, OnlyFlushesOf, SparesOthers}
use Rattle.msg_runtime.specs.View.{RuntimeView}
use Rattle.msg_host.specs.Asking.{ask_fault_number, want_of_memory, want_of_room}
use Rattle.msg_host.specs.Named.{ref_of}
use Rattle.msg_host.specs.declared.fault.AskFault.{AskFault}
use Rattle.msg_host.specs.declared.fault.AskFault.TheVariants.{NoSelector, BadRow}
use Rattle.msg_host.specs.declared.listing.ChangeRow.{ChangeRow}
use Rattle.msg_host.specs.declared.listing.RowsUnmade.{RowsUnmade}
use Rattle.msg_host.specs.declared.listing.RowsUnmade.TheVariants.{Fault, TooLong}
use Rattle.msg_host.specs.declared.listing.RowFault.{RowFault}

-- the class reference of a number: a 0 next to it is for the class, a 1 for its metaclass
abbrev pub ref_in : ℕ → ℕ → Result ClassRef AskFault
ref_in k meta = if meta == 0 then Ok (ref_of k false) else (if meta == 1 then Ok (ref_of k true) else Err BadRow)

-- the selector of a number
abbrev pub selector_in : ℕ → Result Selector AskFault
selector_in n = if n == 0 then Err NoSelector else Ok (selector_of n)

-- both, or the first fault
abbrev pub both : {A B : Type 0} → Result A AskFault → Result B AskFault → Result (A × B) AskFault
both (Ok a) (Ok b) = Ok (a, b)
both (Ok a) (Err f) = Err f
both (Err f) o = Err f

-- the method that numbers name
abbrev pub method_in : ℕ → ℕ → ℕ → Result (ClassRef × Selector) AskFault
method_in k meta s = both (ref_in k meta) (selector_in s)

-- a row of a kind that names a method, and perhaps its implementation
abbrev pub method_row : ℕ → ClassRef → Selector → ℕ → ChangeRow
method_row kind c s i = record { kind = kind; class = c.class; meta = if c.meta then 1 else 0; sel = selector_number s; imp = i; other = 0; other_meta = 0; other_sel = 0 }

-- a row of a kind that names a class, and perhaps its superclass
abbrev pub class_row : ℕ → ℕ → ℕ → ChangeRow
class_row kind k d = record { kind = kind; class = k; meta = 0; sel = 0; imp = 0; other = d; other_meta = 0; other_sel = 0 }

-- the row that makes a class
abbrev pub making_row : ℕ → Option ℕ → ChangeRow
making_row k None = class_row 6 k 0
making_row k (Some d) = class_row 5 k d

-- the row of the change that takes an entry back
abbrev pub undoing : Entry → ChangeRow
undoing (Added c s) = method_row 7 c s 0
undoing (Rewrote c s i) = method_row 2 c s (imp_number i)
undoing (Removed c s i at) = method_row 9 c s (imp_number i)
undoing (Made k) = class_row 8 k 0
undoing (Disposed k d at) = making_row k d

-- the exchange of two methods
abbrev pub exchange_of : ClassRef × Selector → ClassRef × Selector → Change
exchange_of m n = Exchange m.0 m.1 n.0 n.1

-- a change of what numbers name
abbrev pub change_of : {A : Type 0} → (A → Change) → Result A AskFault → Result Change AskFault
change_of make (Ok a) = Ok (make a)
change_of make (Err f) = Err f

-- the exchange that a row means
abbrev pub exchange_in : ChangeRow → Result Change AskFault
exchange_in r = change_of (λ m. exchange_of m.0 m.1) (both (method_in r.class r.meta r.sel) (method_in r.other r.other_meta r.other_sel))

-- the removal that a row means
abbrev pub removal_in : ChangeRow → Result Change AskFault
removal_in r = change_of (λ m. Remove m.0 m.1) (method_in r.class r.meta r.sel)

-- the category of one method that a row means
abbrev pub covering_in : ChangeRow → Result Change AskFault
covering_in r = change_of (λ m. covering m.0 (selector_number m.1) r.imp) (method_in r.class r.meta r.sel)

-- the change that a row means, or why it means none
abbrev pub change_in : ChangeRow → Result Change AskFault
change_in r =
    if r.kind == 1 then change_of (λ m. Add m.0 m.1 (imp_ref_of r.imp)) (method_in r.class r.meta r.sel)
    else (if r.kind == 2 then change_of (λ m. Replace m.0 m.1 (imp_ref_of r.imp)) (method_in r.class r.meta r.sel)
    else (if r.kind == 3 then change_of (λ m. SetImp m.0 m.1 (imp_ref_of r.imp)) (method_in r.class r.meta r.sel)
    else (if r.kind == 4 then exchange_in r
    else (if r.kind == 5 then Ok (AddClass r.class (Some r.other))
    else (if r.kind == 6 then Ok (AddClass r.class None)
    else (if r.kind == 7 then removal_in r
    else (if r.kind == 8 then Ok (DisposeClass r.class)
    else (if r.kind == 9 then covering_in r else Err BadRow))))))))

-- a change that was read, or the fault
abbrev pub read : Result ChangeRef AskFault → Result Change AskFault
read (Ok r) = Ok (by_ref.change_of r)
read (Err f) = Err f

-- each row means a change
abbrev pub are_meant : List ChangeRow → Bool
are_meant rows = list_all (λ r. is_ok (change_in r)) rows

-- the change, if there is one; else some other
abbrev pub change_or_other : Result Change AskFault → Change
change_or_other (Ok x) = x
change_or_other (Err f) = AddClass 0 None

-- the changes of rows each of which means one
abbrev pub changes_in : List ChangeRow → List Change
changes_in rows = map (λ r. change_or_other (change_in r)) rows

-- the rows mean these changes
abbrev pub AreMeant : List ChangeRow → List Change → Type 0
AreMeant rows xs = map change_in rows ≡ map (λ x. Ok x) xs

-- the changes that the rows mean were made as one, and there is room for what they needed
abbrev pub MakesRows : List ChangeRow → RuntimeView → RuntimeView → Type 0
MakesRows rows v w = (xs : List Change) × AreMeant rows xs × AreMade xs v.keeper.history w.keeper.history × HoldsRoomFor v w xs

-- the caches that the changes of rows affect are flushed, the others are left as they were, and
-- nothing but these flushes is remembered and counted
abbrev pub FlushesRows : List ChangeRow → RuntimeView → RuntimeView → Type 0
FlushesRows rows v w = (xs : List Change) × AreMeant rows xs × ChillsAffected xs v w × SparesOthers xs v w × OnlyFlushesOf v w

-- the row of this place means no change, and this is the number of its fault; those before mean
-- some
abbrev pub IsBadRow : List ChangeRow → ℕ → ℕ → Type 0
IsBadRow rows place n = (before : List Change) × AreMeant (take place rows) before
    × (row : ChangeRow) × (slice_get rows place ≡ Some row) × (f : AskFault) × (change_in row ≡ Err f) × (n ≡ ask_fault_number f)

-- the change of this place is the first that would be refused, and this is the number of its fault
abbrev pub IsRefusedRow : List ChangeRow → History → ℕ → ℕ → Type 0
IsRefusedRow rows h place n = (xs : List Change) × AreMeant rows xs × (f : ChangeFault) × (refused_from 0 (log h) xs ≡ Some (place, f)) × (n ≡ change_fault_number f)

-- rows are taken as changes one of which is refused at a history: the row of this place means none,
-- or is the first that would be refused
abbrev pub AreRefusedRows : List ChangeRow → History → ℕ → ℕ → Type 0
AreRefusedRows rows h place n = IsBadRow rows place n ⊎ IsRefusedRow rows h place n

-- the same, if the fault isn't a lack of memory
abbrev pub AreRowsRefusedAt : List ChangeRow → History → ℕ → ℕ → Type 0
AreRowsRefusedAt rows h place n = n ≢ want_of_memory → AreRefusedRows rows h place n

-- If memory was lacking, each row means a change. Neither those before this place nor that at it
-- would be refused, and there is too little room for these.
abbrev pub LackMemoryAt : List ChangeRow → RuntimeView → ℕ → Type 0
LackMemoryAt rows v place = (xs : List Change) × AreMeant rows xs × (refused_from 0 (log v.keeper.history) (take (place + 1) xs) ≡ None) × LacksRoomFor v (take (place + 1) xs)

-- the same, if that is the number
abbrev pub LackMemoryIf : List ChangeRow → RuntimeView → ℕ → ℕ → Type 0
LackMemoryIf rows v place n = n ≡ want_of_memory → LackMemoryAt rows v place

-- the changes that the rows mean would be made, and this is the number of those that take them back
abbrev pub WeighRows : List ChangeRow → History → ℕ → Type 0
WeighRows rows h n = (xs : List Change) × AreMeant rows xs × (refused_from 0 (log h) xs ≡ None) × (n ≡ length (undo_all (table (log h)) xs))

-- Why the changes of rows aren't made in a runtime: the number of a fault at the place of a row.
-- Unless memory is lacking, that row means no change, or its change is the first that would be
-- refused.
pub record IsRowFault (rows : List ChangeRow) (v : RuntimeView) (r : RowFault) : Type 0 where
  pub some : r.number ≢ 0
  pub room : r.number ≢ want_of_room
  pub place : r.place < length rows
  pub fault : AreRowsRefusedAt rows v.keeper.history r.place r.number
  pub memory : LackMemoryIf rows v r.place r.number

-- why they aren't made: such a fault, or the number of changes of their way back, which is more
-- than it may have
abbrev pub AreUnmadeRows : List ChangeRow → RuntimeView → ℕ → RowsUnmade → Type 0
AreUnmadeRows rows v most (Fault r) = IsRowFault rows v r
AreUnmadeRows rows v most (TooLong n) = WeighRows rows v.keeper.history n × (most < n)

-- what was written gives the way back from the changes that the rows mean, directly after they are
-- made at a history
abbrev pub TellsRowsBack : List ChangeRow → History → List Entry → Type 0
TellsRowsBack rows h entries = (xs : List Change) × AreMeant rows xs × TellsWayBack xs h entries

-- this number of rows mean the changes that take back those of these rows, directly after they are
-- made at a history
abbrev pub UndoesRows : List ChangeRow → History → List ChangeRow → ℕ → Type 0
UndoesRows rows h undo n = (xs : List Change) × AreMeant rows xs × AreMeant (take n undo) (undo_all (table (log h)) xs)

-- the changes of the rows would be made, and what they may alter is marked, in addition to what was
abbrev pub ReachesRows : List ChangeRow → History → ℕ → List Bool → List Bool → Type 0
ReachesRows rows h n old new = (xs : List Change) × AreMeant rows xs × (refused_from 0 (log h) xs ≡ None) × MarksAffectedByAll n (log h) xs old new

-- the same for a runtime
abbrev pub ReachesRowsOf : RuntimeView → List ChangeRow → List Bool → List Bool → Type 0
ReachesRowsOf v rows old new = ReachesRows rows v.keeper.history (classes v.arena) old new

-- what the changes before a row of this place may alter is marked, in addition to what was
abbrev pub ReachesRowsBefore : RuntimeView → List ChangeRow → ℕ → List Bool → List Bool → Type 0
ReachesRowsBefore v rows place old new = (xs : List Change) × AreMeant rows xs × MarksAffectedByAll (classes v.arena) (log v.keeper.history) (take place xs) old new

-- A row that means no change leaves the marks unchanged. If its change is the first that would be
-- refused, what those before it may alter is marked.
abbrev pub RefusesToReach : RuntimeView → List ChangeRow → ℕ → ℕ → List Bool → List Bool → Type 0
RefusesToReach v rows place n old new =
    (IsBadRow rows place n × (new ≡ old))
    ⊎ (IsRefusedRow rows v.keeper.history place n × ReachesRowsBefore v rows place old new)
