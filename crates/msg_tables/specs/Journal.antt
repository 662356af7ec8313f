-- What a list of changes wrote, from the first entry to the last, and how it is taken back.
use Rattle.std.specs.Prelude.{◌≡◌, ◌<◌, ◌≤◌, ◌+◌, ◌*◌, ◌-◌, ℕ, Bool, true, false, List, [], ◌∷◌, ◌++◌, Option, Some, None, length, slice_set, slice_index_or, sum_by, take, drop, map, reverse, Vec, ◌||◌}
use Rattle.std.specs.Borrow.{Bor}
use Rattle.std.specs.Global.{Global}
use Rattle.std.specs.List.{list_all}
use Rattle.msg_names.specs.declared.value.ClassRef.{ClassRef}
use Rattle.msg_names.specs.declared.value.ImpRef.{ImpRef}
use Rattle.msg_names.specs.declared.value.Selector.{Selector}
use Rattle.msg_names.specs.ClassRef.{slot_of}
use Rattle.msg_names.specs.Number.{selector_number, imp_number, imp_ref_of, selector_of}
use Rattle.msg_tables.specs.declared.change.Change.{Change}
use Rattle.msg_tables.specs.declared.change.Change.TheVariants.{Replace, AddClass, Remove, DisposeClass}
use Rattle.msg_tables.specs.declared.edit.Edit.{Edit}
use Rattle.msg_tables.specs.declared.edit.MethodRow.{MethodRow}
use Rattle.msg_tables.specs.declared.edit.Edit.TheVariants as edits
use Rattle.msg_tables.specs.declared.entry.Entry.{Entry}
use Rattle.msg_tables.specs.declared.entry.Entry.TheVariants.{Added, Rewrote, Removed, Made, Disposed}
use Rattle.msg_tables.specs.declared.limits.TheConstants.{MAX_CLASSES}
use Rattle.msg_tables.specs.declared.presence.Presence.{Presence}
use Rattle.msg_tables.specs.Affected.{at_most_one, if_any, written_refs}
use Rattle.msg_tables.specs.After.{of_class, of_meta}
use Rattle.msg_tables.specs.Edits.{Writes}
use Rattle.msg_tables.specs.Log.{Log, table}
use Rattle.msg_tables.specs.Order.{IsOrder}
use Rattle.msg_tables.specs.Origin.{last_imp, are_listed}
use Rattle.msg_rows.specs.RowList.{HaveGrown, RowList, rooms_of, rows_of, last_index, own_in, set_last, with_row_at, without_last, without_row}
use Rattle.msg_tables.specs.Several.{is_of_one, made_by}
use Rattle.msg_tables.specs.Chain.{is_member, presence_of}
use Rattle.std.specs.Option.{option_map_or}
use Rattle.msg_tables.specs.Stands.{StandsAt}
use Rattle.msg_tables.specs.Undo.{covering, removing, undo}
use Rattle.msg_tables.specs.View.{IsKept, TablesView, kept}

-- the class reference at which a row was added, rewritten or removed
abbrev pub place_of : Entry → Option ClassRef
place_of (Added c s) = Some c
place_of (Rewrote c s i) = Some c
place_of (Removed c s i at) = Some c
place_of (Made k) = None
place_of (Disposed k d at) = None

-- the class references of all entries
abbrev pub places_of : List Entry → List ClassRef
places_of [] = []
places_of (e ∷ es) = at_most_one (place_of e) ++ places_of es

-- the classes that were made or disposed of
abbrev pub classes_of : List Entry → List ℕ
classes_of [] = []
classes_of (Made k ∷ es) = k ∷ classes_of es
classes_of (Disposed k d at ∷ es) = k ∷ classes_of es
classes_of (_ ∷ es) = classes_of es

-- the class of an entry is one of the first n
abbrev pub NamesListed : ℕ → Entry → Type 0
NamesListed n (Added c s) = c.class < n
NamesListed n (Rewrote c s i) = c.class < n
NamesListed n (Removed c s i at) = c.class < n
NamesListed n (Made k) = k < n
NamesListed n (Disposed k d at) = k < n

-- the same for each entry
abbrev pub AllNameListed : ℕ → List Entry → Type 0
AllNameListed n [] = Unit {0}
AllNameListed n (e ∷ es) = NamesListed n e × AllNameListed n es

-- the lists of rows before an entry
abbrev pub lists_before : Entry → List (List (ℕ × ℕ)) → List (List (ℕ × ℕ))
lists_before (Added c s) lists = slice_set lists (slot_of c) (without_last 1 (kept lists c))
lists_before (Removed c s i at) lists = slice_set lists (slot_of c) (with_row_at at s i (kept lists c))
lists_before (Disposed k d at) lists = lists
lists_before (Rewrote c s i) lists = slice_set lists (slot_of c) (set_last (selector_number s) (imp_number i) (kept lists c))
lists_before (Made k) lists = lists

-- the lists of rows after a row was rewritten
abbrev pub lists_rewritten : MethodRow → List (List (ℕ × ℕ)) → List (List (ℕ × ℕ))
lists_rewritten r lists = slice_set lists (slot_of r.class) (set_last (selector_number r.sel) (imp_number r.imp) (kept lists r.class))

-- the entry of a row that was rewritten, with the implementation that it had
abbrev pub rewrote : MethodRow → ImpRef → Entry
rewrote r was = Rewrote r.class r.sel was

-- the own row that is named has this implementation
abbrev pub IsImpOf : TablesView → MethodRow → ImpRef → Type 0
IsImpOf t r i = own_in (selector_number r.sel) (kept t.lists r.class) ≡ Some (imp_number i)

-- the classes before an entry
abbrev pub supers_before : Entry → List (Option Presence) → List (Option Presence)
supers_before (Made k) supers = slice_set supers k None
supers_before (Disposed k d at) supers = slice_set supers k (Some (record { superclass = d }))
supers_before _ supers = supers

-- the order of the classes before an entry
abbrev pub order_before : Entry → List ℕ → List ℕ
order_before (Made k) order = take (length order - 1) order
order_before (Disposed k d at) order = take at order ++ k ∷ drop at order
order_before _ order = order

-- the entries are taken back, the last first
abbrev pub before_all : {A : Type 0} → (Entry → A → A) → List Entry → A → A
before_all f [] a = a
before_all f (e ∷ es) a = f e (before_all f es a)

-- an entry of a class that was made or disposed of
abbrev pub makes : Entry → Bool
makes (Made k) = true
makes (Disposed k d at) = true
makes _ = false

-- there is room for what an entry gives back, if the lists and the order are then as given
abbrev pub FitsBack : List ℕ → ℕ → List (List (ℕ × ℕ)) → List ℕ → Entry → Type 0
FitsBack rooms classes lists order (Removed c s i at) = (at < length (kept lists c)) × (length (kept lists c) ≤ slice_index_or rooms (slot_of c) 0)
FitsBack rooms classes lists order (Disposed k d at) = (at < length order) × (length order ≤ classes)
FitsBack rooms classes lists order _ = Unit {0}

-- the same for each entry, after the later ones were taken back
abbrev pub AllFitBack : List ℕ → ℕ → List (List (ℕ × ℕ)) → List ℕ → List Entry → Type 0
AllFitBack rooms classes lists order [] = Unit {0}
AllFitBack rooms classes lists order (e ∷ es) =
    FitsBack rooms classes (before_all lists_before (e ∷ es) lists) (before_all order_before (e ∷ es) order) e × AllFitBack rooms classes lists order es

-- the same for the lists and the order of the code, before the journal is taken back
abbrev pub CanGoBack : Entry → ℕ → List RowList → List ℕ → Type 0
CanGoBack e classes lists order = FitsBack (rooms_of lists) classes (lists_before e (rows_of lists)) (order_before e order) e

abbrev pub CanAllGoBack : List Entry → ℕ → List RowList → List ℕ → Type 0
CanAllGoBack es classes lists order = AllFitBack (rooms_of lists) classes (rows_of lists) order es

-- After all entries are taken back, the present state is the former one, and there is room for
-- that.
pub record IsJournalOf (journal : List Entry) (old new : TablesView) : Type 0 where
  pub lists : before_all lists_before journal new.lists ≡ old.lists
  pub supers : before_all supers_before journal new.supers ≡ old.supers
  pub order : before_all order_before journal new.order ≡ old.order
  pub grown : HaveGrown old.rooms new.rooms
  pub room : AllFitBack new.rooms (length new.supers) new.lists new.order journal

-- the entry of a row that was rewritten takes it back
abbrev pub TellsRewritten : MethodRow → TablesView → TablesView → Type 0
TellsRewritten r old new = (was : ImpRef) → IsImpOf old r was → IsJournalOf (rewrote r was ∷ []) old new

-- the entries of two such rows take them back
abbrev pub TellBothRewritten : MethodRow → MethodRow → TablesView → TablesView → Type 0
TellBothRewritten first second old new = (one two : ImpRef) → IsImpOf old first one → IsImpOf old second two → IsJournalOf (rewrote first one ∷ rewrote second two ∷ []) old new

-- the entries of rows that were added
abbrev pub added_all : ClassRef → List (ℕ × ℕ) → List Entry
added_all c methods = map (λ m. Added c (selector_of m.0)) methods

-- the last own row of a class reference and a selector was removed
abbrev pub IsRemoved : ClassRef → Selector → TablesView → TablesView → Type 0
IsRemoved c s old new = new ≡ record old {
  lists = slice_set old.lists (slot_of c) (without_row (selector_number s) (kept old.lists c));
  rooms = new.rooms;
  row_count = new.row_count;
}

-- an entry describes that row
pub record TellsRemoved (t : TablesView) (c : ClassRef) (s : Selector) (e : Entry) : Type 0 where
  pub imp : ImpRef
  pub at : ℕ
  pub is : e ≡ Removed c s imp at
  pub own : own_in (selector_number s) (kept t.lists c) ≡ Some (imp_number imp)
  pub last : last_index (selector_number s) (kept t.lists c) ≡ Some at

-- an entry describes a class that was removed
pub record TellsDisposed (t : TablesView) (k : ℕ) (e : Entry) : Type 0 where
  pub superclass : Option ℕ
  pub at : ℕ
  pub is : e ≡ Disposed k superclass at
  pub was : presence_of t.supers k ≡ Some (record { superclass = superclass })

-- the entries of a category that was attached take it back
abbrev pub TellAttached : ℕ → List (ℕ × ℕ) → List (ℕ × ℕ) → TablesView → TablesView → Type 0
TellAttached k methods class_methods old new = IsJournalOf (added_all (of_class k) (reverse methods) ++ added_all (of_meta k) (reverse class_methods)) old new

-- the class references at which an edit adds, rewrites or removes rows of classes that stay
abbrev pub edit_places : Edit → List ClassRef
edit_places (edits.Append r) = r.class ∷ []
edit_places (edits.Rewrite r) = r.class ∷ []
edit_places (edits.RewriteBoth first second) = first.class ∷ second.class ∷ []
edit_places (edits.Attach k methods class_methods) = if_any methods.now (of_class k) ++ if_any class_methods.now (of_meta k)
edit_places (edits.Make k d) = []
edit_places (edits.Remove c s) = c ∷ []
edit_places (edits.Dispose k) = []

-- the class that an edit makes or disposes of
abbrev pub edit_made : Edit → List ℕ
edit_made (edits.Make k d) = k ∷ []
edit_made (edits.Dispose k) = k ∷ []
edit_made _ = []

-- that is the class that a change makes or disposes of
abbrev pub MakesTheSame : Change → Edit → Type 0
MakesTheSame x e = edit_made e ≡ made_by x

-- the number of entries that describe an edit
abbrev pub entry_count : TablesView → Edit → ℕ
entry_count t (edits.RewriteBoth first second) = 2
entry_count t (edits.Attach k methods class_methods) = length methods.now + length class_methods.now
entry_count t (edits.Dispose k) = length (kept t.lists (of_class k)) + length (kept t.lists (of_meta k)) + 1
entry_count t _ = 1

-- the change that takes an entry back
abbrev pub undo_entry : Entry → Change
undo_entry (Added c s) = Remove c s
undo_entry (Rewrote c s i) = Replace c s i
undo_entry (Removed c s i at) = covering c (selector_number s) (imp_number i)
undo_entry (Made k) = DisposeClass k
undo_entry (Disposed k d at) = AddClass k d

-- the changes that take a journal back, the last entry first
abbrev pub undo_journal : List Entry → List Change
undo_journal [] = []
undo_journal (e ∷ es) = undo_journal es ++ undo_entry e ∷ []

-- the change that gives an own row its implementation again
abbrev pub undo_own : TablesView → MethodRow → List Change
undo_own t r = option_map_or (λ i. Replace r.class r.sel (imp_ref_of i) ∷ []) (own_in (selector_number r.sel) (kept t.lists r.class)) []

-- the changes that add rows again, oldest first
abbrev pub cover_all : ClassRef → List (ℕ × ℕ) → List Change
cover_all c methods = map (λ m. covering c m.0 m.1) methods

-- the changes that take an edit back, by the tables before it
abbrev pub edit_undo : TablesView → Edit → List Change
edit_undo t (edits.Append r) = Remove r.class r.sel ∷ []
edit_undo t (edits.Rewrite r) = undo_own t r
edit_undo t (edits.RewriteBoth first second) = undo_own t second ++ undo_own t first
edit_undo t (edits.Attach k methods class_methods) = removing (of_meta k) class_methods.now ++ removing (of_class k) methods.now
edit_undo t (edits.Make k d) = DisposeClass k ∷ []
edit_undo t (edits.Remove c s) = option_map_or (λ i. covering c (selector_number s) i ∷ []) (own_in (selector_number s) (kept t.lists c)) []
edit_undo t (edits.Dispose k) =
    option_map_or (λ (p : Presence). AddClass k p.superclass ∷ cover_all (of_class k) (kept t.lists (of_class k)) ++ cover_all (of_meta k) (kept t.lists (of_meta k))) (presence_of t.supers k) []

-- an edit writes where the change does
abbrev pub WritesAt : TablesView → Change → Edit → Type 0
WritesAt t x e = (h : Log) → StandsAt t h → edit_places e ≡ written_refs h x

-- the changes that take an edit back are those that take the change back
abbrev pub IsUndoneBy : TablesView → Change → Edit → Type 0
IsUndoneBy t x e = (h : Log) → StandsAt t h → edit_undo t e ≡ undo (table h) x

-- the places are those at which something was written, and otherwise only places of classes that
-- were made or disposed of
pub record ArePlacesOf (written : List ClassRef) (made : List ℕ) (places : List ClassRef) : Type 0 where
  pub told : (c : ClassRef) → is_member c written ≡ true → is_member c places ≡ true
  pub only : (c : ClassRef) → is_member c places ≡ true → (is_of_one made c || is_member c written) ≡ true

-- an edit was made, and the journal has what it wrote added
pub record Journals (e : Edit) (journal longer : List Entry) (old new : TablesView) : Type 0 where
  pub writes : Writes old new e
  pub entries : List Entry
  pub is : longer ≡ journal ++ entries
  pub back : IsJournalOf entries old new
  pub places : ArePlacesOf (edit_places e) (edit_made e) (places_of entries)
  pub made : classes_of entries ≡ edit_made e
  pub undone : undo_journal entries ≡ edit_undo old e
  pub listed : AllNameListed (length old.supers) entries

-- rows of a class reference were removed, the last first, and the journal has them added
pub record TakesRows (c : ClassRef) (journal longer : List Entry) (old new : TablesView) : Type 0 where
  pub entries : List Entry
  pub is : longer ≡ journal ++ entries
  pub few : length entries + length (kept new.lists c) ≡ length (kept old.lists c)
  pub row_count : new.row_count + length entries ≡ old.row_count
  pub lists : new.lists ≡ slice_set old.lists (slot_of c) (kept new.lists c)
  pub rest : new ≡ record old { lists = new.lists; rooms = new.rooms; row_count = new.row_count }
  pub back : IsJournalOf entries old new
  pub places : (d : ClassRef) → is_member d (places_of entries) ≡ true → d ≡ c
  pub made : classes_of entries ≡ []
  pub undone : cover_all c (kept new.lists c) ++ undo_journal entries ≡ cover_all c (kept old.lists c)
  pub listed : AllNameListed (length old.supers) entries

-- the same for the vector that holds the journal
abbrev pub IsNoted : Edit → Vec Entry Global → Vec Entry Global → TablesView → TablesView → Type 0
IsNoted e journal longer old new = Journals e journal.items longer.items old new

-- the same for a category that is attached
abbrev pub IsAttachNoted : ℕ → Bor (List (ℕ × ℕ)) → Bor (List (ℕ × ℕ)) → Vec Entry Global → Vec Entry Global → TablesView → TablesView → Type 0
IsAttachNoted k methods class_methods journal longer old new = IsNoted (edits.Attach k methods class_methods) journal longer old new

-- what tables keep, as far as contracts see it
pub record IsSoundView (t : TablesView) : Type 0 where
  pub order : IsOrder t.supers t.order
  pub lists : length t.lists ≡ 2 * length t.supers
  pub listed : list_all (are_listed (last_imp t.counts)) t.lists ≡ true
  pub counted : t.row_count ≡ sum_by length t.lists
  pub few_classes : length t.supers ≤ MAX_CLASSES
  pub few_rows : t.row_count ≤ t.limits.rows
  pub few_changes : t.change_count ≤ t.limits.changes

-- the state before the journal, with its counts of rows and of changes
pub record GoesBack (journal : List Entry) (rows changes : ℕ) (old now : TablesView) : Type 0 where
  pub sound : IsSoundView old
  pub back : IsJournalOf journal old now
  pub rest : old ≡ record now { supers = old.supers; order = old.order; lists = old.lists; rooms = old.rooms; row_count = rows; change_count = changes }

-- whatever the state before the journal was, it is restored, with the room that there is now
abbrev pub AreTakenBack : List Entry → ℕ → ℕ → TablesView → TablesView → Type 0
AreTakenBack journal rows changes now new = (old : TablesView) → GoesBack journal rows changes old now → IsKept old new
