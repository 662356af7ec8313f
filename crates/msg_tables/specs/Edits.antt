-- What an accepted change writes.
use Rattle.std.specs.Prelude.{◌⊎◌, ◌≡◌, ◌<◌, ◌≤◌, ℕ, ◌+◌, List, [], ◌∷◌, ◌++◌, Some, None, Result, Ok, Err, IsSome, length, reverse, true, false, Option, IfSome, slice_set}
use Rattle.msg_names.specs.Number.{selector_number, imp_number}
use Rattle.msg_tables.specs.declared.change.Change.{Change}
use Rattle.msg_tables.specs.declared.change.Change.TheVariants as changes
use Rattle.msg_tables.specs.declared.edit.MethodRow.{MethodRow}
use Rattle.msg_tables.specs.declared.edit.Edit.{Edit}
use Rattle.msg_tables.specs.declared.edit.Edit.TheVariants.{Append, Rewrite, RewriteBoth, Attach, Make, Remove, Dispose}
use Rattle.msg_tables.specs.declared.fault.ChangeFault.{ChangeFault}
use Rattle.msg_tables.specs.declared.presence.Presence.{Presence}
use Rattle.msg_tables.specs.Chain.{is_present, has_subclass}
use Rattle.msg_tables.specs.Rows.{Row}
use Rattle.msg_rows.specs.RowList.{own_in}
use Rattle.msg_tables.specs.After.{row, rows_at, of_class, of_meta, set_own, without_own, without_class, rows_after, supers_after}
use Rattle.msg_tables.specs.Log.{Log, table}
use Rattle.msg_tables.specs.Refusal.{least_change_fault, refusal, unfit, unfit_methods}
use Rattle.msg_tables.specs.Stands.{Holds, StandsAt}
use Rattle.msg_tables.specs.View.{LacksRoom, TablesView, kept}
use Rattle.msg_tables.specs.Origin.{last_imp, are_listed}

-- another implementation in the own row
abbrev pub rewritten : MethodRow → List Row → List Row
rewritten r rows = set_own r.class (selector_number r.sel) (imp_number r.imp) rows

-- the rows after an edit
abbrev pub edited : Edit → List Row → List Row
edited (Append r) rows = rows ++ row r.class r.sel r.imp ∷ []
edited (Rewrite r) rows = rewritten r rows
edited (RewriteBoth first second) rows = rewritten first (rewritten second rows)
edited (Attach k methods class_methods) rows = rows ++ rows_at (of_class k) (reverse methods.now) ++ rows_at (of_meta k) (reverse class_methods.now)
edited (Make k d) rows = rows
edited (Remove c s) rows = without_own c (selector_number s) rows
edited (Dispose k) rows = without_class k rows

-- the classes after an edit
abbrev pub supers_edited : Edit → List (Option Presence) → List (Option Presence)
supers_edited (Make k d) supers = slice_set supers k (Some (record { superclass = d }))
supers_edited (Dispose k) supers = slice_set supers k None
supers_edited _ supers = supers

-- the number of rows that an edit adds
abbrev pub added : Edit → ℕ
added (Append r) = 1
added (Rewrite r) = 0
added (RewriteBoth first second) = 0
added (Attach k methods class_methods) = length methods.now + length class_methods.now
added (Make k d) = 0
added (Remove c s) = 0
added (Dispose k) = 0

-- the number of rows that an edit removes
abbrev pub removed : TablesView → Edit → ℕ
removed t (Remove c s) = 1
removed t (Dispose k) = length (kept t.lists (of_class k)) + length (kept t.lists (of_meta k))
removed t _ = 0

-- the own row exists, and the implementation is listed
pub record IsOwn (t : TablesView) (r : MethodRow) : Type 0 where
  pub class : r.class.class < length t.supers
  pub own : IsSome (own_in (selector_number r.sel) (kept t.lists r.class))
  pub imp : imp_number r.imp ≤ last_imp t.counts

-- the edit names only what exists
abbrev pub IsOfTables : TablesView → Edit → Type 0
IsOfTables t (Append r) = (r.class.class < length t.supers) × (imp_number r.imp ≤ last_imp t.counts)
IsOfTables t (Rewrite r) = IsOwn t r
IsOfTables t (RewriteBoth first second) = IsOwn t first × IsOwn t second
IsOfTables t (Attach k methods class_methods) = (k < length t.supers) × (are_listed (last_imp t.counts) methods.now ≡ true) × (are_listed (last_imp t.counts) class_methods.now ≡ true)
IsOfTables t (Make k d) = (k < length t.supers) × (is_present t.supers k ≡ false) × IfSome d (λ e. is_present t.supers e ≡ true)
IsOfTables t (Remove c s) = (c.class < length t.supers) × IsSome (own_in (selector_number s) (kept t.lists c))
IsOfTables t (Dispose k) = (is_present t.supers k ≡ true) × (has_subclass t.supers k ≡ false)

-- there is room for the edit, and it names only what exists
pub record Fits (t : TablesView) (e : Edit) : Type 0 where
  pub named : IsOfTables t e
  pub rows : t.row_count + added e ≤ t.limits.rows
  pub changes : t.change_count < t.limits.changes

-- n more rows and one more change keep within the limits
abbrev pub HasRoomFor : TablesView → ℕ → Type 0
HasRoomFor t n = (t.row_count + n ≤ t.limits.rows) × (t.change_count < t.limits.changes)

-- why a row could not be there, whatever rows there are
abbrev pub fault_of_row : Log → MethodRow → Option ChangeFault
fault_of_row h r = least_change_fault (unfit h r.class r.sel r.imp)

-- why methods could not be attached, whatever rows there are
abbrev pub fault_of_methods : Log → List (ℕ × ℕ) → List (ℕ × ℕ) → Option ChangeFault
fault_of_methods h methods class_methods = least_change_fault (unfit_methods h (methods ++ class_methods))

-- the change that adds a row
abbrev pub adding : MethodRow → Change
adding r = changes.Add r.class r.sel r.imp

-- the change that replaces a row in the class itself
abbrev pub replacing : MethodRow → Change
replacing r = changes.Replace r.class r.sel r.imp

-- the change that sets a method's implementation at the place where it is found
abbrev pub setting : MethodRow → Change
setting r = changes.SetImp r.class r.sel r.imp

-- a change was judged at a log
abbrev pub Judges : Log → Change → Result Edit ChangeFault → Type 0
Judges h x (Ok e) = (refusal h x ≡ None) × (rows_after (table h) x ≡ edited e (table h).rows) × (supers_after (table h).supers x ≡ supers_edited e (table h).supers)
Judges h x (Err f) = refusal h x ≡ Some f

-- a change was judged, at whatever log tables are
abbrev pub IsJudged : TablesView → Change → Result Edit ChangeFault → Type 0
IsJudged t x r = (h : Log) → StandsAt t h → Judges h x r

-- an edit changed the tables' rows, and nothing else
pub record Writes (old new : TablesView) (e : Edit) : Type 0 where
  pub rows : (rows : List Row) → Holds old.lists rows → Holds new.lists (edited e rows)
  pub row_count : new.row_count + removed old e ≡ old.row_count + added e
  pub rest : new ≡ record old { supers = supers_edited e old.supers; order = new.order; lists = new.lists; rooms = new.rooms; row_count = new.row_count }

-- a class reference has no room for the rows that an edit adds
abbrev pub EditLacksRoom : TablesView → Edit → Type 0
EditLacksRoom t (Append r) = LacksRoom t r.class 1
EditLacksRoom t (Attach k methods class_methods) = LacksRoom t (of_class k) (length methods.now) ⊎ LacksRoom t (of_meta k) (length class_methods.now)
EditLacksRoom t _ = ⊥
