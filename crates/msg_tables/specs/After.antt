-- What the changes do to the rows.
use Rattle.std.specs.Prelude.{ℕ, ◌&&◌, ◌==◌, true, false, List, [], ◌∷◌, ◌++◌, Option, Some, None, if◌then◌else◌, is_some, is_none, map, replicate, reverse, slice_set}
use Rattle.msg_names.specs.declared.value.ClassRef.{ClassRef}
use Rattle.msg_names.specs.declared.value.Selector.{Selector}
use Rattle.msg_names.specs.declared.value.ImpRef.{ImpRef}
use Rattle.msg_names.specs.Number.{selector_number, imp_number}
use Rattle.msg_tables.specs.Origin.{OriginView}
use Rattle.msg_tables.specs.Methods.{MethodsOf}
use Rattle.msg_tables.specs.declared.change.Change.{Change}
use Rattle.msg_tables.specs.declared.change.Change.TheVariants.{Add, Replace, SetImp, Exchange, Attach, AddClass, Remove, DisposeClass}
use Rattle.msg_tables.specs.declared.presence.Presence.{Presence}
use Rattle.msg_tables.specs.Rows.{Row, ClassTable, is_at, own, holder_at, lookup_at}

-- the class itself
abbrev pub of_class : ℕ → ClassRef
of_class k = record { class = k; meta = false }

-- its metaclass
abbrev pub of_meta : ℕ → ClassRef
of_meta k = record { class = k; meta = true }

-- the rows of a method list
abbrev pub rows_at : ClassRef → List (ℕ × ℕ) → List Row
rows_at c methods = map (λ m. record { class = c; sel = m.0; imp = m.1 }) methods

-- the rows of method lists, which are attached one after another
abbrev pub list_rows : List MethodsOf → List Row
list_rows [] = []
list_rows (l ∷ ls) = rows_at l.class l.methods ++ list_rows ls

-- the listed classes are present when tables are opened, and the classes that may be made aren't
abbrev pub opened_supers : OriginView → List (Option Presence)
opened_supers o = map (λ (d : Option ℕ). Some (record { superclass = d })) o.superclasses ++ replicate o.made None

-- the tables when they are opened
unfoldable pub opening_table : OriginView → ClassTable
opening_table o = record { supers = opened_supers o; rows = list_rows o.lists }

-- another implementation in the own row
abbrev pub set_own : ClassRef → ℕ → ℕ → List Row → List Row
set_own c s i [] = []
set_own c s i (r ∷ rs) = (if is_at c s r && is_none (own rs c s) then record { class = c; sel = s; imp = i } else r) ∷ set_own c s i rs

-- another implementation in the method, at its place
abbrev pub set_method : Option ClassRef → ℕ → ℕ → List Row → List Row
set_method None s i rows = rows
set_method (Some holder) s i rows = set_own holder s i rows

-- without the own row
abbrev pub without_own : ClassRef → ℕ → List Row → List Row
without_own c s [] = []
without_own c s (r ∷ rs) = if is_at c s r && is_none (own rs c s) then rs else r ∷ without_own c s rs

-- without the rows of a class and of its metaclass
abbrev pub without_class : ℕ → List Row → List Row
without_class k [] = []
without_class k (r ∷ rs) = if r.class.class == k then without_class k rs else r ∷ without_class k rs

abbrev pub row : ClassRef → Selector → ImpRef → Row
row c s i = record { class = c; sel = selector_number s; imp = imp_number i }

-- The rows after a change. Attached methods are added at the end, each list from its last entry to
-- its first, so that the earlier of two entries counts.
abbrev pub rows_after : ClassTable → Change → List Row
rows_after t (Add c s i) = t.rows ++ row c s i ∷ []
rows_after t (Replace c s i) =
    if is_some (own t.rows c (selector_number s)) then set_own c (selector_number s) (imp_number i) t.rows else t.rows ++ row c s i ∷ []
rows_after t (SetImp c s i) = set_method (holder_at t c (selector_number s)) (selector_number s) (imp_number i) t.rows
rows_after t (Exchange c s d u) =
    let first = lookup_at t c (selector_number s) in
    let second = lookup_at t d (selector_number u) in
    set_method (holder_at t c (selector_number s)) (selector_number s) second (set_method (holder_at t d (selector_number u)) (selector_number u) first t.rows)
rows_after t (Attach k methods class_methods) =
    t.rows ++ rows_at (of_class k) (reverse methods) ++ rows_at (of_meta k) (reverse class_methods)
rows_after t (AddClass k d) = t.rows
rows_after t (Remove c s) = without_own c (selector_number s) t.rows
rows_after t (DisposeClass k) = without_class k t.rows

-- The classes after a change. A class that is made has the superclass that the change names, and
-- one that is disposed of is no longer present.
abbrev pub supers_after : List (Option Presence) → Change → List (Option Presence)
supers_after supers (Add c s i) = supers
supers_after supers (Replace c s i) = supers
supers_after supers (SetImp c s i) = supers
supers_after supers (Exchange c s d u) = supers
supers_after supers (Attach k methods class_methods) = supers
supers_after supers (AddClass k d) = slice_set supers k (Some (record { superclass = d }))
supers_after supers (Remove c s) = supers
supers_after supers (DisposeClass k) = slice_set supers k None

-- the tables after a change
unfoldable pub table_after : ClassTable → Change → ClassTable
table_after t x = record { supers = supers_after t.supers x; rows = rows_after t x }
