-- What a change writes, and where, before it is made.
use Rattle.std.specs.Prelude.{◌≡◌, ℕ, ◌<◌, ◌==◌, ◌&&◌, Bool, false, Option, Some, None, option_map, reverse, IfSome, if◌then◌else◌}
use Rattle.msg_names.specs.declared.value.ClassRef.{ClassRef}
use Rattle.msg_names.specs.declared.value.ImpRef.{ImpRef}
use Rattle.msg_names.specs.declared.value.Selector.{Selector}
use Rattle.msg_names.specs.Number.{selector_number, imp_number}
use Rattle.msg_tables.specs.declared.change.Change.{Change}
use Rattle.msg_tables.specs.declared.change.Change.TheVariants.{Add, Replace, SetImp, Exchange, Attach, AddClass, Remove, DisposeClass}
use Rattle.msg_names.specs.ClassRef.{same_class}
use Rattle.msg_tables.specs.Rows.{own}
use Rattle.msg_rows.specs.RowList.{or_else, own_in}
use Rattle.msg_tables.specs.After.{of_class, of_meta, rows_after}
use Rattle.msg_tables.specs.Log.{Log, and_then, lookup, holder, table}
use Rattle.msg_tables.specs.Stands.{StandsAt}
use Rattle.msg_tables.specs.View.{TablesView}

-- the implementation of a selector, if the method is written at this class reference
abbrev pub at_ref : Option ClassRef → ClassRef → ℕ → ℕ → ℕ → Option ℕ
at_ref None d s u i = None
at_ref (Some c) d s u i = if same_class c d && (s == u) then Some i else None

-- the same for the program's selectors and implementation
abbrev pub imp_at_ref : Option ClassRef → ClassRef → Selector → Selector → ImpRef → Option ℕ
imp_at_ref place here named sel imp = at_ref place here (selector_number named) (selector_number sel) (imp_number imp)

-- the implementation that a change writes at a class reference for a selector, if it writes one
abbrev pub written : Log → Change → ClassRef → ℕ → Option ℕ
written h (Add c s i) d u = at_ref (Some c) d (selector_number s) u (imp_number i)
written h (Replace c s i) d u = at_ref (Some c) d (selector_number s) u (imp_number i)
written h (SetImp c s i) d u = at_ref (holder h c (selector_number s)) d (selector_number s) u (imp_number i)
written h (Exchange c s e v) d u = or_else
    (at_ref (holder h c (selector_number s)) d (selector_number s) u (lookup h e (selector_number v)))
    (at_ref (holder h e (selector_number v)) d (selector_number v) u (lookup h c (selector_number s)))
written h (Attach k methods class_methods) d u = or_else
    (if same_class (of_meta k) d then own_in u (reverse class_methods) else None)
    (if same_class (of_class k) d then own_in u (reverse methods) else None)
written h (AddClass k d) e u = None
written h (Remove c s) d u = None
written h (DisposeClass k) e u = None

-- a change removes the own row of a class reference and a selector, if there is one
abbrev pub row_leaves : Change → ClassRef → ℕ → Bool
row_leaves (Remove c s) d u = same_class c d && (selector_number s == u)
row_leaves (DisposeClass k) d u = d.class == k
row_leaves _ d u = false

-- this is what a change writes at a class reference for a selector, at a log
abbrev pub IsWrittenAt : Log → Change → ClassRef → Selector → Option ImpRef → Type 0
IsWrittenAt h x here s o = option_map imp_number o ≡ written h x here (selector_number s)

-- the same, at whatever log tables are
abbrev pub IsWritten : TablesView → Change → ClassRef → Selector → Option ImpRef → Type 0
IsWritten t x here s o = (h : Log) → StandsAt t h → IsWrittenAt h x here s o

-- the implementation that a class reference itself has for a selector after a change is made
abbrev pub IsOwnAfter : TablesView → Change → ClassRef → Selector → Option ImpRef → Type 0
IsOwnAfter t x here s o = (h : Log) → StandsAt t h → option_map imp_number o ≡ own (rows_after (table h) x) here (selector_number s)

-- what a lookup finds after a change is made
abbrev pub IsFoundAfter : TablesView → Change → ClassRef → Selector → ImpRef → Type 0
IsFoundAfter t x c s i = (h : Log) → StandsAt t h → imp_number i ≡ lookup (and_then h x) c (selector_number s)

-- the classes at which a change looks for its methods are among the first n
abbrev pub SeeksAmong : ℕ → Change → Type 0
SeeksAmong n (Add c s i) = Unit {0}
SeeksAmong n (Replace c s i) = Unit {0}
SeeksAmong n (SetImp c s i) = c.class < n
SeeksAmong n (Exchange c s d u) = (c.class < n) × (d.class < n)
SeeksAmong n (Attach k methods class_methods) = Unit {0}
SeeksAmong n (AddClass k d) = IfSome d (λ e. e < n)
SeeksAmong n (Remove c s) = Unit {0}
SeeksAmong n (DisposeClass k) = Unit {0}
