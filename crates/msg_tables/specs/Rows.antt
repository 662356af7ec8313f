-- Rows of the class tables, and lookup.
use Rattle.std.specs.Prelude.{ℕ, ◌==◌, ◌&&◌, List, [], ◌∷◌, Bool, Option, Some, None, if◌then◌else◌, unwrap_or, is_some}
use Rattle.msg_names.specs.declared.value.ClassRef.{ClassRef}
use Rattle.msg_names.specs.ClassRef.{same_class}
use Rattle.msg_rows.specs.RowList.{or_else}
use Rattle.msg_tables.specs.Chain.{chain_of}
use Rattle.msg_tables.specs.declared.presence.Presence.{Presence}

-- a selector has an implementation at a class reference, both by number
pub record Row : Type 0 where
  pub class : ClassRef
  pub sel : ℕ
  pub imp : ℕ

-- for each class number the class with its superclass, if it is present, and the rows, oldest first
pub record ClassTable : Type 0 where
  pub supers : List (Option Presence)
  pub rows : List Row

-- the row is of this class reference and selector
abbrev pub is_at : ClassRef → ℕ → Row → Bool
is_at c s r = same_class r.class c && (r.sel == s)

-- the implementation in the own row of a class reference and a selector, which is the last of their
-- rows
abbrev pub own : List Row → ClassRef → ℕ → Option ℕ
own [] c s = None
own (r ∷ rs) c s = or_else (own rs c s) (if is_at c s r then Some r.imp else None)

-- the first of the class references with an own row
abbrev pub holder_in : List Row → List ClassRef → ℕ → Option ClassRef
holder_in rows [] s = None
holder_in rows (c ∷ cs) s = if is_some (own rows c s) then Some c else holder_in rows cs s

-- the implementation in the first own row, or 0 for forwarding
abbrev pub lookup_in : List Row → List ClassRef → ℕ → ℕ
lookup_in rows [] s = 0
lookup_in rows (c ∷ cs) s = unwrap_or (own rows c s) (lookup_in rows cs s)

abbrev pub chain : ClassTable → ClassRef → List ClassRef
chain t c = chain_of t.supers c

-- the class reference that has the method that a lookup finds
abbrev pub holder_at : ClassTable → ClassRef → ℕ → Option ClassRef
holder_at t c s = holder_in t.rows (chain t c) s

-- the implementation that a lookup finds, or forwarding (`lookUpImpOrForward` of objc4)
abbrev pub lookup_at : ClassTable → ClassRef → ℕ → ℕ
lookup_at t c s = lookup_in t.rows (chain t c) s
