-- The log at which tables are.
use Rattle.std.specs.Prelude.{◌≡◌, ℕ, List, [], ◌∷◌, length, if◌then◌else◌}
use Rattle.msg_names.specs.declared.value.ClassRef.{ClassRef}
use Rattle.msg_names.specs.ClassRef.{same_class}
use Rattle.msg_tables.specs.Rows.{Row}
use Rattle.msg_tables.specs.Log.{Log, table}
use Rattle.msg_tables.specs.Refusal.{IsLog}
use Rattle.msg_tables.specs.View.{TablesView, kept}

-- the rows of a class reference, as pairs
abbrev pub pairs_at : ClassRef → List Row → List (ℕ × ℕ)
pairs_at c [] = []
pairs_at c (r ∷ rs) = if same_class r.class c then (r.sel, r.imp) ∷ pairs_at c rs else pairs_at c rs

-- the lists hold the rows of each class reference, in their order
pub record Holds (lists : List (List (ℕ × ℕ))) (rows : List Row) : Type 0 where
  pub at : (c : ClassRef) → kept lists c ≡ pairs_at c rows

-- The tables are at a log: they hold its rows and count its changes.
pub record StandsAt (t : TablesView) (h : Log) : Type 0 where
  pub log : IsLog h
  pub supers : t.supers ≡ (table h).supers
  pub listed : t.listed ≡ length h.origin.superclasses
  pub rows : Holds t.lists (table h).rows
  pub row_count : t.row_count ≡ length (table h).rows
  pub changes : t.change_count ≡ length h.changes
  pub counts : t.counts ≡ h.origin.counts
  pub limits : t.limits ≡ h.origin.limits

-- a fact holds at each log at which the tables are
abbrev pub AtLog : TablesView → (Log → Type 0) → Type 0
AtLog t P = (h : Log) → StandsAt t h → P h
