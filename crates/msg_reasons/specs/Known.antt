-- Lookups that are known.
use Rattle.std.specs.Prelude.{◌≡◌, ◌≤◌, All}
use Rattle.msg_names.specs.Number.{selector_number, imp_number}
use Rattle.msg_tables.specs.History.{History, log}
use Rattle.msg_tables.specs.Origin.{last_imp}
use Rattle.msg_tables.specs.Stands.{StandsAt}
use Rattle.msg_tables.specs.View.{TablesView}
use Rattle.msg_reasons.specs.Looked.{looked}
use Rattle.msg_reasons.specs.Lookups.{looked_at}
use Rattle.msg_reasons.specs.declared.notes.Lookup.{Lookup}
use Rattle.msg_reasons.specs.declared.slots.Slots.{Slots}

-- wherever the tables are, this is the lookup of its selector in its class reference
pub record IsFound (tables : TablesView) (l : Lookup) : Type 0 where
  pub listed : imp_number l.imp ≤ last_imp tables.counts
  pub meaning : (h : History) → StandsAt tables (log h) → looked l ≡ looked_at h l.class (selector_number l.sel)

-- each that is known is
abbrev pub AreFound : TablesView → Slots Lookup → Type 0
AreFound tables known = All (IsFound tables) known.kept.items
