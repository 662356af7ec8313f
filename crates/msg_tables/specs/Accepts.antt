-- What tables do with one change, at whatever log they are.
use Rattle.std.specs.Prelude.{◌≡◌, Some, None}
use Rattle.msg_tables.specs.declared.change.Change.{Change}
use Rattle.msg_tables.specs.declared.fault.ChangeFault.{ChangeFault}
use Rattle.msg_tables.specs.Log.{Log, and_then}
use Rattle.msg_tables.specs.Refusal.{refusal}
use Rattle.msg_tables.specs.Stands.{StandsAt}
use Rattle.msg_tables.specs.View.{TablesView}

-- they would accept it
abbrev pub Accepts : TablesView → Change → Type 0
Accepts t x = (h : Log) → StandsAt t h → refusal h x ≡ None

-- they refuse it for this fault
abbrev pub Refuses : TablesView → Change → ChangeFault → Type 0
Refuses t x f = (h : Log) → StandsAt t h → refusal h x ≡ Some f

-- they accepted it, and are now at the log with it added
abbrev pub Makes : TablesView → Change → TablesView → Type 0
Makes old x new = (h : Log) → StandsAt old h → (refusal h x ≡ None) × StandsAt new (and_then h x)
