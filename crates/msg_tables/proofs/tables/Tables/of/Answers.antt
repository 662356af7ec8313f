use Rattle.msg_tables.specs.Log.{empty}
use Rattle.msg_tables.specs.Stands.{StandsAt}
use Rattle.msg_tables.proofs.OpeningLemmas.{stands-open}
use Rattle.msg_tables.proofs.StandsLemmas.{class_count}
use Rattle.msg_tables.proofs.tables.Tables.of.Goals as goal

stands : (c : goal.In_ok-open_lists) → StandsAt c.open_lists.new.self (empty c.args.origin.now)
stands c = stands-open c.args.origin.now c.in_ok-tables.tables c.open_lists.new.self c.in_ok-tables.ensures c.in_ok-open_lists.ensures

pub returns-clause-stands : goal.returns-clause-stands
returns-clause-stands c = stands c

pub returns-clause-classes : goal.returns-clause-classes
returns-clause-classes c = class_count c.open_lists.new.self (empty c.args.origin.now) (stands c)
