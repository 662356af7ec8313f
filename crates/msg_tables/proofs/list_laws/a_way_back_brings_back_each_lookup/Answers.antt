use Rattle.msg_tables.proofs.WayBackAllLemmas.{lookups-back, tables-back}
use Rattle.msg_tables.proofs.list_laws.a_way_back_brings_back_each_lookup.Goals as goal

pub returns-clause-lookups : goal.returns-clause-lookups
returns-clause-lookups c = lookups-back

pub returns-clause-tables : goal.returns-clause-tables
returns-clause-tables c = tables-back
