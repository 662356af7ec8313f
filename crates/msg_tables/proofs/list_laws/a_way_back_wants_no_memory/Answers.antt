use Rattle.msg_tables.proofs.WayRoomLemmas.{wants-none, writes-no-more}
use Rattle.msg_tables.proofs.list_laws.a_way_back_wants_no_memory.Goals as goal

pub returns-clause-entries : goal.returns-clause-entries
returns-clause-entries c = λ h xs k is. writes-no-more h xs k is

pub returns-clause-memory : goal.returns-clause-memory
returns-clause-memory c = wants-none
