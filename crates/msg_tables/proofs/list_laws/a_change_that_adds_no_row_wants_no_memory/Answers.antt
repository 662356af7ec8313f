use Rattle.msg_tables.proofs.NoRowLemmas.{no-row-wants-none}
use Rattle.msg_tables.proofs.list_laws.a_change_that_adds_no_row_wants_no_memory.Goals as goal

pub returns : goal.returns
returns c = no-row-wants-none
