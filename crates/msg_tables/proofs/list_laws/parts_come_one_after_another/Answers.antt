use Rattle.msg_tables.proofs.SeveralLemmas.{table-and_all}
use Rattle.msg_tables.proofs.list_laws.parts_come_one_after_another.Goals as goal

pub returns : goal.returns
returns c = table-and_all
