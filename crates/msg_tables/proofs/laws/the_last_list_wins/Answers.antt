use Rattle.msg_tables.proofs.LawLemmas.{found-list}
use Rattle.msg_tables.proofs.laws.the_last_list_wins.Goals as goal

pub returns : goal.returns
returns c = found-list
