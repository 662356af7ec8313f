use Rattle.msg_tables.proofs.ReachBackLemmas.{same-reach}
use Rattle.msg_tables.proofs.list_laws.what_a_list_and_its_way_back_reach_is_the_same.Goals as goal

pub returns : goal.returns
returns c = same-reach
