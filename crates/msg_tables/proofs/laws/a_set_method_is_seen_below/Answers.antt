use Rattle.msg_tables.proofs.LawLemmas.{found-set}
use Rattle.msg_tables.proofs.laws.a_set_method_is_seen_below.Goals as goal

pub returns : goal.returns
returns c = found-set
