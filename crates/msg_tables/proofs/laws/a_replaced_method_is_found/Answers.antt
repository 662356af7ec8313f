use Rattle.msg_tables.proofs.LawLemmas.{found-replaced}
use Rattle.msg_tables.proofs.laws.a_replaced_method_is_found.Goals as goal

pub returns : goal.returns
returns c = found-replaced
