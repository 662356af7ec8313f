use Rattle.msg_tables.proofs.ImpLemmas.{found-listed}
use Rattle.msg_tables.proofs.laws.a_found_implementation_is_listed.Goals as goal

pub returns : goal.returns
returns c = found-listed
