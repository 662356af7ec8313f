use Rattle.msg_tables.proofs.LawLemmas.{found-added}
use Rattle.msg_tables.proofs.laws.an_added_method_is_found.Goals as goal

pub returns : goal.returns
returns c = found-added
