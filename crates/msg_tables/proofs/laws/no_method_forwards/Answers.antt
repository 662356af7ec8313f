use Rattle.msg_tables.proofs.LawLemmas.{nowhere}
use Rattle.msg_tables.proofs.laws.no_method_forwards.Goals as goal

pub returns : goal.returns
returns c = nowhere
