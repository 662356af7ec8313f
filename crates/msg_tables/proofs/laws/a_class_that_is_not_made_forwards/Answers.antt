use Rattle.msg_tables.proofs.LawLemmas.{absent-forwards}
use Rattle.msg_tables.proofs.laws.a_class_that_is_not_made_forwards.Goals as goal

pub returns : goal.returns
returns c = absent-forwards
