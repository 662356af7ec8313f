use Rattle.msg_tables.proofs.PresenceLemmas.{superclass-stays}
use Rattle.msg_tables.proofs.laws.a_superclass_stays.Goals as goal

pub returns : goal.returns
returns c = superclass-stays
