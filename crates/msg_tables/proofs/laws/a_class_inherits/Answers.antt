use Rattle.msg_tables.proofs.PresenceLemmas.{inherits}
use Rattle.msg_tables.proofs.laws.a_class_inherits.Goals as goal

pub returns : goal.returns
returns c = inherits
