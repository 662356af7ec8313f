use Rattle.msg_tables.proofs.PresenceLemmas.{root-meta}
use Rattle.msg_tables.proofs.laws.a_root_metaclass_is_below_its_class.Goals as goal

pub returns : goal.returns
returns c = root-meta
