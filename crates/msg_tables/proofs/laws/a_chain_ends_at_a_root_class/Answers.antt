use Rattle.msg_tables.proofs.PresenceLemmas.{ends}
use Rattle.msg_tables.proofs.laws.a_chain_ends_at_a_root_class.Goals as goal

pub returns : goal.returns
returns c = ends
