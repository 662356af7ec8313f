use Rattle.msg_tables.proofs.LogLemmas.{log-before}
use Rattle.msg_tables.proofs.laws.an_earlier_point_is_a_log.Goals as goal

pub returns : goal.returns
returns c = log-before
