use Rattle.msg_tables.proofs.LimitLemmas.{accepted_few}
use Rattle.msg_tables.proofs.laws.an_accepted_change_is_within_the_limit.Goals as goal

pub returns : goal.returns
returns c = accepted_few
