use Rattle.msg_model.proofs.StampLemmas.{last-next, last-reached}
use Rattle.msg_model.proofs.laws.the_last_change_that_affects_is_counted.Goals as goal

pub returns-clause-longer : goal.returns-clause-longer
returns-clause-longer c = last-next

pub returns-clause-reached : goal.returns-clause-reached
returns-clause-reached c = last-reached
