use Rattle.msg_model.proofs.StampLemmas.{since, longer-stays}
use Rattle.msg_model.proofs.laws.a_lookup_stays_since_its_class_was_affected.Goals as goal

pub returns-clause-since : goal.returns-clause-since
returns-clause-since c = since

pub returns-clause-longer : goal.returns-clause-longer
returns-clause-longer c = longer-stays
