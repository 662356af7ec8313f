use Rattle.msg_tables.proofs.SeveralLemmas.{none-accepted, accepted-none}
use Rattle.msg_tables.proofs.list_laws.parts_are_accepted_one_after_another.Goals as goal

pub returns-clause-accepted : goal.returns-clause-accepted
returns-clause-accepted c = none-accepted

pub returns-clause-all : goal.returns-clause-all
returns-clause-all c = accepted-none
