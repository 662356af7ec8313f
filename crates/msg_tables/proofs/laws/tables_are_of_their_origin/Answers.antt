use Rattle.msg_tables.proofs.StandsLemmas.{class_count}
use Rattle.msg_tables.proofs.laws.tables_are_of_their_origin.Goals as goal

pub returns-clause-classes : goal.returns-clause-classes
returns-clause-classes c = class_count

pub returns-clause-counts : goal.returns-clause-counts
returns-clause-counts c = λ tables h stands. stands.counts
