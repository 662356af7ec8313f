use Rattle.msg_names.proofs.NumberLemmas.{number_stays}
use Rattle.msg_names.proofs.laws.a_number_stays.Goals as goal

pub returns : goal.returns
returns c = number_stays
