use Rattle.msg_names.proofs.NumberLemmas.{same_number}
use Rattle.msg_names.proofs.laws.one_number_is_one_name.Goals as goal

pub returns : goal.returns
returns c = same_number
