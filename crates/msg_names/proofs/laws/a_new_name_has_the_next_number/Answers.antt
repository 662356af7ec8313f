use Rattle.msg_names.proofs.NumberLemmas.{next_number}
use Rattle.msg_names.proofs.laws.a_new_name_has_the_next_number.Goals as goal

pub returns : goal.returns
returns c = next_number
