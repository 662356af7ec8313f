use Rattle.msg_names.proofs.NumberLemmas.{name_at-number_of}
use Rattle.msg_names.proofs.laws.a_number_has_its_name.Goals as goal

pub returns : goal.returns
returns c = name_at-number_of
