use Rattle.msg_io.proofs.DecimalLemmas.{same_decimal}
use Rattle.msg_io.proofs.laws.one_text_is_one_number.Goals as goal

pub returns : goal.returns
returns c = same_decimal
