use Rattle.msg_tables.proofs.LawLemmas.{one-method}
use Rattle.msg_tables.proofs.laws.one_method_is_one_implementation.Goals as goal

pub returns : goal.returns
returns c = one-method
