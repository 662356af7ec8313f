use Rattle.msg_tables.proofs.LawLemmas.{exchanged-with-itself}
use Rattle.msg_tables.proofs.laws.one_method_exchanged_is_unchanged.Goals as goal

pub returns : goal.returns
returns c = exchanged-with-itself
