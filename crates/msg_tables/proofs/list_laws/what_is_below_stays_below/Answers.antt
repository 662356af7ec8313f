use Rattle.msg_tables.proofs.BelowAllLemmas.{below-all}
use Rattle.msg_tables.proofs.list_laws.what_is_below_stays_below.Goals as goal

pub returns : goal.returns
returns c = below-all
