use Rattle.msg_tables.proofs.SeveralLemmas.{refused-here}
use Rattle.msg_tables.proofs.list_laws.a_refused_part_is_the_first.Goals as goal

pub returns : goal.returns
returns c = refused-here
