use Rattle.msg_tables.proofs.SeveralLemmas.{refused-one_at}
use Rattle.msg_tables.proofs.list_laws.one_part_is_refused_as_itself.Goals as goal

pub returns : goal.returns
returns c = refused-one_at
