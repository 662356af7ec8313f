use Rattle.msg_tables.proofs.PresenceLemmas.{lookup-kept}
use Rattle.msg_tables.proofs.laws.a_change_affects_no_more.Goals as goal

pub returns : goal.returns
returns c = lookup-kept
