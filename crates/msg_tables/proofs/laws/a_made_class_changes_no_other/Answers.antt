use Rattle.msg_tables.proofs.PresenceLemmas.{lookup-made}
use Rattle.msg_tables.proofs.laws.a_made_class_changes_no_other.Goals as goal

pub returns : goal.returns
returns c = lookup-made
