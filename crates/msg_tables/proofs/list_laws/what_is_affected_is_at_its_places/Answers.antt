use Rattle.msg_tables.proofs.AffectedAllLemmas.{affected-all}
use Rattle.msg_tables.proofs.PresenceLemmas.{ordered}
use Rattle.msg_tables.proofs.list_laws.what_is_affected_is_at_its_places.Goals as goal

pub returns : goal.returns
returns c = λ h xs d sound is all. affected-all h xs d (ordered h sound is) all
