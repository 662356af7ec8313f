use Rattle.msg_reasons.proofs.MovingLemmas.{sent_between}
use Rattle.msg_reasons.proofs.laws.lookups_beside_changes_rise.Goals as goal

pub returns : goal.returns
returns c = sent_between
