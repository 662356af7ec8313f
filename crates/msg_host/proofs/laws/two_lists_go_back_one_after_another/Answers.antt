use Rattle.msg_host.proofs.WayBackLemmas.{two_back}
use Rattle.msg_host.proofs.laws.two_lists_go_back_one_after_another.Goals as goal

pub returns : goal.returns
returns c = two_back
