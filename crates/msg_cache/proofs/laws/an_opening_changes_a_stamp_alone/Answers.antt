use Rattle.msg_cache.proofs.ColdLemmas.{open_keeps}
use Rattle.msg_cache.proofs.laws.an_opening_changes_a_stamp_alone.Goals as goal

pub returns : goal.returns
returns c = open_keeps
