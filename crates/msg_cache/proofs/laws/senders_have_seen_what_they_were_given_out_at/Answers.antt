use Rattle.msg_cache.proofs.LawLemmas.{senders_have_seen}
use Rattle.msg_cache.proofs.laws.senders_have_seen_what_they_were_given_out_at.Goals as goal

pub returns : goal.returns
returns c = senders_have_seen
