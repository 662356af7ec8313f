use Rattle.msg_buckets.proofs.LawLemmas.{hit_is_entry}
use Rattle.msg_buckets.proofs.laws.a_reachable_array_hides_no_entry.Goals as goal

pub returns : goal.returns
returns c = hit_is_entry
