use Rattle.std.proofs.Common.{arith}
use Rattle.msg_tables.proofs.BeginsLemmas.{begins_length}
use Rattle.msg_runtime.proofs.laws.no_later_lookup_is_older_than_what_all_have_seen.Goals as goal

pub returns : goal.returns
returns c = λ key k n seen s holds chair at id v is later begins.
    let longer = begins_length later v.front begins in
    let had = seen s holds chair at id v is in
    omega (arith, longer, had)
