use Rattle.std.proofs.Common.{ap}
use Rattle.msg_cache.proofs.RestLemmas.{Rest, fills-rest}
use Rattle.msg_cache.proofs.laws.a_fill_changes_caches_alone.Goals as goal

pub returns : goal.returns
returns c = λ z remembered class s i k k' answer fills.
    let same = fills-rest z class s i k k' answer remembered fills in
    (ap (λ (r : Rest). r.history) same, ap (λ (r : Rest). r.given) same, ap (λ (r : Rest). r.turn) same, ap (λ (r : Rest). r.since) same)
