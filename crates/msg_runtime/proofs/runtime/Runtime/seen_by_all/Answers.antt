use Rattle.std.proofs.Common.{length, ap, subst, arith}
use Rattle.msg_cache.proofs.LayoutLemmas.{awaits_length}
use Rattle.msg_runtime.specs.Resting.{AreRested}
use Rattle.msg_runtime.specs.View.{RuntimeView}
use Rattle.msg_runtime.proofs.runtime.Runtime.seen_by_all.Goals as goal

-- whoever is given out has seen what its number rested at, of which the least is no more
pub returns-clause-seen : goal.returns-clause-seen
returns-clause-seen c = λ s holds chair at id v at'.
    let now = c.args.self.now in
    let rests : AreRested now.keeper now.rested = subst (λ (r : RuntimeView). AreRested r.keeper r.rested) c.self.view_is c.self.invariant.rests in
    let long = ap (λ (r : RuntimeView). length r.rested) c.self.view_is in
    let seen = c.senders_have_seen_what_they_were_given_out_at.ensures now.arena.key s holds chair now.keeper at id v at' in
    let below = awaits_length now.keeper.given v.number seen.0 in
    let least = c.loop-number.invariant.all v.number (omega (arith, below, rests.count, long, c.loop-number-test.false, c.loop-number.auto.number-end, c.len-number-end.ensures)) seen.0 in
    let since = rests.since v.number seen.0 in
    omega (arith, least, since, seen.1)
