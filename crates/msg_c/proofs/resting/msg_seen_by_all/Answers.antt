use Rattle.std.proofs.Common.{◌≡◌, length, rules, subst}
use Rattle.msg_runtime.specs.Resting.{HaveAllSeen, IsLeastOut}
use Rattle.msg_runtime.specs.View.{RuntimeView}
use Rattle.msg_c.proofs.resting.msg_seen_by_all.Goals as goal

pub returns-clause-seen : goal.returns-clause-seen
returns-clause-seen c done v is =
    let before : c.deref.result.now ≡ v = search rules in
    let told = c.seen_by_all.result in
    (subst (λ (u : RuntimeView). IsLeastOut u.keeper.given u.rested (length u.keeper.history.changes) told) before c.seen_by_all.ensures.least, subst (λ (u : RuntimeView). HaveAllSeen u.arena.key u.keeper told) before c.seen_by_all.ensures.seen)
