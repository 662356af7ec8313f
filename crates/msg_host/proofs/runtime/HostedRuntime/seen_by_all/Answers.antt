use Rattle.std.proofs.Common.{subst}
use Rattle.msg_runtime.specs.Resting.{HaveAllSeen}
use Rattle.msg_runtime.specs.View.{RuntimeView}
use Rattle.msg_host.proofs.runtime.HostedRuntime.seen_by_all.Goals as goal

pub returns-clause-seen : goal.returns-clause-seen
returns-clause-seen c = subst (λ (v : RuntimeView). HaveAllSeen v.arena.key v.keeper c.seen_by_all.result) c.self.view_is c.seen_by_all.ensures.seen
