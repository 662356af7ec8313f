use Rattle.std.proofs.Common.{rules}
use Rattle.msg_host.proofs.runtime.HostedRuntime.sender.Goals as goal

pub invariant_of-result : goal.invariant_of-result
invariant_of-result c = record {
  reader = search rules;
  origin = search rules;
  classes = search rules;
  few_classes = search rules;
}
