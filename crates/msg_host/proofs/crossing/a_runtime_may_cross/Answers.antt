use denote.Param.Send.{sendable}
use Rattle.msg_host.proofs.CrossingLemmas.{HostedRuntime-send}
use Rattle.msg_host.proofs.crossing.a_runtime_may_cross.Goals as goal

pub may_cross-requires-send-T : goal.may_cross-requires-send-T
may_cross-requires-send-T c κs = search (HostedRuntime-send, sendable) depth 8
