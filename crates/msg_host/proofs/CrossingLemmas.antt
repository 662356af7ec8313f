-- That what a host's handles hold may go to another thread.
use denote.Param.Send.{IsSend, sendable}
use Rattle.std.proofs.Crossing.{crosses}
use Rattle.msg_cache.proofs.CrossingLemmas.{Arena-sync}
use Rattle.msg_runtime.proofs.CrossingLemmas.{Runtime-send}
use Rattle.msg_cache.proofs.arena.Arena.TheSendSync as arena
use Rattle.msg_cache.proofs.keeper.Turn.TheSendSync as turn
use Rattle.msg_host.proofs.sender.HostedSender.TheSendSync as sender
use Rattle.msg_cache.specs.contracts.arena.Arena as Arena
use Rattle.msg_cache.specs.contracts.keeper.Turn as Turn
use Rattle.msg_host.specs.contracts.runtime.HostedRuntime as HostedRuntime
use Rattle.msg_host.specs.contracts.sender.HostedSender as HostedSender

Turn-send : IsSend Turn.the_row
Turn-send = turn.the_send

Arena-send : IsSend Arena.the_row
Arena-send = arena.the_send

pub HostedSender-send : IsSend HostedSender.the_row
HostedSender-send = sender.the_send

pub HostedRuntime-send : IsSend HostedRuntime.the_row
HostedRuntime-send = search (Runtime-send, Turn-send, Arena-send, Arena-sync, sendable, crosses) depth 30
