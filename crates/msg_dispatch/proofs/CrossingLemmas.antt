-- That a dispatcher may be seen by several threads, and a sender go to another one. Said once, for
-- whoever starts threads that send.
use denote.RattleType.{RattleType}
use denote.Ref.{NamedLft}
use denote.Param.Send.{IsSend, IsSync, sendable}
use Rattle.std.proofs.Crossing.{crosses}
use Rattle.msg_cache.proofs.CrossingLemmas.{Arena-sync, Prober-send}
use Rattle.msg_reader.specs.contracts.notes.Notes as Notes
use Rattle.msg_runtime.proofs.CrossingLemmas.{Runtime-send}
use Rattle.msg_dispatch.specs.declared.name.ArenaName.{Ghosts}
use Rattle.msg_dispatch.specs.contracts.locked_runtime.LockedRuntime as LockedRuntime
use Rattle.msg_dispatch.specs.contracts.dispatcher.Dispatcher as Dispatcher
use Rattle.msg_dispatch.specs.contracts.caching_sender.CachingSender as CachingSender
use Rattle.msg_dispatch.specs.contracts.sender.Sender as Sender

Notes-send : IsSend Notes.the_row
Notes-send = search (sendable, crosses) depth 30

module _ (N : RattleType) (g : Ghosts N.Denot) where
  abbrev Dispatcher-row : RattleType
  Dispatcher-row = (Dispatcher.the_field N g).row

  LockedRuntime-send : IsSend (LockedRuntime.the_row N g)
  LockedRuntime-send = search (Runtime-send, sendable, crosses) depth 20

  Dispatcher-sync : IsSync Dispatcher-row
  Dispatcher-sync = let d = LockedRuntime-send in search (Arena-sync, sendable, crosses) depth 20

  pub Sender-send : (κ : NamedLft) → IsSend (Sender.the_row κ N g)
  Sender-send κ = let d = Dispatcher-sync in search (Prober-send, sendable, crosses) depth 20

  pub CachingSender-send : (κ : NamedLft) → IsSend (CachingSender.the_row κ N g)
  CachingSender-send κ = let s = Sender-send κ in let n = Notes-send in search (sendable, crosses) depth 20
