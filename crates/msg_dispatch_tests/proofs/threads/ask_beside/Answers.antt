use denote.RattleType.{RattleType}
use denote.Ref.{NamedLft}
use denote.Param.{param}
use denote.Param.Send.{IsSend, sendable}
use denote.Param.SendFields.{as_row_send}
use Rattle.std.proofs.Crossing.{crosses}
use Rattle.msg_dispatch.specs.declared.name.ArenaName.{Ghosts}
use Rattle.msg_dispatch.proofs.CrossingLemmas.{Sender-send}
use Rattle.msg_dispatch_tests.specs.contracts.asker.Asker as Asker
use Rattle.msg_dispatch_tests.proofs.threads.ask_beside.Goals as goal

-- a sender may go to another thread
Asker-send : (N : RattleType) (g : Ghosts N.Denot) (κ : NamedLft) → IsSend (Asker.the_row κ N g)
Asker-send N g κ = as_row_send (Asker.the_field κ N g) (let s = Sender-send N g κ in search (sendable, crosses) depth 30)

pub join-senders-requires-send-F : goal.join-senders-requires-send-F
join-senders-requires-send-F g c = let d = Asker-send (param 0 g.row.N) g.N.ArenaName in λ κs h. search (d, sendable, crosses) depth 12

pub join-senders-requires-send-A : goal.join-senders-requires-send-A
join-senders-requires-send-A g c = let d = Asker-send (param 0 g.row.N) g.N.ArenaName in λ κs h. search (d, sendable, crosses) depth 12
