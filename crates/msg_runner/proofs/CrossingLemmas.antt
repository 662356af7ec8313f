-- That a sender and its replies may go to another thread.
use denote.RattleType.{RattleType}
use denote.Ref.{NamedLft}
use denote.Param.Send.{IsSend, sendable}
use denote.Param.SendFields.{as_row_send}
use Rattle.std.proofs.Crossing.{crosses}
use Rattle.msg_dispatch.specs.declared.name.ArenaName.{Ghosts}
use Rattle.msg_dispatch.proofs.CrossingLemmas.{CachingSender-send}
use Rattle.msg_runner.specs.contracts.crew.Done as Done

pub Done-send : (κ : NamedLft) (N : RattleType) (g : Ghosts N.Denot) → IsSend (Done.the_row κ N g)
Done-send κ N g = as_row_send (Done.the_field κ N g) (let s = CachingSender-send N g κ in search (sendable, crosses) depth 30)
