-- That texts may go to another thread.
use denote.Param.Send.{IsSend, sendable}
use Rattle.std.proofs.Crossing.{crosses}
use Rattle.msg_names.specs.contracts.texts.Texts as Texts

pub Texts-send : IsSend Texts.the_row
Texts-send = search (sendable, crosses) depth 40
