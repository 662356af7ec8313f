use denote.Param.Send.{IsSend, sendable}
use denote.Param.{param}
use denote.Ref.{NamedLft}
use Rattle.std.proofs.Crossing.{crosses}
use Rattle.msg_dispatch.specs.contracts.caching_sender.CachingSender as CachingSender
use Rattle.msg_dispatch.proofs.CrossingLemmas.{CachingSender-send}
use Rattle.msg_runner.specs.contracts.crew.Done as Done
use Rattle.msg_answers.proofs.CrossingLemmas.{Share-send}
use Rattle.msg_runner.proofs.CrossingLemmas.{Done-send}
use Rattle.msg_runner.proofs.workers.start.Goals as goal

pub spawn_with-requires-send-F : goal.spawn_with-requires-send-F
spawn_with-requires-send-F g c = let s : (κ : NamedLft) → IsSend (CachingSender.the_row κ (param 0 g.row.N) g.N.ArenaName) = CachingSender-send (param 0 g.row.N) g.N.ArenaName in λ κs h. search (s, Share-send, c.type_bounds.sync-G, c.type_bounds.sync-R, sendable, crosses) depth 16

pub spawn_with-requires-send-T : goal.spawn_with-requires-send-T
spawn_with-requires-send-T g c = let d : (κ : NamedLft) → IsSend (Done.the_row κ (param 0 g.row.N) g.N.ArenaName) = λ κ. Done-send κ (param 0 g.row.N) g.N.ArenaName in λ κs h. search (d, sendable) depth 8
