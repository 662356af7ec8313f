-- That what is behind the runtime lock may go to another thread.
use denote.Param.Send.{IsSend, sendable}
use Rattle.std.proofs.Crossing.{crosses}
use Rattle.std.proofs.MapsCrossing as maps
use Rattle.msg_cache.proofs.CrossingLemmas.{Keeper-send}
use Rattle.msg_rows.proofs.CrossingLemmas.{Lists-send}
use Rattle.std.specs.contracts.snapshot.Snapshot as Snapshot
use Rattle.msg_cache.specs.contracts.arena.Arena as Arena
use Rattle.msg_tables.specs.contracts.tables.Tables as Tables
use Rattle.msg_tables.specs.contracts.entry.Written as Written
use Rattle.msg_runtime.specs.contracts.runtime.Runtime as Runtime

Tables-send : IsSend Tables.the_row
Tables-send = search (Lists-send, sendable, crosses, maps.crosses) depth 30

Written-send : IsSend Written.the_row
Written-send = search (sendable, crosses) depth 30

Snap-send : IsSend (Snapshot.the_row Arena.the_row)
Snap-send = search (sendable, crosses) depth 30

pub Runtime-send : IsSend Runtime.the_row
Runtime-send = let k = Keeper-send in let t = Tables-send in let w = Written-send in let a = Snap-send in search (sendable, crosses) depth 30
