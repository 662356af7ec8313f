-- That lists of rows may go to another thread.
use denote.Param.Send.{IsSend, sendable}
use Rattle.std.proofs.Crossing.{crosses}
use Rattle.std.proofs.MapsCrossing as maps
use Rattle.msg_rows.specs.contracts.indexed_rows.IndexedRows as Indexed
use Rattle.msg_rows.specs.contracts.row_lists.RowLists as Lists
use Rattle.msg_rows.specs.contracts.rows.MethodRows as Rows

Indexed-send : IsSend Indexed.the_row
Indexed-send = search (sendable, crosses, maps.crosses) depth 30

Rows-send : IsSend Rows.the_row
Rows-send = search (Indexed-send, sendable, crosses) depth 30

pub Lists-send : IsSend Lists.the_row
Lists-send = search (Rows-send, sendable, crosses) depth 30
