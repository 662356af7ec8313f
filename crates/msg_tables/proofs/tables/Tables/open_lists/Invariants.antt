use Rattle.std.proofs.Common.{◌*◌, take}
use Rattle.msg_tables.specs.After.{list_rows}
use Rattle.msg_tables.specs.Opening.{Adds}
use Rattle.msg_tables.proofs.tables.Tables.open_lists.Given as goal

abbrev pub invariant-loop-pair : goal.invariant-loop-pair
invariant-loop-pair l = Adds l.initial.self l.self (list_rows (take (2 * l.pair) l.origin.lists))
