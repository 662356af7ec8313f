use Rattle.std.proofs.Common.{length}
use Rattle.msg_names.specs.Number.{selector_number}
use Rattle.msg_rows.specs.Methods.{method_numbers}
use Rattle.msg_rows.proofs.LinkLemmas.{IsSought}
use Rattle.msg_rows.proofs.indexed_rows.IndexedRows.place.Given as goal

abbrev pub invariant-loop-at : goal.invariant-loop-at
invariant-loop-at l = IsSought (length l.self-inside.newest.items) (selector_number l.sel) (method_numbers l.self-inside.rows.items) l.at

abbrev pub decreases-loop-at : goal.decreases-loop-at
decreases-loop-at l = l.at
