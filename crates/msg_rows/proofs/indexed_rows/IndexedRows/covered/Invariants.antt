use Rattle.msg_names.specs.Number.{selector_number}
use Rattle.msg_rows.proofs.CoveredLemmas.{AreLast}
use Rattle.msg_rows.proofs.indexed_rows.IndexedRows.covered.Given as goal

abbrev pub invariant-loop-row : goal.invariant-loop-row
invariant-loop-row l = AreLast (selector_number l.sel) l.row-items l.row-index l.last l.covered
