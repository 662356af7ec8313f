-- none so far has the selector
use Rattle.std.proofs.Common.{◌≡◌, None, reverse, take}
use Rattle.msg_names.specs.Number.{selector_number}
use Rattle.msg_rows.specs.Methods.{method_numbers}
use Rattle.msg_rows.specs.RowList.{own_in}
use Rattle.msg_tables.proofs.foresee.listed.Given as goal

abbrev pub invariant-loop-pair : goal.invariant-loop-pair
invariant-loop-pair l = own_in (selector_number l.sel) (reverse (method_numbers (take l.pair-index l.pairs))) ≡ None
