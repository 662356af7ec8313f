use Rattle.std.proofs.Common.{◌≡◌, take}
use Rattle.msg_rows.specs.Methods.{method_numbers}
use Rattle.msg_host.specs.Asking.{pairs_of}
use Rattle.msg_host.proofs.changing.method_list.Given as goal

abbrev pub invariant-loop-row : goal.invariant-loop-row
invariant-loop-row l = method_numbers l.pairs.items ≡ pairs_of (take l.row-index l.rows)
