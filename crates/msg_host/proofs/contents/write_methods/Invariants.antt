use Rattle.std.proofs.Common.{◌≡◌, ◌++◌, drop, length, reverse, take}
use Rattle.msg_rows.specs.Methods.{method_numbers}
use Rattle.msg_host.specs.Asking.{pairs_of}
use Rattle.msg_host.proofs.contents.write_methods.Given as goal

-- the last methods are written, and behind them the rows are as they were
abbrev pub invariant-loop-place : goal.invariant-loop-place
invariant-loop-place l = record {
  written : pairs_of l.rows ≡ take l.place (reverse (method_numbers l.methods)) ++ drop l.place (pairs_of l.fn.rows);
  length : length l.rows ≡ length l.fn.rows;
}
