use Rattle.std.proofs.Common.{◌≡◌, length}
use Rattle.msg_rows.specs.Buckets.{AreLinked}
use Rattle.msg_rows.specs.Methods.{method_numbers}
use Rattle.msg_rows.proofs.indexed_rows.link.Given as goal

abbrev pub invariant-loop-at : goal.invariant-loop-at
invariant-loop-at l = record {
  linked : AreLinked (method_numbers l.rows) l.at l.older l.newest;
  older : length l.older ≡ length l.initial.older;
  newest : length l.newest ≡ length l.initial.newest;
}
