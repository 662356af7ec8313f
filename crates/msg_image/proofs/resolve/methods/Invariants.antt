use Rattle.std.proofs.Common.{◌≡◌, ◌++◌, drop}
use Rattle.msg_form.specs.Views.{pairs_view}
use Rattle.msg_image.specs.Document.{methods}
use Rattle.msg_rows.specs.Methods.{method_numbers}
use Rattle.msg_image.specs.Numbers.{numbers_by}
use Rattle.msg_image.proofs.resolve.methods.Given as goal

abbrev pub invariant-loop-pair : goal.invariant-loop-pair
invariant-loop-pair l = method_numbers l.found.items ++ methods (numbers_by l.names) (pairs_view (drop l.pair-index l.pairs)) ≡ methods (numbers_by l.names) (pairs_view l.pairs)
