use Rattle.std.proofs.Common.{◌≡◌, ◌++◌, map, drop}
use Rattle.msg_image.specs.Numbers.{numbers_by}
use Rattle.msg_image.proofs.resolve.each.Given as goal

abbrev pub invariant-loop-form : goal.invariant-loop-form
invariant-loop-form g l = map g.T.Resolve.parts l.found.items ++ map (g.T.Resolve.meaning (numbers_by l.names)) (drop l.form-index l.forms) ≡ map (g.T.Resolve.meaning (numbers_by l.names)) l.forms
