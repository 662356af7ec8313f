use Rattle.std.specs.Borrow.{Bor}
use Rattle.msg_form.specs.Text.{Text}
use Rattle.msg_image.proofs.NumberingLemmas.{Gathers}
use Rattle.msg_image.proofs.numbers.selector_names.Given as goal

abbrev pub invariant-loop-text : goal.invariant-loop-text
invariant-loop-text l = Gathers (λ (t : Bor Text). t.now) l.texts l.text-index l.names
