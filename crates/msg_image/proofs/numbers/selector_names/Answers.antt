use Rattle.std.proofs.Common.{sym, subst}
use Rattle.std.specs.Borrow.{Bor}
use Rattle.msg_form.specs.Text.{Text}
use Rattle.msg_image.proofs.NumberingLemmas.{Gathers, gathers-start}
use Rattle.msg_image.proofs.numbers.selector_names.Goals as goal

pub loop-text-init : goal.loop-text-init
loop-text-init c = subst (Gathers (λ (t : Bor Text). t.now) c.args.texts.now 0) (sym c.new-names.ensures) (gathers-start (λ (t : Bor Text). t.now) c.args.texts.now)
