use Rattle.std.proofs.Common.{refl}
use Rattle.msg_form.specs.Shape.{form_of}
use Rattle.msg_form.proofs.form.Form.read.Goals as goal

pub returns-in_default : goal.returns-in_default
unfolding form_of
returns-in_default c = rw (← c.in_default.ensures) refl
