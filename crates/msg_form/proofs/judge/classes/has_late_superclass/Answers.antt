use Rattle.msg_form.proofs.judge.classes.has_late_superclass.Goals as goal

pub returns : goal.returns
returns c = rw c.new-earlier.ensures at c.any_late.ensures
