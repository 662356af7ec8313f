use Rattle.msg_form.specs.Text.{is_unknown}
use Rattle.msg_form.proofs.AnyLemmas.{first_met, first_unmet}
use Rattle.msg_form.proofs.CitedLemmas.{any_other}
use Rattle.msg_form.proofs.judge.names.names_class_outside.Goals as goal

pub returns-then-any : goal.returns-then-any
returns-then-any c = first_met _ _ c.any.result _ (any_other (is_unknown c.args.classes.now) c.args.form.now) (rw c.deref.ensures.value at c.any.ensures) c.if-any.true

pub returns-else-any : goal.returns-else-any
returns-else-any c =
    first_unmet _ _ c.any.result c.any-else-any.result _ (any_other (is_unknown c.args.classes.now) c.args.form.now) (rw c.deref.ensures.value at c.any.ensures) c.if-any.false (rw c.deref-else-any.ensures.value at c.any-else-any.ensures)
