use Rattle.msg_form.specs.Views.{form_view}
use Rattle.msg_form.proofs.BodyLemmas.{are_faults}
use Rattle.msg_form.proofs.judge.bodies.body_faults.Goals as goal

pub returns : goal.returns
returns c =
    let names = c.args.names.now in
    let faults = rw c.deref.ensures.value at c.body_faults.ensures in
    are_faults (form_view c.args.form.now) c.body_faults.result names.classes names.roots names.objects c.requires.classes c.requires.roots c.requires.objects faults.sends_above faults.unknown_class faults.unknown_object faults.argument_count faults.argument_index faults.too_deep
