use Rattle.msg_form.specs.Views.{form_view}
use Rattle.msg_form.proofs.FormNamesLemmas.{imps_in_place}
use Rattle.msg_form.proofs.judge.later_fault.Goals as goal

pub has_wrong_argument_count-requires-clause-imps : goal.has_wrong_argument_count-requires-clause-imps
has_wrong_argument_count-requires-clause-imps c = imps_in_place (form_view c.args.form.now) c.args.names.now c.requires.names c.if-names.false
