use Rattle.msg_form.specs.Text.{is_unknown}
use Rattle.msg_form.proofs.ChangesLemmas.{classes_of_changes}
use Rattle.msg_form.proofs.judge.names.ClassOutsideTestItem.passes.Goals as goal

pub returns-in_default : goal.returns-in_default
returns-in_default c = classes_of_changes (is_unknown c.args.self.now.classes.now) c.args.item.now c.changes.result.now c.any-in_default.result c.in_default.not-Send c.changes.ensures c.any-in_default.ensures
