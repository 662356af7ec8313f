use Rattle.std.proofs.lemmas.Result.{on_ok_weaker}
use Rattle.msg_form.specs.Views.{form_view}
use Rattle.msg_form.proofs.FormNamesLemmas.{are_names}
use Rattle.msg_form.proofs.form_names.FormNames.add.Goals as goal

pub returns : goal.returns
returns c =
    on_ok_weaker c.add_members.result (are_names (form_view c.args.form.now) c.args.self.now c.add_classes.new.self c.add_members.new.self c.add_selectors.new.selectors c.in_ok-add_selectors.ensures c.in_ok-add_classes.ensures) c.add_members.ensures
