use Rattle.std.proofs.lemmas.Result.{on_ok_weaker}
use Rattle.msg_form.specs.FormNames.{AreNamesOf}
use Rattle.msg_form.specs.Views.{form_view}
use Rattle.msg_form.proofs.ResultLemmas.{kept}
use Rattle.msg_form.proofs.form_names.FormNames.of.Goals as goal

pub returns : goal.returns
returns c = kept c.add.result c.add.new.self c.and.result (λ n. AreNamesOf n (form_view c.args.form.now)) c.and.ensures (on_ok_weaker c.add.result (λ are. are c.none-names.ensures) c.add.ensures)
