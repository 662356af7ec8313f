use Rattle.std.proofs.Common.{◌≡◌}
use Rattle.msg_form.specs.Text.{texts_view}
use Rattle.msg_form.specs.Views.{form_view}
use Rattle.msg_form.specs.Walk.{selector_texts}
use Rattle.msg_form.proofs.ResultLemmas.{kept}
use Rattle.msg_form.proofs.form.Form.selector_texts.Goals as goal

pub returns : goal.returns
returns c = kept c.push_texts.result c.push_texts.new.texts c.and.result (λ v. texts_view v.items ≡ selector_texts (form_view c.args.self.now)) c.and.ensures (rw c.new-texts.ensures.items at c.push_texts.ensures)
