use Rattle.std.proofs.lemmas.Result.{on_ok_weaker}
use Rattle.msg_form.specs.Text.{texts_view}
use Rattle.msg_form.proofs.WalkLemmas.{form_pushed}
use Rattle.msg_form.proofs.form.Form.push_texts.Goals as goal

pub returns : goal.returns
returns c =
    let old = c.args.texts.now.items in
    let classes = rw c.deref.ensures.value at c.in_ok-push_all.ensures in
    let categories = rw c.deref-2.ensures.value at c.in_ok-push_all-2.ensures in
    let imps = rw c.deref-3.ensures.value at c.in_ok-push_all-3.ensures in
    on_ok_weaker c.push_all-4.result
    (form_pushed c.args.self.now (texts_view old) (texts_view c.push_text.new.texts.items) (texts_view c.push_all.new.texts.items) (texts_view c.push_all-2.new.texts.items) (texts_view c.push_all-3.new.texts.items) (texts_view c.push_all-4.new.texts.items) c.in_ok-push_text.ensures classes categories imps)
    (rw c.deref-4.ensures.value at c.push_all-4.ensures)
