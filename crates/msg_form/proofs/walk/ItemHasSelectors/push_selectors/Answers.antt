use Rattle.msg_form.specs.Text.{texts_view}
use Rattle.msg_form.proofs.ChangesLemmas.{texts_of_changes}
use Rattle.msg_form.proofs.WalkLemmas.{send_pushed}
use Rattle.msg_form.proofs.walk.ItemHasSelectors.push_selectors.Goals as goal

pub returns-in_ok-push_text-in-Send : goal.returns-in_ok-push_text-in-Send
returns-in_ok-push_text-in-Send c =
    let pushed = send_pushed c.args.self.now c.in-Send.receiver c.in-Send.selector c.in-Send.args (texts_view c.args.texts.now.items) (texts_view c.push_selectors.new.texts.items) (texts_view c.push_text.new.texts.items) c.in-Send.is c.in_ok-push_selectors-in-Send.ensures c.in_ok-push_text-in-Send.ensures in
    rw pushed c.push_all.ensures

pub returns-in_default : goal.returns-in_default
returns-in_default c = rw (texts_of_changes c.args.self.now c.changes.result.now c.in_default.not-Send c.changes.ensures) c.push_all-in_default.ensures
