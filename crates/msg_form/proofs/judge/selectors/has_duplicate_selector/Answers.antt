use Rattle.msg_form.specs.Faults.{has_duplicate_selector}
use Rattle.msg_form.specs.Lists.{all_lists}
use Rattle.msg_form.specs.Views.{form_view}
use Rattle.msg_form.proofs.SelectorLemmas.{list_repeats}
use Rattle.msg_form.proofs.judge.selectors.has_duplicate_selector.Goals as goal

pub returns : goal.returns
unfolding has_duplicate_selector
returns c =
    let repeats = list_repeats c.in_ok-lists.lists.items (all_lists (form_view c.args.form.now)) c.in_ok-lists.ensures in
    rw (← repeats, ← c.deref.ensures.value) c.any_repeats.ensures
