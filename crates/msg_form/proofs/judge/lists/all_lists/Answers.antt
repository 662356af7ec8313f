use Rattle.msg_form.specs.Views.{lists_view}
use Rattle.msg_form.proofs.ListsLemmas.{items_pushed}
use Rattle.msg_form.proofs.judge.lists.all_lists.Goals as goal

pub returns : goal.returns
returns c =
    let items = rw c.deref.ensures.value at c.in_ok-push_all.ensures in
    items_pushed c.args.form.now (lists_view c.in_ok-lists.lists.items) (lists_view c.push_all.new.all.items) c.in_ok-lists.ensures items
