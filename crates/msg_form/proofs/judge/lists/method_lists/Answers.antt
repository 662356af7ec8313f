use Rattle.std.proofs.Common.{ap}
use Rattle.msg_form.specs.Views.{lists_view}
use Rattle.msg_form.proofs.ListsLemmas.{methods_pushed}
use Rattle.msg_form.proofs.judge.lists.method_lists.Goals as goal

pub returns : goal.returns
returns c =
    let classes = rw c.deref.ensures.value at c.in_ok-push_all.ensures in
    let categories = rw c.deref-2.ensures.value at c.in_ok-push_all-2.ensures in
    methods_pushed c.args.form.now (lists_view c.new-lists.result.items) (lists_view c.push_all.new.all.items) (lists_view c.push_all-2.new.all.items) (ap lists_view c.new-lists.ensures.items) classes categories
