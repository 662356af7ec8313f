use Rattle.msg_form.specs.Lists.{method_lists}
use Rattle.msg_form.specs.Views.{imps_view, form_view}
use Rattle.msg_form.proofs.CountLemmas.{miscounted}
use Rattle.msg_form.proofs.judge.counts.has_miscounted_pair.Goals as goal

pub returns : goal.returns
returns c =
    let pairs = rw (c.deref.ensures.value, c.deref-2.ensures.value) at c.any.ensures in
    miscounted c.args.imps.now (imps_view c.args.form.now.imps.items) c.in_ok-lists.lists.items (method_lists (form_view c.args.form.now)) c.any.result c.requires c.in_ok-lists.ensures pairs
