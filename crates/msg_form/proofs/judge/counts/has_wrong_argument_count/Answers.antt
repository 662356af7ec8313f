use Rattle.std.proofs.Common.{◌≡◌, false, sym, ◌∙◌}
use Rattle.std.specs.List.{flat_map, list_any}
use Rattle.msg_form.specs.Faults.{has_wrong_argument_count, is_miscounted, is_miscounted_send}
use Rattle.msg_form.specs.Lists.{body_sends, item_sends, method_entries}
use Rattle.msg_form.specs.Views.{item_view, form_view}
use Rattle.msg_form.proofs.AnyLemmas.{not_found, any_mapped}
use Rattle.msg_form.proofs.judge.counts.has_wrong_argument_count.Goals as goal

pub returns : goal.returns
unfolding has_wrong_argument_count
returns c =
    let f = form_view c.args.form.now in
    let pairs : list_any (is_miscounted f.imps) (method_entries f) ≡ false = sym c.in_ok-has_miscounted_pair.ensures ∙ c.if-branch.false in
    let items = (rw c.deref.ensures.value at c.any.ensures) ∙ any_mapped is_miscounted_send item_sends item_view c.args.form.now.items.items in
    rw pairs (not_found is_miscounted_send (body_sends f) (flat_map item_sends f.items) c.args.bodies.argument_count c.any.result c.requires.bodies.argument_count c.if-bodies.false items)
