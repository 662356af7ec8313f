use Rattle.msg_form.specs.Faults.{has_many_entries}
use Rattle.msg_form.proofs.SelectorLemmas.{length-lists_view}
use Rattle.msg_form.proofs.judge.limits.has_many_entries.Goals as goal

pub returns : goal.returns
unfolding has_many_entries
returns c = rw (← c.in_ok-lists.ensures, length-lists_view c.in_ok-lists.lists.items, ← c.deref.ensures.value) c.are_many.ensures
