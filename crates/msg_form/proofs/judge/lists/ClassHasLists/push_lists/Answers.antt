use Rattle.msg_form.proofs.judge.lists.ClassHasLists.push_lists.Goals as goal

pub returns : goal.returns
returns c = rw (c.deref.ensures.value, c.deref-2.ensures.value) at c.push_both.ensures
