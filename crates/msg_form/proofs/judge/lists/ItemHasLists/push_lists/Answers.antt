use Rattle.msg_form.specs.Lists.{change_lists}
use Rattle.msg_form.proofs.ChangesLemmas.{in_changes}
use Rattle.msg_form.proofs.judge.lists.ItemHasLists.push_lists.Goals as goal

pub returns : goal.returns
returns c = rw (in_changes change_lists c.args.self.now c.changes.result.now c.changes.ensures) c.push_all.ensures
