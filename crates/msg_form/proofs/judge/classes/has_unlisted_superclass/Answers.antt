use Rattle.msg_form.proofs.ClassLemmas.{unlisted_superclass}
use Rattle.msg_form.proofs.judge.classes.has_unlisted_superclass.Goals as goal

pub returns : goal.returns
returns c = unlisted_superclass c.args.classes.now c.args.listed.now c.any.result c.requires c.any.ensures
