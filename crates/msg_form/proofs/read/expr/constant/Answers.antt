use Rattle.msg_form.proofs.ExprShapeLemmas.{constant_of-array}
use Rattle.msg_form.proofs.read.expr.constant.Goals as goal

pub returns-in-Array : goal.returns-in-Array
returns-in-Array c = rw (constant_of-array c.args.value.now c.in-Array.values c.in-Array.is) c.listed_constant.ensures
