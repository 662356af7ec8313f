use Rattle.msg_form.proofs.LeastLemmas.{least_told}
use Rattle.msg_form.proofs.laws.the_least_fault_is_told.Goals as goal

pub returns : goal.returns
returns c = least_told
