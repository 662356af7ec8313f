use Rattle.std.proofs.Common.{Some, arith, ap}
use Rattle.msg_names.proofs.SetLemmas.{number_of-position}
use Rattle.msg_form.proofs.name_set.NameSet.number.Goals as goal

pub returns-in_err-index : goal.returns-in_err-index
returns-in_err-index c =
    rw (← c.self.view_is, number_of-position (λ t. t.now) c.self.inside.names.keys c.args.name.now, ← c.in_err-index.ensures.index) c.from_residual.ensures

pub returns : goal.returns
returns c =
    rw (← c.self.view_is, number_of-position (λ t. t.now) c.self.inside.names.keys c.args.name.now, ← c.in_ok-index.ensures.index) (ap Some (omega arith))
