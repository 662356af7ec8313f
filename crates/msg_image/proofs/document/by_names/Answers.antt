use Rattle.std.proofs.Common.{refl}
use Rattle.std.proofs.lemmas.Result.{err_from_is_err_and}
use Rattle.msg_image.proofs.document.by_names.Goals as goal

pub returns-in_err-fault-clause-err : goal.returns-in_err-fault-clause-err
returns-in_err-fault-clause-err c =
    let e = err_from_is_err_and c.from_residual.result c.from_residual.ensures.1 in
    rw (e.1, e.2) (λ other. absurd (other refl))
