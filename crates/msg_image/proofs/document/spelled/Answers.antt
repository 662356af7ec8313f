use Rattle.std.proofs.lemmas.Result.{err_from_is_err_and}
use Rattle.msg_json.specs.View.{view}
use Rattle.msg_image.proofs.AnswerLemmas.{not_spelled}
use Rattle.msg_image.proofs.document.spelled.Goals as goal

pub returns-in_err-read-clause-err : goal.returns-in_err-read-clause-err
returns-in_err-read-clause-err c =
    let e = err_from_is_err_and c.from_residual-in_err-read.result c.from_residual-in_err-read.ensures.1 in
    rw e.1 (not_spelled c.args.bytes.now (view c.in_ok-value.value) c.in_err-read.field-0.0 e.0 c.in_ok-value.ensures.ok c.in_err-read.ensures e.2)
