use Rattle.std.proofs.lemmas.Result.{err_from_is_err_and}
use Rattle.msg_json.proofs.ReadingLemmas.{some_text}
use Rattle.msg_json.proofs.reading.read_str.Goals as goal

pub returns-in_err-value-clause-memory : goal.returns-in_err-value-clause-memory
returns-in_err-value-clause-memory c =
    let e = err_from_is_err_and c.from_residual.result c.from_residual.ensures.1 in
    rw (e.1, e.2) (λ full. some_text c.args.text.now (rw c.in-Ok.ensures.ok at (c.in_err-value.ensures.memory full)))
