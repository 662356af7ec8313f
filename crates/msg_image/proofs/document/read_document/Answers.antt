use Rattle.std.proofs.Common.{arith}
use Rattle.msg_form.specs.Views.{form_view}
use Rattle.msg_image.proofs.AnswerLemmas.{answers-ok, answers-err}
use Rattle.msg_image.proofs.document.read_document.Goals as goal

pub returns-clause-ok : goal.returns-clause-ok
returns-clause-ok c = answers-ok c.args.bytes.now (form_view c.in_ok-form.form) c.judge_form.result (omega arith) c.in_ok-form.ensures.ok c.judge_form.ensures.ok

pub returns-clause-err : goal.returns-clause-err
returns-clause-err c = answers-err c.args.bytes.now (form_view c.in_ok-form.form) c.judge_form.result (omega arith) c.in_ok-form.ensures.ok c.judge_form.ensures.err
