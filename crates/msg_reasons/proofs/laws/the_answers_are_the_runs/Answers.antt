use Rattle.msg_reasons.proofs.ExplanationLemmas.{answers-serial, answers-output}
use Rattle.msg_reasons.proofs.laws.the_answers_are_the_runs.Goals as goal

pub returns : goal.returns
returns c = record { answers = answers-serial; text = answers-output }
