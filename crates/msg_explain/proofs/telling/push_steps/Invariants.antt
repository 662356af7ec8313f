use Rattle.std.proofs.Common.{◌≡◌, ◌++◌, drop}
use Rattle.msg_explain.specs.Telling.{steps_text}
use Rattle.msg_explain.proofs.telling.push_steps.Given as goal

-- with the steps that are left the text is whole
abbrev pub invariant-loop-step : goal.invariant-loop-step
invariant-loop-step l = l.text.items ++ steps_text (drop l.step-index l.steps) ≡ l.fn.text.items ++ steps_text l.steps
