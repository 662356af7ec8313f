use Rattle.std.proofs.Common.{◌≡◌, ◌<◌, false, length, option_map, Bor, bytes_eq, ap, ◌∙◌, arith}
use Rattle.msg_form.specs.Text.{Text}
use Rattle.msg_form.specs.Views.{classes_view}
use Rattle.msg_explain.proofs.JudgingLemmas.{met_on}
use Rattle.msg_explain.proofs.superclasses.is_above_itself.Goals as goal

pub loop-step-preserved : goal.loop-step-preserved
loop-step-preserved c =
    let inside : c.loop-step._step < length c.args.classes.now = omega (arith, c.loop-step-test.true) in
    let other : bytes_eq c.args.class.now.name.now c.in-Some.name.now ≡ false = cc (c.eq.ensures, c.if-eq.false) in
    met_on (length c.args.classes.now) c.loop-step._step (classes_view c.args.classes.now) c.args.class.now.name.now c.in-Some.name.now (option_map (λ (s : Bor Text). s.now) c.loop-step.above) (option_map (λ (s : Bor Text). s.now) c.superclass_named-above.result) inside (ap (option_map (λ (s : Bor Text). s.now)) c.in-Some.is) other c.superclass_named-above.ensures
    ∙ c.loop-step.invariant
