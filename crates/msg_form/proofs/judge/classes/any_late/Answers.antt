use Rattle.std.proofs.Common.{map}
use Rattle.msg_form.specs.Faults.{has_late_superclass}
use Rattle.msg_form.specs.Views.{class_view}
use Rattle.msg_form.proofs.ClassLemmas.{late_on}
use Rattle.msg_form.proofs.judge.classes.any_late.Goals as goal

pub loop-class-preserved : goal.loop-class-preserved
loop-class-preserved c =
    late_on c.args.classes.now c.loop-class.class-index c.class-item.result c.is_outside.result c.loop-class.earlier c.insert.new.self (has_late_superclass c.args.earlier.now (map class_view c.args.classes.now)) c.loop-class-test.true c.class-item.is c.is_outside.ensures c.if-is_outside.false c.in_ok-insert.ensures.names c.loop-class.invariant
