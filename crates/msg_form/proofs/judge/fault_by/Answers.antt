use Rattle.std.proofs.Common.{arith}
use Rattle.std.proofs.lemmas.List.{length-map}
use Rattle.msg_form.specs.Views.{class_view, form_view}
use Rattle.msg_form.proofs.LimitLemmas.{all_selectors, few_classes}
use Rattle.msg_form.proofs.judge.fault_by.Goals as goal

pub later_fault-requires-clause-selectors : goal.later_fault-requires-clause-selectors
later_fault-requires-clause-selectors c =
    all_selectors (form_view c.args.form.now) c.args.names.now.selectors c.in_ok-is_over_limit.field-0 c.requires.selectors c.in_ok-is_over_limit.ensures c.if-branch.false

pub later_fault-requires-clause-classes : goal.later_fault-requires-clause-classes
later_fault-requires-clause-classes c =
    let few = few_classes (form_view c.args.form.now) c.in_ok-is_over_limit.field-0 c.in_ok-is_over_limit.ensures c.if-branch.false in
    let seen = length-map c.args.form.now.classes.items class_view in
    omega (arith, few, seen)
