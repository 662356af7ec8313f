use Rattle.std.proofs.Common.{◌≡◌, map, sym, subst}
use Rattle.std.proofs.lemmas.Result.{IfOk-weaker}
use Rattle.msg_order.specs.Superclasses.{AreListed}
use Rattle.msg_form.specs.Faults.{superclasses_of}
use Rattle.msg_form.specs.Views.{class_view}
use Rattle.msg_form.proofs.CycleLemmas.{superclass_number, superclasses-are, superclasses-listed}
use Rattle.msg_form.proofs.judge.cycle.superclasses.Goals as goal

pub returns-clause-numbers : goal.returns-clause-numbers
returns-clause-numbers c =
    let cs = c.args.classes.now in
    let names = c.args.listed.now in
    IfOk-weaker c.superclasses_among.result (λ v. v.items ≡ map (superclass_number names) cs) (λ v. v.items ≡ superclasses_of (map class_view cs)) (λ v e. superclasses-are cs names v.items c.requires e) c.superclasses_among.ensures

pub returns-clause-listed : goal.returns-clause-listed
returns-clause-listed c =
    let cs = c.args.classes.now in
    let names = c.args.listed.now in
    IfOk-weaker c.superclasses_among.result (λ v. v.items ≡ map (superclass_number names) cs) (λ v. AreListed v.items)
    (λ v e. subst AreListed (sym (superclasses-are cs names v.items c.requires e)) (superclasses-listed (map class_view cs))) c.superclasses_among.ensures
