use Rattle.std.proofs.Common.{List, [], ◌∷◌, None, subst}
use Rattle.std.specs.Prelude.{Option}
use Rattle.msg_tables.specs.declared.apply_all.Refused.{Refused}
use Rattle.msg_tables.specs.declared.change.Change.{Change}
use Rattle.msg_reasons.specs.Changing.{IsMadeOrRefused}
use Rattle.msg_reasons.proofs.ChangingLemmas.{one_changed}
use Rattle.msg_reasons.proofs.changing.change_one.Goals as goal

pub returns-in-None-clause-changed : goal.returns-in-None-clause-changed
returns-in-None-clause-changed c =
    one_changed c.args.change.now c.args.tables.now c.make.new.tables None
    (subst (λ (r : Option Refused). IsMadeOrRefused (c.args.change.now ∷ []) c.args.tables.now c.make.new.tables r) c.in-None.is
    (subst (λ (xs : List Change). IsMadeOrRefused xs c.args.tables.now c.make.new.tables c.in_ok-make.field-0) c.from_ref.ensures.value c.in_ok-make.ensures.made))
