use Rattle.std.proofs.Common.{None, subst}
use Rattle.std.specs.Prelude.{Option}
use Rattle.msg_tables.specs.declared.apply_all.Refused.{Refused}
use Rattle.msg_reasons.specs.Changing.{IsMadeOrRefused}
use Rattle.msg_reasons.proofs.ChangingLemmas.{all_changed}
use Rattle.msg_reasons.proofs.changing.change_as_one.Goals as goal

pub returns-in-None-clause-changed : goal.returns-in-None-clause-changed
returns-in-None-clause-changed c =
    all_changed c.args.changes.now c.args.tables.now c.make.new.tables None
    (subst (λ (r : Option Refused). IsMadeOrRefused c.args.changes.now c.args.tables.now c.make.new.tables r) c.in-None.is c.in_ok-make.ensures.made)
