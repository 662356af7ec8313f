use Rattle.std.proofs.Common.{ap, ◌∙◌}
use Rattle.msg_names.specs.Number.{selector_number, imp_number}
use Rattle.msg_tables.specs.Origin.{misfits_in}
use Rattle.msg_tables.proofs.StandsLemmas.{misfits-stand}
use Rattle.msg_tables.proofs.tables.Tables.misfits.Goals as goal

pub returns-clause-meaning : goal.returns-clause-meaning
returns-clause-meaning c = λ h stands. c.misfits.ensures ∙ ap (λ t. misfits_in t.counts (selector_number c.args.sel) (imp_number c.args.imp)) c.self.view_is ∙ misfits-stand c.args.self.now h stands (selector_number c.args.sel) (imp_number c.args.imp)
