use Rattle.std.proofs.Common.{ap, ◌∙◌}
use Rattle.msg_names.specs.Number.{selector_number}
use Rattle.msg_tables.specs.Origin.{unlike_in}
use Rattle.msg_tables.proofs.StandsLemmas.{unlike-stand}
use Rattle.msg_tables.proofs.tables.Tables.unlike.Goals as goal

pub returns : goal.returns
returns c = λ h stands. c.unlike.ensures ∙ ap (λ t. unlike_in t.counts (selector_number c.args.sel) (selector_number c.args.other)) c.self.view_is ∙ unlike-stand c.args.self.now h stands (selector_number c.args.sel) (selector_number c.args.other)
