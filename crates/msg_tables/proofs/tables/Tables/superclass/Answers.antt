use Rattle.std.proofs.Common.{◌∙◌}
use Rattle.msg_tables.proofs.LookupLemmas.{superclass-stands}
use Rattle.msg_tables.proofs.tables.Tables.superclass.Goals as goal

pub returns-clause-meaning : goal.returns-clause-meaning
returns-clause-meaning c = λ h stands. c.above.ensures.value ∙ superclass-stands c.args.self.now h stands c.args.class
