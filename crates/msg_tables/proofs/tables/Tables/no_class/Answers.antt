use Rattle.std.proofs.Common.{ap, ◌∙◌}
use Rattle.std.specs.Prelude.{not}
use Rattle.msg_tables.specs.Chain.{is_present}
use Rattle.msg_tables.specs.Refusal.{no_class}
use Rattle.msg_tables.proofs.tables.Tables.no_class.Goals as goal

pub returns-clause-meaning : goal.returns-clause-meaning
unfolding no_class
returns-clause-meaning c = λ h stands. c.lacks.ensures.present ∙ ap (λ supers. not (is_present supers c.args.class.class)) stands.supers
