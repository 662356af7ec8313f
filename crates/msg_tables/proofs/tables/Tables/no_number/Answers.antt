use Rattle.std.proofs.Common.{length, ap, ◌∙◌}
use Rattle.std.specs.Prelude.{nat_le}
use Rattle.msg_tables.specs.Refusal.{no_number}
use Rattle.msg_tables.specs.View.{TablesView}
use Rattle.msg_tables.proofs.StandsLemmas.{class_count}
use Rattle.msg_tables.proofs.tables.Tables.no_number.Goals as goal

pub returns-clause-meaning : goal.returns-clause-meaning
unfolding no_number
returns-clause-meaning c = λ h stands.
    let seen = ap (λ (t : TablesView). length t.supers) c.self.view_is in
    ap (λ n. nat_le n c.args.class) (c.len.ensures ∙ c.self.inside.supers.ok.0 ∙ seen ∙ class_count c.args.self.now h stands)
