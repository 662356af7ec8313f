use Rattle.std.proofs.Common.{ap, sym, ◌∙◌}
use Rattle.std.specs.Prelude.{is_some}
use Rattle.msg_names.specs.Number.{selector_number, imp_number}
use Rattle.msg_rows.specs.RowList.{own_in}
use Rattle.msg_tables.specs.Log.{table}
use Rattle.msg_tables.specs.Refusal.{has_own}
use Rattle.msg_tables.proofs.LookupLemmas.{own-pairs_at, is_some-map}
use Rattle.msg_tables.proofs.tables.Tables.has_own.Goals as goal

pub returns-clause-meaning : goal.returns-clause-meaning
unfolding has_own
returns-clause-meaning c = λ h stands.
    c.is_some.ensures
    ∙ sym (is_some-map imp_number c.own.result)
    ∙ ap is_some (c.own.ensures.own ∙ ap (own_in (selector_number c.args.sel)) (stands.rows.at c.args.class) ∙ sym (own-pairs_at c.args.class (selector_number c.args.sel) (table h).rows))
