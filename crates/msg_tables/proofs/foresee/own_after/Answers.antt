-- what is written, and else the class's own method
use Rattle.std.proofs.Common.{sym, ap, option_map, ◌∙◌}
use Rattle.msg_names.specs.Number.{selector_number, imp_number}
use Rattle.msg_rows.specs.RowList.{own_in}
use Rattle.msg_tables.specs.Log.{table}
use Rattle.msg_tables.proofs.LookupLemmas.{own-pairs_at}
use Rattle.msg_tables.proofs.ForeseeLemmas.{own_seen, own_kept}
use Rattle.msg_tables.proofs.foresee.own_after.Goals as goal

pub returns-in-Some : goal.returns-in-Some
returns-in-Some c = λ h stands.
    sym (own_seen h c.args.change.now c.args.here (selector_number c.args.sel) (imp_number c.in-Some.imp) c.written.result (sym c.row_leaves.ensures ∙ c.if-row_leaves.false) (c.written.ensures h stands) (ap (option_map imp_number) c.in-Some.is))

pub returns-in-None : goal.returns-in-None
returns-in-None c = λ h stands.
    own_kept h c.args.change.now c.args.here (selector_number c.args.sel) c.written.result (option_map imp_number c.own.result)
    (sym c.row_leaves.ensures ∙ c.if-row_leaves.false) (c.written.ensures h stands) c.in-None.is
    (c.own.ensures.own ∙ ap (own_in (selector_number c.args.sel)) (stands.rows.at c.args.here) ∙ sym (own-pairs_at c.args.here (selector_number c.args.sel) (table h).rows))
