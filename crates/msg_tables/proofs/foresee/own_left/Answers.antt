use Rattle.std.proofs.Common.{◌≡◌, true, sym, ap, subst, ◌∙◌}
use Rattle.msg_names.specs.Number.{selector_number}
use Rattle.msg_tables.specs.After.{rows_after}
use Rattle.msg_tables.specs.Log.{table}
use Rattle.msg_rows.specs.RowList.{own_in, without_row}
use Rattle.msg_tables.specs.Rows.{own}
use Rattle.msg_tables.specs.Written.{row_leaves}
use Rattle.msg_tables.proofs.ForeseeLemmas.{own_gone, own_removed}
use Rattle.msg_tables.proofs.foresee.own_left.Goals as goal

pub returns-in-Remove : goal.returns-in-Remove
returns-in-Remove c = λ h stands.
    let u = selector_number c.args.sel in
    let leaves = subst (λ x. row_leaves x c.args.here u ≡ true) c.in-Remove.is c.requires.leaves in
    c.covered.ensures ∙ ap (λ ms. own_in u (without_row u ms)) (stands.rows.at c.args.here) ∙ own_removed c.in-Remove.class c.in-Remove.sel c.args.here c.args.sel (table h).rows leaves
    ∙ ap (λ x. own (rows_after (table h) x) c.args.here u) (sym c.in-Remove.is)

pub returns-in_default : goal.returns-in_default
returns-in_default c = λ h stands. own_gone h c.args.change.now c.args.here (selector_number c.args.sel) c.requires.leaves c.in_default.not-Remove
