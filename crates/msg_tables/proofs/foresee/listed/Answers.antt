-- the first entry of the selector is its own row
use Rattle.std.proofs.Common.{sym, ◌∙◌, ap, reverse}
use Rattle.msg_names.specs.Number.{selector_number}
use Rattle.msg_rows.specs.RowList.{own_in}
use Rattle.msg_tables.proofs.ForeseeLemmas.{listed_found}
use Rattle.msg_tables.proofs.foresee.listed.Goals as goal

pub returns-then-eq : goal.returns-then-eq
returns-then-eq c =
    listed_found (selector_number c.args.sel) c.as_slice-pairs.result.now c.loop-pair.pair-index c.pair-item.result c.loop-pair-test.true c.pair-item.is c.loop-pair.invariant (sym c.eq.ensures ∙ c.if-eq.true)
    ∙ ap (λ ms. own_in (selector_number c.args.sel) (reverse ms)) c.as_slice-pairs.ensures
