use Rattle.std.proofs.Common.{◌≡◌, ◌+◌, Some, true, false, sym, ap, ◌∙◌, subst, arith}
use Rattle.std.proofs.lemmas.Bool.Decides.{nat_tests}
use Rattle.std.specs.Prelude.{◌==◌}
use Rattle.msg_names.specs.Number.{selector_number}
use Rattle.msg_rows.proofs.CoveredLemmas.{AreLast, last-found, last-kept}
use Rattle.msg_rows.proofs.indexed_rows.IndexedRows.covered.Goals as goal
use Rattle.msg_rows.proofs.indexed_rows.IndexedRows.covered.Goals.{then-number, else-number}

pub loop-row-preserved : goal.loop-row-preserved
loop-row-preserved c =
    let s = selector_number c.args.sel in
    let rows = c.deref-row-items.result.now in
    let i = c.loop-row.row-index in
    let m = c.row-item.result in
    let one = c.number.ensures.number in
    let two = c.number-in-loop-row.ensures.number in
    elim c.if-number.branch [
      | then-number w ↦
          let e : (selector_number m.0 == s) ≡ true = let t = w.if-number.true in grind (arith, nat_tests) in
          let is = last-found s rows i m c.loop-row-test.true c.row-item.is c.loop-row.last c.loop-row.covered c.loop-row.invariant e in
          rw (w.last-is, w.covered-is) is
      | else-number w ↦
          let e : (selector_number m.0 == s) ≡ false = let t = w.if-number.false in grind (arith, nat_tests) in
          let is = last-kept s rows i m c.loop-row-test.true c.row-item.is c.loop-row.last c.loop-row.covered c.loop-row.invariant e in
          rw (w.last-is, w.covered-is) is
    ]
