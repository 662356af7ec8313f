use Rattle.std.proofs.Common.{◌≢◌, length, refl, sym, ap, ◌∙◌}
use Rattle.msg_names.specs.Number.{selector_number}
use Rattle.msg_rows.specs.RowList.{last_index}
use Rattle.msg_rows.proofs.LinkLemmas.{none-sought, found-sought, next-sought}
use Rattle.msg_rows.proofs.indexed_rows.IndexedRows.place.Goals as goal

pub returns-then-number : goal.returns-then-number
returns-then-number c =
    let s = selector_number c.args.sel in
    found-sought (length c.self.inside.newest.items) s c.self.inside.rows.items c.loop-at.at c.loop-at.invariant c.index.result.now c.loop-at-test.true c.index.ensures
    (sym c.number.ensures.number ∙ c.if-number.true ∙ c.number-in-loop-at.ensures.number)
    ∙ ap (λ v. last_index s v.rows) c.self.view_is

pub loop-at-smaller : goal.loop-at-smaller
loop-at-smaller c =
    let s = selector_number c.args.sel in
    let other : selector_number c.index.result.now.0 ≢ s = λ e. c.if-number.false (c.number.ensures.number ∙ e ∙ sym c.number-in-loop-at.ensures.number) in
    (next-sought (length c.self.inside.newest.items) s c.self.inside.rows.items c.loop-at.at c.loop-at.invariant c.index.result.now c.loop-at-test.true c.index.ensures
    c.self.inside.older.items c.self.inside.newest.items c.index-at-in-loop-at.result.now refl c.self.invariant.each c.self.invariant.linked other c.index-at-in-loop-at.ensures).1

pub loop-at-preserved : goal.loop-at-preserved
loop-at-preserved c =
    let s = selector_number c.args.sel in
    let other : selector_number c.index.result.now.0 ≢ s = λ e. c.if-number.false (c.number.ensures.number ∙ e ∙ sym c.number-in-loop-at.ensures.number) in
    (next-sought (length c.self.inside.newest.items) s c.self.inside.rows.items c.loop-at.at c.loop-at.invariant c.index.result.now c.loop-at-test.true c.index.ensures
    c.self.inside.older.items c.self.inside.newest.items c.index-at-in-loop-at.result.now refl c.self.invariant.each c.self.invariant.linked other c.index-at-in-loop-at.ensures).0

pub returns : goal.returns
returns c =
    none-sought (length c.self.inside.newest.items) (selector_number c.args.sel) c.self.inside.rows.items c.loop-at.at c.loop-at.invariant c.loop-at-test.false
    ∙ ap (λ v. last_index (selector_number c.args.sel) v.rows) c.self.view_is
