use Rattle.std.proofs.Common.{[], ◌∷◌, length, length-append, refl, sym, ap, subst, arith}
use Rattle.msg_names.specs.ClassRef.{slot_of}
use Rattle.msg_names.specs.Number.{selector_number}
use Rattle.msg_tables.specs.Journal.{TakesRows}
use Rattle.msg_tables.specs.View.{TablesView, kept}
use Rattle.msg_tables.proofs.DisposeLemmas.{ends-with, last-none, takes-next, takes-none}
use Rattle.msg_tables.proofs.RewriteLemmas.{own-inside}
use Rattle.msg_tables.proofs.tables.Tables.empty_noted.Goals as goal
use Rattle.msg_tables.proofs.tables.Tables.empty_noted.Goals.{After-note}

pub remove-row-requires : goal.remove-row-requires
remove-row-requires c =
    let end = ends-with (selector_number c.in-Some.sel) (kept c.loop-sel.self.lists c.args.class) (sym c.in-Some.ensures) in
    let takes = c.loop-sel.invariant.takes in
    let same = ap (λ (t : TablesView). length t.supers) takes.rest in
    (omega (arith, same, c.requires.class), rw end.own refl)

takes : (c : After-note) → TakesRows c.args.class c.args.journal.now.items c.note.new.journal.items c.args.self.now c.remove-row.new.self
takes c =
    let class = c.args.class in
    let between = c.loop-sel.self in
    let end = ends-with (selector_number c.in-Some.sel) (kept between.lists class) (sym c.in-Some.ensures) in
    let inside = own-inside between.lists (slot_of class) (selector_number c.in-Some.sel) end.imp end.own in
    subst (λ es. TakesRows class c.args.journal.now.items es c.args.self.now c.remove-row.new.self) (sym c.note.ensures.items)
    (takes-next class c.args.journal.now.items c.loop-sel.journal.items c.args.self.now between c.remove-row.new.self c.remove-row.result c.in-Some.sel inside c.requires.class (sym c.in-Some.ensures)
    c.remove-row.ensures.value (omega (arith, c.remove-row.ensures.writes.row_count)) c.remove-row.ensures.was c.remove-row.ensures.back c.loop-sel.invariant.takes)

pub loop-sel-init : goal.loop-sel-init
loop-sel-init c = record { takes = takes-none c.args.class c.args.journal.now.items c.args.self.now; room = c.requires.room; grown = omega arith }

pub loop-sel-smaller : goal.loop-sel-smaller
loop-sel-smaller c =
    let before = c.loop-sel.invariant.takes in
    let after = takes c in
    let a = before.few in
    let b = after.few in
    let d = ap length before.is in
    let e = ap length after.is in
    let f = ap length c.note.ensures.items in
    let g = length-append c.args.journal.now.items before.entries in
    let h = length-append c.args.journal.now.items after.entries in
    let i = length-append c.loop-sel.journal.items (c.remove-row.result ∷ []) in
    omega (arith, a, b, d, e, f, g, h, i)

pub loop-sel-preserved : goal.loop-sel-preserved
loop-sel-preserved c =
    let before = c.loop-sel.invariant.takes in
    let after = takes c in
    let a = before.few in
    let b = after.few in
    let d = ap length before.is in
    let e = ap length after.is in
    let g = length-append c.args.journal.now.items before.entries in
    let h = length-append c.args.journal.now.items after.entries in
    let i = length-append c.loop-sel.journal.items (c.remove-row.result ∷ []) in
    let f = ap length c.note.ensures.items in
    record {
      takes = after;
      room = omega (arith, a, b, d, e, f, g, h, i, c.loop-sel.invariant.room, c.note.ensures.room);
      grown = omega (arith, c.loop-sel.invariant.grown, c.note.ensures.room);
    }

pub returns-clause-none : goal.returns-clause-none
returns-clause-none c = last-none (kept c.loop-sel.self.lists c.args.class) (sym c.in_default.ensures)
