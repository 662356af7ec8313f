use Rattle.std.proofs.Common.{take, length, ◌+◌, ◌≡◌, Some, Err, ap, sym, subst, ◌∙◌, arith}
use Rattle.msg_tables.specs.ChangeList.{change_of}
use Rattle.std.specs.Vec.{vec_capacity}
use Rattle.msg_tables.specs.Log.{table}
use Rattle.msg_tables.specs.Undo.{undo_all}
use Rattle.msg_tables.specs.Several.{and_all}
use Rattle.msg_tables.proofs.WantLemmas.{held-next, held-none, wants-next}
use Rattle.msg_tables.proofs.WayLemmas.{length-undo}
use Rattle.msg_tables.proofs.MakingLemmas.{accepted-next, at-place, made-kept, made-none, made-next, refused-place}
use Rattle.msg_tables.specs.Making.{IsMade}
use Rattle.msg_rows.proofs.RoomLemmas.{grown-on, grown-same}
use Rattle.msg_tables.proofs.SeveralLemmas.{accepted-none}
use Rattle.msg_tables.proofs.tables.Tables.apply_each.Goals as goal

pub loop-place-init : goal.loop-place-init
loop-place-init g c = record { made = made-none c.args.self.now c.args.journal.now.items c.requires.none; held = held-none c.args.self.now c.requires.within; within = c.requires.within; room = omega arith; grown = grown-same c.args.self.now.rooms }

pub loop-place-preserved : goal.loop-place-preserved
loop-place-preserved g c = record {
  made = made-next (g.L.ChangeList.changes c.args.changes.now) c.loop-place.place (change_of c.get.result) c.loop-place.journal.items c.apply_part.new.journal.items c.args.self.now c.loop-place.self c.apply_part.new.self (omega (arith, c.loop-place-test.true, c.len-place-end.ensures.count)) (at-place (g.L.ChangeList.changes c.args.changes.now) c.loop-place.place (change_of c.get.result) c.get.ensures)
      c.loop-place.invariant.made c.in_default.ensures.ok c.in_default.ensures.part;
  held =
      let xs = g.L.ChangeList.changes c.args.changes.now in
      held-next xs c.loop-place.place (change_of c.get.result) c.args.self.now c.loop-place.self c.apply_part.new.self (omega (arith, c.loop-place-test.true, c.len-place-end.ensures.count)) (at-place xs c.loop-place.place (change_of c.get.result) c.get.ensures)
      c.loop-place.invariant.held c.in_default.ensures.grown c.in_default.ensures.within (λ h stands. (c.in_default.ensures.ok (and_all h (take c.loop-place.place xs)) (c.loop-place.invariant.made.stands h stands).1).1);
  within = c.in_default.ensures.within;
  room = omega (arith, c.loop-place.invariant.room, c.in_default.ensures.room);
  grown = grown-on c.args.self.now.rooms c.loop-place.self.rooms c.apply_part.new.self.rooms c.loop-place.invariant.grown c.in_default.ensures.grown;
}

pub returns-in-Err-clause-fault : goal.returns-in-Err-clause-fault
returns-in-Err-clause-fault g c = λ other h stands.
    let changes = g.L.ChangeList.changes c.args.changes.now in
    let place = c.loop-place.place in
    let so-far = c.loop-place.invariant.made.stands h stands in
    let from : 0 + place ≡ place = omega arith in
    refused-place 0 h changes place (change_of c.get.result) c.in-Err.fault (omega (arith, c.loop-place-test.true, c.len-place-end.ensures.count)) (at-place (g.L.ChangeList.changes c.args.changes.now) c.loop-place.place (change_of c.get.result) c.get.ensures) so-far.0 (c.in-Err.ensures.fault other (and_all h (take place changes)) so-far.1)
    ∙ ap (λ n. Some (n, c.in-Err.fault)) from

pub returns-in-Err-clause-memory : goal.returns-in-Err-clause-memory
returns-in-Err-clause-memory g c = λ wanting h stands.
    let changes = g.L.ChangeList.changes c.args.changes.now in
    let place = c.loop-place.place in
    let so-far = c.loop-place.invariant.made.stands h stands in
    accepted-none h (take (place + 1) changes) 0
    (accepted-next h changes place (change_of c.get.result) (omega (arith, c.loop-place-test.true, c.len-place-end.ensures.count)) (at-place (g.L.ChangeList.changes c.args.changes.now) c.loop-place.place (change_of c.get.result) c.get.ensures) so-far.0 (c.in-Err.ensures.memory (ap Err wanting) (and_all h (take place changes)) so-far.1))

pub returns-in-Err-clause-err : goal.returns-in-Err-clause-err
returns-in-Err-clause-err g c =
    let xs = g.L.ChangeList.changes c.args.changes.now in
    let place = c.loop-place.place in
    let (kept, same) = c.in-Err.ensures.err in (
      omega (arith, c.loop-place-test.true, c.len-place-end.ensures.count),
      subst (λ es. IsMade (take place xs) es c.args.self.now c.apply_part.new.self) (sym same) (made-kept (take place xs) c.loop-place.journal.items c.args.self.now c.loop-place.self c.apply_part.new.self kept c.in-Err.ensures.grown c.loop-place.invariant.made),
    )

pub returns-in-Err-clause-wanting : goal.returns-in-Err-clause-wanting
returns-in-Err-clause-wanting g c = λ wanting h stands.
    let xs = g.L.ChangeList.changes c.args.changes.now in
    let place = c.loop-place.place in
    let made = c.loop-place.invariant.made in
    let counted : length c.loop-place.journal.items ≡ length (undo_all (table h) (take place xs)) = sym (length-undo c.loop-place.journal.items) ∙ sym (ap length (made.undone h stands)) in
    wants-next xs place (change_of c.get.result) h c.args.self.now c.loop-place.self (vec_capacity c.args.journal.now) (vec_capacity c.loop-place.journal) (length c.loop-place.journal.items)
    (omega (arith, c.loop-place-test.true, c.len-place-end.ensures.count)) (at-place xs place (change_of c.get.result) c.get.ensures) c.loop-place.invariant.grown c.loop-place.invariant.room counted
    (c.in-Err.ensures.wanting (ap Err wanting) (and_all h (take place xs)) (made.stands h stands).1)
