use Rattle.std.proofs.Common.{◌≡◌, Some, length, ap, ◌∙◌, inl, ⊎_elim, arith}
use Rattle.std.specs.Vec.{vec_capacity}
use Rattle.msg_names.specs.ClassRef.{slot_of}
use Rattle.msg_rows.proofs.RoomLemmas.{within-room}
use Rattle.msg_tables.proofs.WantLemmas.{undo-count, wants-rows, within-kept}
use Rattle.std.proofs.lemmas.Result.{err_from_is_err_and}
use Rattle.msg_tables.specs.declared.fault.ChangeFault.TheVariants.{Memory}
use Rattle.msg_tables.proofs.ApplyLemmas.{refused-not_memory, stands-after}
use Rattle.msg_tables.specs.ChangeList.{change_of}
use Rattle.msg_tables.proofs.MakingLemmas.{part-made}
use Rattle.msg_tables.proofs.tables.Tables.apply_part.Goals as goal

pub returns-clause-ok : goal.returns-clause-ok
returns-clause-ok c h stands =
    let (none, same, makes) = rw (c.in_ok-edit.was) at (c.judge.ensures.meaning h stands) in
    let after = stands-after c.args.self.now c.write_with_room.new.self h (change_of c.args.change) c.in_ok-edit.edit stands (rw (c.in_ok-edit.was) at c.judge.ensures.fits).named none same makes c.in_ok-write_with_room.ensures.ok.writes in
    (none, rw (← c.self.view_is) at after)

pub returns-clause-part : goal.returns-clause-part
returns-clause-part c =
    let noted = c.in_ok-write_with_room.ensures.ok in
    let part = part-made (change_of c.args.change) c.in_ok-edit.edit c.args.journal.now.items c.write_with_room.new.journal.items c.args.self.now c.write_with_room.new.self (rw (c.in_ok-edit.was) at c.judge.ensures.places) (rw (c.in_ok-edit.was) at c.judge.ensures.made) (rw (c.in_ok-edit.was) at c.judge.ensures.undo) noted in
    rw (← c.self.view_is) at part

pub returns-in_err-edit-clause-memory : goal.returns-in_err-edit-clause-memory
returns-in_err-edit-clause-memory c is h stands =
    let (y, at, same) = err_from_is_err_and c.from_residual.result c.from_residual.ensures.1 in
    let memory : c.in_err-edit.field-0.0 ≡ Memory = cc in
    absurd (refused-not_memory h (change_of c.args.change) (c.in_err-edit.ensures.meaning h stands ∙ ap Some memory))

pub returns-clause-within : goal.returns-clause-within
returns-clause-within c = λ d. within-room c.self.inside.lists (slot_of d)

pub returns-in_err-write_with_room-clause-within : goal.returns-in_err-write_with_room-clause-within
returns-in_err-write_with_room-clause-within c =
    within-kept c.args.self.now c.write_with_room.new.self c.in_err-write_with_room.ensures.err.0 c.in_err-write_with_room.ensures.grown c.requires.within

pub returns-in_err-edit-clause-wanting : goal.returns-in_err-edit-clause-wanting
returns-in_err-edit-clause-wanting c is h stands =
    let (y, at, same) = err_from_is_err_and c.from_residual.result c.from_residual.ensures.1 in
    let memory : c.in_err-edit.field-0.0 ≡ Memory = cc in
    absurd (refused-not_memory h (change_of c.args.change) (c.in_err-edit.ensures.meaning h stands ∙ ap Some memory))

pub returns-in_err-write_with_room-clause-wanting : goal.returns-in_err-write_with_room-clause-wanting
returns-in_err-write_with_room-clause-wanting c is h stands =
    let (none, same, makes) = rw (c.in_ok-edit.was) at (c.judge.ensures.meaning h stands) in
    let fits = rw (c.in_ok-edit.was) at c.judge.ensures.fits in
    let undoes = (rw (c.in_ok-edit.was) at c.judge.ensures.undo) h stands in
    let count = undo-count c.args.self.now c.in_ok-edit.edit fits.named in
    let all = ap length undoes in
    ⊎_elim (λ full. inl (omega (arith, count, all, full, c.args.journal.now.ok.0)))
    (λ lacks. wants-rows c.args.self.now h stands (change_of c.args.change) c.in_ok-edit.edit (length c.args.journal.now.items) (vec_capacity c.args.journal.now) same lacks)
    c.in_err-write_with_room.ensures.wanting
