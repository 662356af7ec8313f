use Rattle.std.proofs.Common.{sym}
use Rattle.msg_names.specs.ClassRef.{slot_of}
use Rattle.msg_names.specs.Number.{selector_number, imp_number}
use Rattle.msg_reader.specs.Notes.{IsRecalledSince}
use Rattle.msg_reader.proofs.NoteLemmas.{recalled_still}
use Rattle.msg_reader.proofs.notes.Notes.recall.Goals as goal

pub returns-in-Some-clause-found : goal.returns-in-Some-clause-found
returns-in-Some-clause-found c = λ h are ok last.
    let told = c.in-Some.ensures.found h are in
    let slot = c.slot.ensures in
    let named = c.number.ensures.number in
    let imp = c.of.ensures in
    let is : IsRecalledSince h c.args.since (slot_of c.args.class) (selector_number c.args.sel) (imp_number c.of.result) = rw (sym slot, sym named, imp) told in
    (recalled_still h c.args.class c.args.since (selector_number c.args.sel) (imp_number c.of.result) ok last is, is.2.listed)
