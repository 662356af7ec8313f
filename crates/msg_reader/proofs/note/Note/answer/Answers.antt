use Rattle.std.proofs.Common.{◌∙◌, sym}
use Rattle.std.proofs.lemmas.Bool.{eqb-true}
use Rattle.msg_reader.proofs.NoteLemmas.{as_noted}
use Rattle.msg_reader.proofs.note.Note.answer.Goals as goal

pub returns-then-since-self-clause-found : goal.returns-then-since-self-clause-found
returns-then-since-self-clause-found c = λ h is.
    let word = eqb-true _ _ (sym c.is_of.ensures ∙ c.if-is_of.true) in
    as_noted h c.args.self.now c.args.since c.args.slot c.args.sel c.requires.slot c.ranges.sel.fits word c.if-since-self.true is
