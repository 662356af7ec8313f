use Rattle.std.proofs.Common.{◌∙◌, sym, true, false}
use Rattle.msg_names.specs.Number.{selector_number, imp_number}
use Rattle.msg_tables.specs.Log.{table}
use Rattle.msg_tables.proofs.CoverLemmas.{unfit-cover, fit-cover, places-cover}
use Rattle.msg_tables.proofs.WayBackLemmas.{covering-rows, covering-supers}
use Rattle.msg_tables.proofs.UndoJournalLemmas.{undo-cover}
use Rattle.msg_tables.proofs.tables.Tables.judge_cover.Goals as goal

pub returns-in-Some-clause-meaning : goal.returns-in-Some-clause-meaning
returns-in-Some-clause-meaning c = λ h stands. unfit-cover h c.args.row.class c.args.row.sel c.args.row.imp c.in-Some.fault (sym (c.unfit.ensures.meaning h stands) ∙ c.in-Some.is)

pub returns-then-is_full-clause-meaning : goal.returns-then-is_full-clause-meaning
returns-then-is_full-clause-meaning c = λ h stands.
    fit-cover h c.args.row.class c.args.row.sel c.args.row.imp true (sym (c.unfit.ensures.meaning h stands) ∙ c.in_default.is) (sym (c.is_full.ensures.meaning h stands) ∙ c.if-is_full.true)

pub returns-clause-meaning : goal.returns-clause-meaning
returns-clause-meaning c = λ h stands.
    let none = fit-cover h c.args.row.class c.args.row.sel c.args.row.imp false (sym (c.unfit.ensures.meaning h stands) ∙ c.in_default.is) (sym (c.is_full.ensures.meaning h stands) ∙ c.if-is_full.false) in
    (none, covering-rows (table h) c.args.row.class (selector_number c.args.row.sel) (imp_number c.args.row.imp), covering-supers (table h).supers c.args.row.class (selector_number c.args.row.sel) (imp_number c.args.row.imp))

pub returns-clause-places : goal.returns-clause-places
returns-clause-places c = λ h stands. places-cover h c.args.row.class c.args.row.sel c.args.row.imp

pub returns-clause-undo : goal.returns-clause-undo
returns-clause-undo c = λ h stands. undo-cover c.args.self.now h stands c.args.row
