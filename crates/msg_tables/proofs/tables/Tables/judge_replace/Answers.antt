use Rattle.std.proofs.Common.{refl, ◌∙◌, sym, true, false}
use Rattle.msg_tables.proofs.JudgeLemmas.{unfit-replace, fit-replace, rows-replace}
use Rattle.msg_tables.proofs.PlaceLemmas.{places-replace, places-replace-add}
use Rattle.msg_tables.proofs.UndoJournalLemmas.{undo-replace, undo-replace-add}
use Rattle.msg_tables.proofs.tables.Tables.judge_replace.Goals as goal

pub returns-in-Some-clause-meaning : goal.returns-in-Some-clause-meaning
returns-in-Some-clause-meaning c = λ h stands. unfit-replace h c.args.row.class c.args.row.sel c.args.row.imp c.in-Some.fault (sym (c.unfit.ensures.meaning h stands) ∙ c.in-Some.is)

pub returns-then-is_full-clause-meaning : goal.returns-then-is_full-clause-meaning
returns-then-is_full-clause-meaning c = λ h stands.
    fit-replace h c.args.row.class c.args.row.sel c.args.row.imp true true (sym (c.unfit.ensures.meaning h stands) ∙ c.in_default.is) (sym (c.has_own.ensures.meaning h stands) ∙ c.if-has_own.true) (sym (c.is_full.ensures.meaning h stands) ∙ c.if-is_full.true)

pub returns-then-has_own-clause-meaning : goal.returns-then-has_own-clause-meaning
returns-then-has_own-clause-meaning c = λ h stands.
    let present = sym (c.has_own.ensures.meaning h stands) ∙ c.if-has_own.true in
    let none = fit-replace h c.args.row.class c.args.row.sel c.args.row.imp true false (sym (c.unfit.ensures.meaning h stands) ∙ c.in_default.is) present (sym (c.is_full.ensures.meaning h stands) ∙ c.if-is_full.false) in
    (none, rows-replace h c.args.row.class c.args.row.sel c.args.row.imp true present, refl)

pub returns-then-is_full-2-clause-meaning : goal.returns-then-is_full-2-clause-meaning
returns-then-is_full-2-clause-meaning c = λ h stands.
    fit-replace h c.args.row.class c.args.row.sel c.args.row.imp false true (sym (c.unfit.ensures.meaning h stands) ∙ c.in_default.is) (sym (c.has_own.ensures.meaning h stands) ∙ c.if-has_own.false) (sym (c.is_full-2.ensures.meaning h stands) ∙ c.if-is_full-2.true)

pub returns-clause-meaning : goal.returns-clause-meaning
returns-clause-meaning c = λ h stands.
    let absent = sym (c.has_own.ensures.meaning h stands) ∙ c.if-has_own.false in
    let none = fit-replace h c.args.row.class c.args.row.sel c.args.row.imp false false (sym (c.unfit.ensures.meaning h stands) ∙ c.in_default.is) absent (sym (c.is_full-2.ensures.meaning h stands) ∙ c.if-is_full-2.false) in
    (none, rows-replace h c.args.row.class c.args.row.sel c.args.row.imp false absent, refl)

pub returns-then-has_own-clause-places : goal.returns-then-has_own-clause-places
returns-then-has_own-clause-places c = λ h stands. places-replace h c.args.row

pub returns-clause-places : goal.returns-clause-places
returns-clause-places c = λ h stands. places-replace-add h c.args.row

pub returns-then-has_own-clause-undo : goal.returns-then-has_own-clause-undo
returns-then-has_own-clause-undo c = λ h stands. undo-replace c.args.self.now h stands c.args.row (c.has_own.ensures.own c.if-has_own.true)

pub returns-clause-undo : goal.returns-clause-undo
returns-clause-undo c = λ h stands. undo-replace-add c.args.self.now h stands c.args.row (sym (c.has_own.ensures.meaning h stands) ∙ c.if-has_own.false)
