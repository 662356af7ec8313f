use Rattle.std.proofs.Common.{◌∙◌, sym, refl, true, false}
use Rattle.msg_tables.specs.Refusal.{is_full}
use Rattle.msg_tables.proofs.JudgeLemmas.{unfit-add, fit-add}
use Rattle.msg_tables.proofs.PlaceLemmas.{places-add}
use Rattle.msg_tables.proofs.tables.Tables.judge_add.Goals as goal

pub returns-in-Some-clause-meaning : goal.returns-in-Some-clause-meaning
returns-in-Some-clause-meaning c = λ h stands. unfit-add h c.args.row.class c.args.row.sel c.args.row.imp c.in-Some.fault (sym (c.unfit.ensures.meaning h stands) ∙ c.in-Some.is)

pub returns-then-has_own-clause-meaning : goal.returns-then-has_own-clause-meaning
returns-then-has_own-clause-meaning c = λ h stands.
    fit-add h c.args.row.class c.args.row.sel c.args.row.imp true (is_full h 1) (sym (c.unfit.ensures.meaning h stands) ∙ c.in_default.is) (sym (c.has_own.ensures.meaning h stands) ∙ c.if-has_own.true) refl

pub returns-then-is_full-clause-meaning : goal.returns-then-is_full-clause-meaning
returns-then-is_full-clause-meaning c = λ h stands.
    fit-add h c.args.row.class c.args.row.sel c.args.row.imp false true (sym (c.unfit.ensures.meaning h stands) ∙ c.in_default.is) (sym (c.has_own.ensures.meaning h stands) ∙ c.if-has_own.false) (sym (c.is_full.ensures.meaning h stands) ∙ c.if-is_full.true)

pub returns-clause-meaning : goal.returns-clause-meaning
returns-clause-meaning c = λ h stands.
    let none = fit-add h c.args.row.class c.args.row.sel c.args.row.imp false false (sym (c.unfit.ensures.meaning h stands) ∙ c.in_default.is) (sym (c.has_own.ensures.meaning h stands) ∙ c.if-has_own.false) (sym (c.is_full.ensures.meaning h stands) ∙ c.if-is_full.false) in
    (none, refl, refl)

pub returns-clause-places : goal.returns-clause-places
returns-clause-places c = λ h stands. places-add h c.args.row
