use Rattle.std.proofs.Common.{◌∙◌, sym, refl, true, false}
use Rattle.msg_names.specs.Number.{selector_number}
use Rattle.msg_tables.specs.Refusal.{has_own, is_full, unlike}
use Rattle.msg_tables.proofs.JudgeLemmas.{refusal-remove}
use Rattle.msg_tables.proofs.PlaceLemmas.{places-remove}
use Rattle.msg_tables.proofs.UndoJournalLemmas.{undo-remove}
use Rattle.msg_tables.proofs.tables.Tables.judge_remove.Goals as goal

pub returns-then-no_class-clause-meaning : goal.returns-then-no_class-clause-meaning
returns-then-no_class-clause-meaning c = λ h stands.
    refusal-remove h c.args.class c.args.sel true (unlike h (selector_number c.args.sel) (selector_number c.args.sel)) (has_own h c.args.class (selector_number c.args.sel)) (is_full h 0)
    (sym (c.no_class.ensures.meaning h stands) ∙ c.if-no_class.true) refl refl refl

pub returns-then-unlike-clause-meaning : goal.returns-then-unlike-clause-meaning
returns-then-unlike-clause-meaning c = λ h stands.
    refusal-remove h c.args.class c.args.sel false true (has_own h c.args.class (selector_number c.args.sel)) (is_full h 0)
    (sym (c.no_class.ensures.meaning h stands) ∙ c.if-no_class.false) (sym (c.unlike.ensures h stands) ∙ c.if-unlike.true) refl refl

pub returns-then-not-has_own-clause-meaning : goal.returns-then-not-has_own-clause-meaning
returns-then-not-has_own-clause-meaning c = λ h stands.
    refusal-remove h c.args.class c.args.sel false false false (is_full h 0)
    (sym (c.no_class.ensures.meaning h stands) ∙ c.if-no_class.false) (sym (c.unlike.ensures h stands) ∙ c.if-unlike.false) (sym (c.has_own.ensures.meaning h stands) ∙ c.if-not-has_own.true) refl

pub returns-then-is_full-clause-meaning : goal.returns-then-is_full-clause-meaning
returns-then-is_full-clause-meaning c = λ h stands.
    refusal-remove h c.args.class c.args.sel false false true true
    (sym (c.no_class.ensures.meaning h stands) ∙ c.if-no_class.false) (sym (c.unlike.ensures h stands) ∙ c.if-unlike.false) (sym (c.has_own.ensures.meaning h stands) ∙ c.if-not-has_own.false)
    (sym (c.is_full.ensures.meaning h stands) ∙ c.if-is_full.true)

pub returns-clause-meaning : goal.returns-clause-meaning
returns-clause-meaning c = λ h stands.
    let none = refusal-remove h c.args.class c.args.sel false false true false
    (sym (c.no_class.ensures.meaning h stands) ∙ c.if-no_class.false) (sym (c.unlike.ensures h stands) ∙ c.if-unlike.false) (sym (c.has_own.ensures.meaning h stands) ∙ c.if-not-has_own.false)
    (sym (c.is_full.ensures.meaning h stands) ∙ c.if-is_full.false) in
    (none, refl, refl)

pub returns-clause-places : goal.returns-clause-places
returns-clause-places c = λ h stands. places-remove h c.args.class c.args.sel

pub returns-clause-undo : goal.returns-clause-undo
returns-clause-undo c = λ h stands. undo-remove c.args.self.now h stands c.args.class c.args.sel
