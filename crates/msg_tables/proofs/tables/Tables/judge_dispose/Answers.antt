use Rattle.std.proofs.Common.{◌∙◌, sym, refl, true, false}
use Rattle.msg_tables.specs.Refusal.{is_full, is_in_use}
use Rattle.msg_tables.proofs.JudgeLemmas.{refusal-dispose}
use Rattle.msg_tables.proofs.PlaceLemmas.{places-dispose}
use Rattle.msg_tables.proofs.UndoJournalLemmas.{undo-dispose}
use Rattle.msg_tables.proofs.tables.Tables.judge_dispose.Goals as goal

pub returns-then-no_class-clause-meaning : goal.returns-then-no_class-clause-meaning
returns-then-no_class-clause-meaning c = λ h stands. refusal-dispose h c.args.class true (is_full h 0) (is_in_use h c.args.class) (sym (c.no_class.ensures.meaning h stands) ∙ c.if-no_class.true) refl refl

pub returns-then-is_full-clause-meaning : goal.returns-then-is_full-clause-meaning
returns-then-is_full-clause-meaning c = λ h stands.
    refusal-dispose h c.args.class false true (is_in_use h c.args.class) (sym (c.no_class.ensures.meaning h stands) ∙ c.if-no_class.false) (sym (c.is_full.ensures.meaning h stands) ∙ c.if-is_full.true) refl

pub returns-then-is_in_use-clause-meaning : goal.returns-then-is_in_use-clause-meaning
returns-then-is_in_use-clause-meaning c = λ h stands.
    refusal-dispose h c.args.class false false true (sym (c.no_class.ensures.meaning h stands) ∙ c.if-no_class.false) (sym (c.is_full.ensures.meaning h stands) ∙ c.if-is_full.false)
    (sym (c.is_in_use.ensures.meaning h stands) ∙ c.if-is_in_use.true)

pub returns-clause-meaning : goal.returns-clause-meaning
returns-clause-meaning c = λ h stands.
    let none = refusal-dispose h c.args.class false false false (sym (c.no_class.ensures.meaning h stands) ∙ c.if-no_class.false) (sym (c.is_full.ensures.meaning h stands) ∙ c.if-is_full.false)
    (sym (c.is_in_use.ensures.meaning h stands) ∙ c.if-is_in_use.false) in
    (none, refl, refl)

pub returns-clause-places : goal.returns-clause-places
returns-clause-places c = λ h stands. places-dispose h c.args.class

pub returns-clause-undo : goal.returns-clause-undo
returns-clause-undo c = λ h stands. undo-dispose c.args.self.now h stands c.args.class
