use Rattle.std.proofs.Common.{sym, ◌∙◌, refl}
use Rattle.msg_names.proofs.TestLemmas.{neither}
use Rattle.msg_tables.proofs.AttachLemmas.{no_imp-both, misfits-both, listed}
use Rattle.msg_tables.proofs.tables.Tables.unfit_methods.Goals as goal

pub returns-then-any_no_imp_of_two-clause-meaning : goal.returns-then-any_no_imp_of_two-clause-meaning
returns-then-any_no_imp_of_two-clause-meaning c = λ h stands.
    let some = sym (no_imp-both c.args.self.now h stands c.as_slice-own.result.now c.as_slice-meta.result.now) ∙ sym c.any_no_imp_of_two.ensures ∙ c.if-any_no_imp_of_two.true in
    rw (← c.as_slice-own.ensures, ← c.as_slice-meta.ensures, some) refl

pub returns-then-any_misfits_of_two-clause-meaning : goal.returns-then-any_misfits_of_two-clause-meaning
returns-then-any_misfits_of_two-clause-meaning c = λ h stands.
    let none = sym (no_imp-both c.args.self.now h stands c.as_slice-own.result.now c.as_slice-meta.result.now) ∙ sym c.any_no_imp_of_two.ensures ∙ c.if-any_no_imp_of_two.false in
    let some = sym (misfits-both c.args.self.now h stands c.as_slice-own.result.now c.as_slice-meta.result.now) ∙ sym c.any_misfits_of_two.ensures ∙ c.if-any_misfits_of_two.true in
    rw (← c.as_slice-own.ensures, ← c.as_slice-meta.ensures, none, some) refl

pub returns-clause-meaning : goal.returns-clause-meaning
returns-clause-meaning c = λ h stands.
    let none = sym (no_imp-both c.args.self.now h stands c.as_slice-own.result.now c.as_slice-meta.result.now) ∙ sym c.any_no_imp_of_two.ensures ∙ c.if-any_no_imp_of_two.false in
    let fit = sym (misfits-both c.args.self.now h stands c.as_slice-own.result.now c.as_slice-meta.result.now) ∙ sym c.any_misfits_of_two.ensures ∙ c.if-any_misfits_of_two.false in
    rw (← c.as_slice-own.ensures, ← c.as_slice-meta.ensures, none, fit) refl

pub returns-clause-methods : goal.returns-clause-methods
returns-clause-methods c = λ e. rw (← c.as_slice-own.ensures) (listed c.args.self.now c.as_slice-own.result.now (neither _ _ (sym c.any_no_imp_of_two.ensures ∙ c.if-any_no_imp_of_two.false)).0)

pub returns-clause-class_methods : goal.returns-clause-class_methods
returns-clause-class_methods c = λ e. rw (← c.as_slice-meta.ensures) (listed c.args.self.now c.as_slice-meta.result.now (neither _ _ (sym c.any_no_imp_of_two.ensures ∙ c.if-any_no_imp_of_two.false)).1)
