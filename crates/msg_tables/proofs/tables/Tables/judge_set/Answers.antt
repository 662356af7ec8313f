use Rattle.std.proofs.Common.{◌≡◌, ◌∙◌, ap, ℕ, sym, refl, true, false, None, Some, option_map}
use Rattle.std.specs.Option.{option_map_or}
use Rattle.msg_names.specs.declared.value.ClassRef.{ClassRef}
use Rattle.msg_names.specs.Number.{selector_number, imp_number}
use Rattle.msg_tables.specs.Log.{holder, lookup}
use Rattle.msg_tables.specs.Refusal.{is_full}
use Rattle.msg_tables.proofs.JudgeLemmas.{unfit-set, fit-set, rows-set}
use Rattle.msg_tables.proofs.LookupLemmas.{holder-stands, lookup-stands}
use Rattle.msg_tables.proofs.PlaceLemmas.{places-set}
use Rattle.msg_tables.proofs.UndoJournalLemmas.{undo-set}
use Rattle.msg_tables.proofs.tables.Tables.judge_set.Goals as goal

pub returns-in-Some-clause-meaning : goal.returns-in-Some-clause-meaning
returns-in-Some-clause-meaning c = λ h stands. unfit-set h c.args.row.class c.args.row.sel c.args.row.imp c.in-Some.fault (sym (c.unfit.ensures.meaning h stands) ∙ c.in-Some.is)

pub returns-in_default-method-clause-meaning : goal.returns-in_default-method-clause-meaning
returns-in_default-method-clause-meaning c = λ h stands.
    let none : holder h c.args.row.class (selector_number c.args.row.sel) ≡ None = holder-stands c.args.self.now h stands c.args.row.class (selector_number c.args.row.sel) ∙ ap (λ o. option_map (λ (m : ClassRef × ℕ). m.0) o) (sym c.in_default-method.ensures.method) in
    fit-set h c.args.row.class c.args.row.sel c.args.row.imp None (is_full h 0) (sym (c.unfit.ensures.meaning h stands) ∙ c.in_default.is) none refl

pub returns-then-is_full-clause-meaning : goal.returns-then-is_full-clause-meaning
returns-then-is_full-clause-meaning c = λ h stands.
    let found : holder h c.args.row.class (selector_number c.args.row.sel) ≡ Some c.in-Some-method.found.holder = holder-stands c.args.self.now h stands c.args.row.class (selector_number c.args.row.sel) ∙ ap (λ o. option_map (λ (m : ClassRef × ℕ). m.0) o) (sym c.in-Some-method.ensures.method) in
    fit-set h c.args.row.class c.args.row.sel c.args.row.imp (Some c.in-Some-method.found.holder) true (sym (c.unfit.ensures.meaning h stands) ∙ c.in_default.is) found (sym (c.is_full.ensures.meaning h stands) ∙ c.if-is_full.true)

pub returns-clause-meaning : goal.returns-clause-meaning
returns-clause-meaning c = λ h stands.
    let found : holder h c.args.row.class (selector_number c.args.row.sel) ≡ Some c.in-Some-method.found.holder = holder-stands c.args.self.now h stands c.args.row.class (selector_number c.args.row.sel) ∙ ap (λ o. option_map (λ (m : ClassRef × ℕ). m.0) o) (sym c.in-Some-method.ensures.method) in
    let none = fit-set h c.args.row.class c.args.row.sel c.args.row.imp (Some c.in-Some-method.found.holder) false (sym (c.unfit.ensures.meaning h stands) ∙ c.in_default.is) found (sym (c.is_full.ensures.meaning h stands) ∙ c.if-is_full.false) in
    (none, rows-set h c.args.row.class c.args.row.sel c.args.row.imp c.in-Some-method.found.holder found, refl)

pub returns-clause-places : goal.returns-clause-places
returns-clause-places c = λ h stands.
    let found : holder h c.args.row.class (selector_number c.args.row.sel) ≡ Some c.in-Some-method.found.holder = holder-stands c.args.self.now h stands c.args.row.class (selector_number c.args.row.sel) ∙ ap (λ o. option_map (λ (m : ClassRef × ℕ). m.0) o) (sym c.in-Some-method.ensures.method) in
    places-set h c.args.row.class c.args.row.sel c.args.row.imp c.in-Some-method.found.holder found

pub returns-clause-undo : goal.returns-clause-undo
returns-clause-undo c = λ h stands.
    let s = selector_number c.args.row.sel in
    let found : holder h c.args.row.class s ≡ Some c.in-Some-method.found.holder = holder-stands c.args.self.now h stands c.args.row.class s ∙ ap (λ o. option_map (λ (m : ClassRef × ℕ). m.0) o) (sym c.in-Some-method.ensures.method) in
    let looks : lookup h c.args.row.class s ≡ imp_number c.in-Some-method.found.imp = lookup-stands c.args.self.now h stands c.args.row.class s ∙ ap (λ o. option_map_or (λ (m : ClassRef × ℕ). m.1) o 0) (sym c.in-Some-method.ensures.method) in
    undo-set c.args.self.now h stands c.args.row.class c.in-Some-method.found.holder c.args.row.sel c.args.row.imp c.in-Some-method.found.imp found looks c.in-Some-method.ensures.own
