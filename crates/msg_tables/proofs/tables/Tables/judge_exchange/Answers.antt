use Rattle.std.proofs.Common.{◌≡◌, ◌∙◌, ap, ℕ, sym, refl, true, false, None, Some, option_map}
use Rattle.std.specs.Option.{option_map_or}
use Rattle.msg_names.specs.declared.value.ClassRef.{ClassRef}
use Rattle.msg_names.specs.Number.{selector_number, imp_number}
use Rattle.msg_tables.specs.Log.{holder, lookup}
use Rattle.msg_tables.specs.Refusal.{unlike, is_full}
use Rattle.msg_tables.proofs.JudgeLemmas.{refusal-exchange, rows-exchange}
use Rattle.msg_tables.proofs.LookupLemmas.{holder-stands, lookup-stands}
use Rattle.msg_tables.proofs.PlaceLemmas.{places-exchange}
use Rattle.msg_tables.proofs.UndoJournalLemmas.{undo-exchange}
use Rattle.msg_tables.proofs.tables.Tables.judge_exchange.Goals as goal

pub returns-then-no_class_of_two-clause-meaning : goal.returns-then-no_class_of_two-clause-meaning
returns-then-no_class_of_two-clause-meaning c = λ h stands.
    refusal-exchange h c.args.class c.args.sel c.args.other c.args.other_sel true (unlike h (selector_number c.args.sel) (selector_number c.args.other_sel)) (holder h c.args.class (selector_number c.args.sel)) (holder h c.args.other (selector_number c.args.other_sel)) (is_full h 0)
    (sym (c.no_class_of_two.ensures.meaning h stands) ∙ c.if-no_class_of_two.true) refl refl refl refl

pub returns-then-unlike-clause-meaning : goal.returns-then-unlike-clause-meaning
returns-then-unlike-clause-meaning c = λ h stands.
    refusal-exchange h c.args.class c.args.sel c.args.other c.args.other_sel false true (holder h c.args.class (selector_number c.args.sel)) (holder h c.args.other (selector_number c.args.other_sel)) (is_full h 0)
    (sym (c.no_class_of_two.ensures.meaning h stands) ∙ c.if-no_class_of_two.false) (sym (c.unlike.ensures h stands) ∙ c.if-unlike.true) refl refl refl

pub returns-in_default-clause-meaning : goal.returns-in_default-clause-meaning
returns-in_default-clause-meaning c = λ h stands.
    let none : holder h c.args.class (selector_number c.args.sel) ≡ None = holder-stands c.args.self.now h stands c.args.class (selector_number c.args.sel) ∙ ap (λ o. option_map (λ (m : ClassRef × ℕ). m.0) o) (sym c.in_default.ensures.method) in
    refusal-exchange h c.args.class c.args.sel c.args.other c.args.other_sel false false None (holder h c.args.other (selector_number c.args.other_sel)) (is_full h 0)
    (sym (c.no_class_of_two.ensures.meaning h stands) ∙ c.if-no_class_of_two.false) (sym (c.unlike.ensures h stands) ∙ c.if-unlike.false) none refl refl

pub returns-in_default-method-clause-meaning : goal.returns-in_default-method-clause-meaning
returns-in_default-method-clause-meaning c = λ h stands.
    let first : holder h c.args.class (selector_number c.args.sel) ≡ Some c.in-Some.first.holder = holder-stands c.args.self.now h stands c.args.class (selector_number c.args.sel) ∙ ap (λ o. option_map (λ (m : ClassRef × ℕ). m.0) o) (sym c.in-Some.ensures.method) in
    let none : holder h c.args.other (selector_number c.args.other_sel) ≡ None = holder-stands c.args.self.now h stands c.args.other (selector_number c.args.other_sel) ∙ ap (λ o. option_map (λ (m : ClassRef × ℕ). m.0) o) (sym c.in_default-method.ensures.method) in
    refusal-exchange h c.args.class c.args.sel c.args.other c.args.other_sel false false (Some c.in-Some.first.holder) None (is_full h 0)
    (sym (c.no_class_of_two.ensures.meaning h stands) ∙ c.if-no_class_of_two.false) (sym (c.unlike.ensures h stands) ∙ c.if-unlike.false) first none refl

pub returns-then-is_full-clause-meaning : goal.returns-then-is_full-clause-meaning
returns-then-is_full-clause-meaning c = λ h stands.
    let first : holder h c.args.class (selector_number c.args.sel) ≡ Some c.in-Some.first.holder = holder-stands c.args.self.now h stands c.args.class (selector_number c.args.sel) ∙ ap (λ o. option_map (λ (m : ClassRef × ℕ). m.0) o) (sym c.in-Some.ensures.method) in
    let second : holder h c.args.other (selector_number c.args.other_sel) ≡ Some c.in-Some-method.second.holder = holder-stands c.args.self.now h stands c.args.other (selector_number c.args.other_sel) ∙ ap (λ o. option_map (λ (m : ClassRef × ℕ). m.0) o) (sym c.in-Some-method.ensures.method) in
    refusal-exchange h c.args.class c.args.sel c.args.other c.args.other_sel false false (Some c.in-Some.first.holder) (Some c.in-Some-method.second.holder) true
    (sym (c.no_class_of_two.ensures.meaning h stands) ∙ c.if-no_class_of_two.false) (sym (c.unlike.ensures h stands) ∙ c.if-unlike.false) first second (sym (c.is_full.ensures.meaning h stands) ∙ c.if-is_full.true)

pub returns-clause-meaning : goal.returns-clause-meaning
returns-clause-meaning c = λ h stands.
    let first : holder h c.args.class (selector_number c.args.sel) ≡ Some c.in-Some.first.holder = holder-stands c.args.self.now h stands c.args.class (selector_number c.args.sel) ∙ ap (λ o. option_map (λ (m : ClassRef × ℕ). m.0) o) (sym c.in-Some.ensures.method) in
    let second : holder h c.args.other (selector_number c.args.other_sel) ≡ Some c.in-Some-method.second.holder = holder-stands c.args.self.now h stands c.args.other (selector_number c.args.other_sel) ∙ ap (λ o. option_map (λ (m : ClassRef × ℕ). m.0) o) (sym c.in-Some-method.ensures.method) in
    let i : lookup h c.args.class (selector_number c.args.sel) ≡ imp_number c.in-Some.first.imp = lookup-stands c.args.self.now h stands c.args.class (selector_number c.args.sel) ∙ ap (λ o. option_map_or (λ (m : ClassRef × ℕ). m.1) o 0) (sym c.in-Some.ensures.method) in
    let j : lookup h c.args.other (selector_number c.args.other_sel) ≡ imp_number c.in-Some-method.second.imp = lookup-stands c.args.self.now h stands c.args.other (selector_number c.args.other_sel) ∙ ap (λ o. option_map_or (λ (m : ClassRef × ℕ). m.1) o 0) (sym c.in-Some-method.ensures.method) in
    let none = refusal-exchange h c.args.class c.args.sel c.args.other c.args.other_sel false false (Some c.in-Some.first.holder) (Some c.in-Some-method.second.holder) false
    (sym (c.no_class_of_two.ensures.meaning h stands) ∙ c.if-no_class_of_two.false) (sym (c.unlike.ensures h stands) ∙ c.if-unlike.false) first second (sym (c.is_full.ensures.meaning h stands) ∙ c.if-is_full.false) in
    (none, rows-exchange h c.args.class c.args.sel c.args.other c.args.other_sel c.in-Some.first.holder c.in-Some-method.second.holder (imp_number c.in-Some.first.imp) (imp_number c.in-Some-method.second.imp) first second i j, refl)

pub returns-clause-places : goal.returns-clause-places
returns-clause-places c = λ h stands.
    let first : holder h c.args.class (selector_number c.args.sel) ≡ Some c.in-Some.first.holder = holder-stands c.args.self.now h stands c.args.class (selector_number c.args.sel) ∙ ap (λ o. option_map (λ (m : ClassRef × ℕ). m.0) o) (sym c.in-Some.ensures.method) in
    let second : holder h c.args.other (selector_number c.args.other_sel) ≡ Some c.in-Some-method.second.holder = holder-stands c.args.self.now h stands c.args.other (selector_number c.args.other_sel) ∙ ap (λ o. option_map (λ (m : ClassRef × ℕ). m.0) o) (sym c.in-Some-method.ensures.method) in
    places-exchange h c.args.class c.args.other c.args.sel c.args.other_sel c.in-Some.first.holder c.in-Some-method.second.holder first second

pub returns-clause-undo : goal.returns-clause-undo
returns-clause-undo c = λ h stands.
    let first : holder h c.args.class (selector_number c.args.sel) ≡ Some c.in-Some.first.holder = holder-stands c.args.self.now h stands c.args.class (selector_number c.args.sel) ∙ ap (λ o. option_map (λ (m : ClassRef × ℕ). m.0) o) (sym c.in-Some.ensures.method) in
    let second : holder h c.args.other (selector_number c.args.other_sel) ≡ Some c.in-Some-method.second.holder = holder-stands c.args.self.now h stands c.args.other (selector_number c.args.other_sel) ∙ ap (λ o. option_map (λ (m : ClassRef × ℕ). m.0) o) (sym c.in-Some-method.ensures.method) in
    let i : lookup h c.args.class (selector_number c.args.sel) ≡ imp_number c.in-Some.first.imp = lookup-stands c.args.self.now h stands c.args.class (selector_number c.args.sel) ∙ ap (λ o. option_map_or (λ (m : ClassRef × ℕ). m.1) o 0) (sym c.in-Some.ensures.method) in
    let j : lookup h c.args.other (selector_number c.args.other_sel) ≡ imp_number c.in-Some-method.second.imp = lookup-stands c.args.self.now h stands c.args.other (selector_number c.args.other_sel) ∙ ap (λ o. option_map_or (λ (m : ClassRef × ℕ). m.1) o 0) (sym c.in-Some-method.ensures.method) in
    undo-exchange c.args.self.now h stands c.args.class c.args.other c.in-Some.first.holder c.in-Some-method.second.holder c.args.sel c.args.other_sel c.in-Some-method.second.imp c.in-Some.first.imp c.in-Some.first.imp c.in-Some-method.second.imp
    first i c.in-Some.ensures.own second j c.in-Some-method.ensures.own
