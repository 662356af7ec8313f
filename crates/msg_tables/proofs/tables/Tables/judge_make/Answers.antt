use Rattle.std.proofs.Common.{◌≡◌, ap, sym, ◌∙◌, refl, true, false}
use Rattle.std.specs.Prelude.{◌||◌}
use Rattle.msg_tables.specs.After.{of_class}
use Rattle.msg_tables.specs.Refusal.{no_number, no_superclass, no_class, is_full}
use Rattle.msg_tables.proofs.JudgeLemmas.{refusal-make}
use Rattle.msg_tables.proofs.PlaceLemmas.{places-make}
use Rattle.msg_tables.proofs.tables.Tables.judge_make.Goals as goal

pub returns-then-no_number-clause-meaning : goal.returns-then-no_number-clause-meaning
returns-then-no_number-clause-meaning c = λ h stands.
    let number : no_number h c.args.class ≡ true = sym (c.no_number.ensures.meaning h stands) ∙ c.if-no_number.true in
    refusal-make h c.args.class c.args.superclass true (is_full h 0) (no_class h (of_class c.args.class)) (ap (λ b. b || no_superclass h c.args.superclass) number) refl refl

pub returns-then-no_superclass-clause-meaning : goal.returns-then-no_superclass-clause-meaning
returns-then-no_superclass-clause-meaning c = λ h stands.
    let number : no_number h c.args.class ≡ false = sym (c.no_number.ensures.meaning h stands) ∙ c.if-no_number.false in
    let up : no_superclass h c.args.superclass ≡ true = sym (c.no_superclass.ensures.meaning h stands) ∙ c.if-no_superclass.true in
    refusal-make h c.args.class c.args.superclass true (is_full h 0) (no_class h (of_class c.args.class)) (ap (λ b. b || no_superclass h c.args.superclass) number ∙ up) refl refl

pub returns-then-is_full-clause-meaning : goal.returns-then-is_full-clause-meaning
returns-then-is_full-clause-meaning c = λ h stands.
    let number : no_number h c.args.class ≡ false = sym (c.no_number.ensures.meaning h stands) ∙ c.if-no_number.false in
    let up : no_superclass h c.args.superclass ≡ false = sym (c.no_superclass.ensures.meaning h stands) ∙ c.if-no_superclass.false in
    let full : is_full h 0 ≡ true = sym (c.is_full.ensures.meaning h stands) ∙ c.if-is_full.true in
    refusal-make h c.args.class c.args.superclass false true (no_class h (of_class c.args.class)) (ap (λ b. b || no_superclass h c.args.superclass) number ∙ up) full refl

pub returns-then-not-no_class-clause-meaning : goal.returns-then-not-no_class-clause-meaning
returns-then-not-no_class-clause-meaning c = λ h stands.
    let number : no_number h c.args.class ≡ false = sym (c.no_number.ensures.meaning h stands) ∙ c.if-no_number.false in
    let up : no_superclass h c.args.superclass ≡ false = sym (c.no_superclass.ensures.meaning h stands) ∙ c.if-no_superclass.false in
    let full : is_full h 0 ≡ false = sym (c.is_full.ensures.meaning h stands) ∙ c.if-is_full.false in
    let present : no_class h (of_class c.args.class) ≡ false = sym (c.no_class.ensures.meaning h stands) ∙ c.if-not-no_class.true in
    refusal-make h c.args.class c.args.superclass false false false (ap (λ b. b || no_superclass h c.args.superclass) number ∙ up) full present

pub returns-clause-meaning : goal.returns-clause-meaning
returns-clause-meaning c = λ h stands.
    let number : no_number h c.args.class ≡ false = sym (c.no_number.ensures.meaning h stands) ∙ c.if-no_number.false in
    let up : no_superclass h c.args.superclass ≡ false = sym (c.no_superclass.ensures.meaning h stands) ∙ c.if-no_superclass.false in
    let full : is_full h 0 ≡ false = sym (c.is_full.ensures.meaning h stands) ∙ c.if-is_full.false in
    let absent : no_class h (of_class c.args.class) ≡ true = sym (c.no_class.ensures.meaning h stands) ∙ c.if-not-no_class.false in
    let none = refusal-make h c.args.class c.args.superclass false false true (ap (λ b. b || no_superclass h c.args.superclass) number ∙ up) full absent in
    (none, refl, refl)

pub returns-clause-places : goal.returns-clause-places
returns-clause-places c = λ h stands. places-make h c.args.class c.args.superclass
