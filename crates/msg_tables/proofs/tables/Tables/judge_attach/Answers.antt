use Rattle.std.proofs.Common.{ap, sym, ◌∙◌, refl, true, false}
use Rattle.msg_tables.specs.Refusal.{is_full}
use Rattle.msg_tables.proofs.AttachLemmas.{attach-absent, attach-unfit, attach-fit, count-both}
use Rattle.msg_tables.proofs.PlaceLemmas.{places-attach}
use Rattle.msg_tables.proofs.tables.Tables.judge_attach.Goals as goal

pub returns-then-no_class-clause-meaning : goal.returns-then-no_class-clause-meaning
returns-then-no_class-clause-meaning c = λ h stands. attach-absent h c.args.class c.args.methods.now c.args.class_methods.now (sym (c.no_class.ensures.meaning h stands) ∙ c.if-no_class.true)

pub returns-in-Some-clause-meaning : goal.returns-in-Some-clause-meaning
returns-in-Some-clause-meaning c = λ h stands.
    attach-unfit h c.args.class c.args.methods.now c.args.class_methods.now c.in-Some.fault (sym (c.no_class.ensures.meaning h stands) ∙ c.if-no_class.false) (sym (c.unfit_methods.ensures.meaning h stands) ∙ c.in-Some.is)

pub returns-then-is_full-clause-meaning : goal.returns-then-is_full-clause-meaning
returns-then-is_full-clause-meaning c = λ h stands.
    let count = count-both c.as_slice-own.result.now c.as_slice-meta.result.now c.args.methods.now c.args.class_methods.now c.as_slice-own.ensures c.as_slice-meta.ensures in
    attach-fit h c.args.class c.args.methods.now c.args.class_methods.now true (sym (c.no_class.ensures.meaning h stands) ∙ c.if-no_class.false) (sym (c.unfit_methods.ensures.meaning h stands) ∙ c.in_default.is)
    (ap (is_full h) count ∙ sym (c.is_full.ensures.meaning h stands) ∙ c.if-is_full.true)

pub returns-clause-meaning : goal.returns-clause-meaning
returns-clause-meaning c = λ h stands.
    let count = count-both c.as_slice-own.result.now c.as_slice-meta.result.now c.args.methods.now c.args.class_methods.now c.as_slice-own.ensures c.as_slice-meta.ensures in
    let none = attach-fit h c.args.class c.args.methods.now c.args.class_methods.now false (sym (c.no_class.ensures.meaning h stands) ∙ c.if-no_class.false) (sym (c.unfit_methods.ensures.meaning h stands) ∙ c.in_default.is)
    (ap (is_full h) count ∙ sym (c.is_full.ensures.meaning h stands) ∙ c.if-is_full.false) in
    (none, refl, refl)

pub returns-clause-places : goal.returns-clause-places
returns-clause-places c = λ h stands. places-attach h c.args.class c.args.methods c.args.class_methods

pub returns-clause-undo : goal.returns-clause-undo
returns-clause-undo c = λ h stands. refl
