use Rattle.std.proofs.Common.{◌≡◌, ℕ, zero, suc, Bool, true, false, Some, None, refl, ap, sym, subst, ◌∙◌}
use Rattle.std.specs.Prelude.{◌==◌, if◌then◌else◌, nat_lt}
use Rattle.msg_names.specs.Number.{selector_number, selector_of}
use Rattle.msg_names.specs.declared.value.ClassRef.{ClassRef}
use Rattle.msg_cache.specs.Views.{ArenaView}
use Rattle.msg_reader.specs.Cost.{ProbesOnceAtMost}
use Rattle.msg_reader.specs.Kept.{HaveNotedSince, MissesUnlessChanged}
use Rattle.msg_host.specs.Asking.{ask_fault}
use Rattle.msg_host.specs.declared.fault.AskFault.TheVariants.{NoClass, NoSelector}
use Rattle.msg_host.proofs.sender.HostedSender.probe.Goals as goal

-- a selector that is asked for has its number
named : (classes class sel : ℕ) → ask_fault classes class sel ≡ None → selector_number (selector_of sel) ≡ sel
named classes class sel = at (nat_lt class classes) sel
  where
    at : (b : Bool) (s : ℕ) → (if b then (if s == 0 then Some NoSelector else None) else Some NoClass) ≡ None → selector_number (selector_of s) ≡ s
    at true zero e = absurd (cc)
    at true (suc s) e = refl
    at false s e = absurd (cc)

pub returns-in-Some-clause-noted : goal.returns-in-Some-clause-noted
returns-in-Some-clause-noted c =
    let asked = c.in_ok-class.ensures.ok in
    let sel = ap selector_number asked.2 ∙ named c.class_count.result c.args.class c.args.sel c.in_ok-class.ensures.none in
    subst (λ (x : ClassRef × ℕ × ℕ). HaveNotedSince c.try_find.new.notes x.0 x.1 c.try_find.new.self.seen x.2) (λ k. (asked.1 k, sel k, sym c.number.ensures k)) c.in-Some.ensures.noted

pub returns-in-None-clause-missed : goal.returns-in-None-clause-missed
returns-in-None-clause-missed c =
    let asked = c.in_ok-class.ensures.ok in
    let sel = ap selector_number asked.2 ∙ named c.class_count.result c.args.class c.args.sel c.in_ok-class.ensures.none in
    subst (λ (x : ArenaView × ClassRef × ℕ). MissesUnlessChanged x.0 x.1 x.2 c.args.self.now.seen c.try_find.new.self.seen) (λ k. (c.in-None.ensures.arena k, asked.1 k, sel k)) c.in-None.ensures.missed

pub returns-in-Some-clause-probed : goal.returns-in-Some-clause-probed
returns-in-Some-clause-probed c =
    let asked = c.in_ok-class.ensures.ok in
    let sel = ap selector_number asked.2 ∙ named c.class_count.result c.args.class c.args.sel c.in_ok-class.ensures.none in
    subst (λ (x : ClassRef × ℕ). ProbesOnceAtMost c.args.self.now.arena x.0 x.1 c.args.self.now.seen c.try_find.new.self.seen) (λ k. (asked.1 k, sel k)) c.try_find.ensures.probed

pub returns-in-None-clause-probed : goal.returns-in-None-clause-probed
returns-in-None-clause-probed c =
    let asked = c.in_ok-class.ensures.ok in
    let sel = ap selector_number asked.2 ∙ named c.class_count.result c.args.class c.args.sel c.in_ok-class.ensures.none in
    subst (λ (x : ClassRef × ℕ). ProbesOnceAtMost c.args.self.now.arena x.0 x.1 c.args.self.now.seen c.try_find.new.self.seen) (λ k. (asked.1 k, sel k)) c.try_find.ensures.probed
