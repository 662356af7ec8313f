-- each step of the lookup
use Rattle.std.proofs.Common.{◌≡◌, ◌<◌, ◌≤◌, ℕ, suc, length, option_map, true, subst, sym, ◌∙◌, ap, arith}
use Rattle.msg_names.specs.Number.{selector_number, imp_number}
use Rattle.msg_tables.specs.After.{supers_after}
use Rattle.msg_tables.specs.Chain.{is_present, super_of}
use Rattle.msg_tables.specs.Log.{table}
use Rattle.msg_tables.proofs.LogLemmas.{length-supers_after}
use Rattle.msg_tables.proofs.ForeseeLemmas.{supers_then, comes_first, way_stop, way_end, way_up}
use Rattle.msg_tables.proofs.foresee.found_from.Goals as goal

at_most : (k n m : ℕ) → n ≡ m → k < n → k ≤ m
at_most k n m e lt = omega arith

pub loop-step-init : goal.loop-step-init
loop-step-init c = (
  c.requires.class,
  λ h stands.
      let n = length c.args.tables.now.supers in
      let long : suc n ≡ suc (length (supers_then h c.args.change.now)) = ap suc (ap length stands.supers ∙ sym (length-supers_after (table h).supers c.args.change.now)) in
      let present = subst (λ supers. is_present (supers_after supers c.args.change.now) c.args.class.class ≡ true) stands.supers c.requires.present in
      (suc n, omega arith, comes_first h c.args.change.now c.args.class (selector_number c.args.sel) (suc n) long present),
)

pub returns-in-Some : goal.returns-in-Some
returns-in-Some c = λ h stands.
    let le = at_most (c.loop-step._step) c.args.classes _ c.requires.classes c.loop-step-test.true in
    sym (way_stop h c.args.change.now c.args.class (selector_number c.args.sel) (length c.args.tables.now.supers) c.loop-step._step (imp_number c.in-Some.imp) c.loop-step.here (c.loop-step.invariant.1 h stands) le
    (sym (c.own_after.ensures h stands) ∙ ap (option_map imp_number) c.in-Some.is))

pub returns-in-None : goal.returns-in-None
returns-in-None c = λ h stands.
    let le = at_most (c.loop-step._step) c.args.classes _ c.requires.classes c.loop-step-test.true in
    let above = ap (λ supers. super_of (supers_after supers c.args.change.now) c.loop-step.here) (sym stands.supers) ∙ sym c.above_after.ensures.value ∙ c.in-None.is in
    sym (way_end h c.args.change.now c.args.class (selector_number c.args.sel) (length c.args.tables.now.supers) c.loop-step._step c.loop-step.here (c.loop-step.invariant.1 h stands) le
    (sym (c.own_after.ensures h stands) ∙ ap (option_map imp_number) c.in_default.is) above)

pub loop-step-preserved : goal.loop-step-preserved
loop-step-preserved c = (
  c.in-Some-above_after.ensures.listed,
  λ h stands.
      let le = at_most (c.loop-step._step) c.args.classes _ c.requires.classes c.loop-step-test.true in
      let above = ap (λ supers. super_of (supers_after supers c.args.change.now) c.loop-step.here) (sym stands.supers) ∙ sym c.above_after.ensures.value ∙ c.in-Some-above_after.is in
      way_up h c.args.change.now c.args.class (selector_number c.args.sel) (length c.args.tables.now.supers) c.loop-step._step c.loop-step.here c.in-Some-above_after.above (c.loop-step.invariant.1 h stands) le
      (sym (c.own_after.ensures h stands) ∙ ap (option_map imp_number) c.in_default.is) above,
)
