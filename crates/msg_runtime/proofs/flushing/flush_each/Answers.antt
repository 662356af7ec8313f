use Rattle.std.proofs.Common.{◌≡◌, ◌<◌, ◌⊎◌, inl, inr, Bool, true, false, cond, refl, sym, ap, ap₂, ◌∙◌, subst}
use Rattle.std.specs.Prelude.{◌&&◌, ◌==◌}
use Rattle.std.proofs.lemmas.Bool.{or_cases}
use Rattle.msg_names.proofs.TestLemmas.{same_number}
use Rattle.msg_names.specs.declared.value.ClassRef.{ClassRef}
use Rattle.msg_tables.specs.Below.{covers}
use Rattle.msg_tables.specs.Origin.{class_total}
use Rattle.msg_tables.specs.History.{History}
use Rattle.msg_tables.specs.Preorder.{is_in}
use Rattle.msg_cache.specs.Ours.{IsCold}
use Rattle.msg_tables.proofs.PreorderLemmas.{first-in, later-in}
use Rattle.msg_cache.proofs.FlushesLemmas.{only-on_in, only-same_in}
use Rattle.msg_cache.specs.Views.{layout}
use Rattle.msg_runtime.specs.Parts.{keeper_view}
use Rattle.msg_runtime.proofs.SparedLemmas.{spared-on, spared-same}
use Rattle.msg_runtime.proofs.flushing.flush_each.Goals as goal

both : (a b : Bool) → (a && b) ≡ true → (a ≡ true) × (b ≡ true)
both true true e = (refl, refl)
both true false e = cc
both false b e = cc

of-both : (a b : Bool) → a ≡ true → b ≡ true → (a && b) ≡ true
of-both true true e f = refl
of-both true false e f = cc
of-both false b e f = cc

not-here : (kind here there : Bool) → (kind && there) ≡ false → (here ≡ true → there ≡ true) → (kind && here) ≡ false
not-here true true there e f = sym (f refl) ∙ e
not-here true false there e f = refl
not-here false here there e f = refl

pub loop-class-init : goal.loop-class-init
loop-class-init c =
    let same = c.into_iter-class-iterator.ensures.into_iter_gives ∙ c.classes-class-items.ensures in
    record {
      arena = c.requires.arena;
      history = refl;
      seats = refl;
      left = λ k e. ap (is_in k) (sym same) ∙ e;
      flushed = λ d e. inl (ap (λ ks. cond d.meta c.args.below.meta c.args.below.own && is_in d.class ks) same ∙ e);
      others = λ d e. e;
      spared = λ d e. spared-same (layout c.args.arena.now) (keeper_view c.args.keeper.now) d;
      flushes = only-same_in c.args.arena.now c.args.keeper.now;
    }

pub flush_class-requires-clause-class : goal.flush_class-requires-clause-class
flush_class-requires-clause-class c =
    let k = c.in-Some.class in
    let there : is_in k c.loop-class.class-iterator ≡ true = ap (is_in k) c.in-Some.ensures.steps ∙ first-in k c.next.new.self in
    subst (λ (h : History). k < class_total h.origin) (sym c.loop-class.invariant.history) (c.requires.classes k (c.loop-class.invariant.left k there))

pub loop-class-preserved : goal.loop-class-preserved
loop-class-preserved c = record {
  arena = c.flush_class.ensures.arena;
  history = c.flush_class.ensures.history ∙ c.loop-class.invariant.history;
  seats = c.flush_class.ensures.seats ∙ c.loop-class.invariant.seats;
  left = λ k e. c.loop-class.invariant.left k (ap (is_in k) c.in-Some.ensures.steps ∙ later-in k c.in-Some.class c.next.new.self e);
  flushed = λ d e. at d (c.loop-class.invariant.flushed d e);
  others = λ d e. c.flush_class.ensures.others d (c.loop-class.invariant.others d e);
  spared = λ d e. spared-on (layout c.args.arena.now) (keeper_view c.args.keeper.now) (keeper_view c.loop-class.keeper) (keeper_view c.flush_class.new.keeper) d
      (c.loop-class.invariant.spared d e) (c.flush_class.ensures.spared d (apart d e));
  flushes = only-on_in c.args.arena.now c.args.keeper.now c.loop-class.keeper c.flush_class.new.keeper c.loop-class.invariant.flushes c.flush_class.ensures.flushes;
}
  where
    kind : ClassRef → Bool
    kind d = cond d.meta c.args.below.meta c.args.below.own

    inside : is_in c.in-Some.class c.args.below.classes ≡ true
    inside = c.loop-class.invariant.left c.in-Some.class (ap (is_in c.in-Some.class) c.in-Some.ensures.steps ∙ first-in c.in-Some.class c.next.new.self)

    apart : (d : ClassRef) → covers c.args.below d ≡ false → (cond d.meta c.has_metaclasses-meta.result c.has_classes-own.result && (c.in-Some.class == d.class)) ≡ false
    apart d e =
        ap₂ (λ m o. cond d.meta m o && (c.in-Some.class == d.class)) c.has_metaclasses-meta.ensures c.has_classes-own.ensures
        ∙ not-here (kind d) (c.in-Some.class == d.class) (is_in d.class c.args.below.classes) e
        (λ same. subst (λ k. is_in k c.args.below.classes ≡ true) (same_number c.in-Some.class d.class same) inside)

    here : (d : ClassRef) → kind d ≡ true → ((c.in-Some.class == d.class) ≡ true) ⊎ (is_in d.class c.next.new.self ≡ true)
        → (covers (record c.args.below { classes = c.next.new.self }) d ≡ true) ⊎ IsCold c.args.arena.now c.flush_class.new.keeper d
    here d is (inl same) =
        inr (c.flush_class.ensures.flushed d (sym (same_number c.in-Some.class d.class same))
        (ap₂ (λ m o. cond d.meta m o) c.has_metaclasses-meta.ensures c.has_classes-own.ensures ∙ is))
    here d is (inr later) = inl (of-both (kind d) (is_in d.class c.next.new.self) is later)

    at : (d : ClassRef) → (covers (record c.args.below { classes = c.loop-class.class-iterator }) d ≡ true) ⊎ IsCold c.args.arena.now c.loop-class.keeper d
        → (covers (record c.args.below { classes = c.next.new.self }) d ≡ true) ⊎ IsCold c.args.arena.now c.flush_class.new.keeper d
    at d (inl left) =
        let (is, there) = both (kind d) (is_in d.class c.loop-class.class-iterator) left in
        here d is (or_cases (c.in-Some.class == d.class) (is_in d.class c.next.new.self) (sym (ap (is_in d.class) c.in-Some.ensures.steps) ∙ there))
    at d (inr cold) = inr (c.flush_class.ensures.others d cold)

pub returns-clause-flushed : goal.returns-clause-flushed
returns-clause-flushed c = λ d e. at d (c.loop-class.invariant.flushed d e)
  where
    at : (d : ClassRef) → (covers (record c.args.below { classes = c.loop-class.class-iterator }) d ≡ true) ⊎ IsCold c.args.arena.now c.loop-class.keeper d → IsCold c.args.arena.now c.loop-class.keeper d
    at d (inl left) =
        let (is, there) = both (cond d.meta c.args.below.meta c.args.below.own) (is_in d.class c.loop-class.class-iterator) left in
        absurd (false-is (sym (ap (is_in d.class) c.in-None.ensures.steps.0) ∙ there))
      where
        false-is : false ≡ true → ⊥
        false-is e = cc
    at d (inr cold) = cold
