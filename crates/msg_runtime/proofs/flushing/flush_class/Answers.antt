-- the class and its metaclass are chilled, one after the other, and the others are spared
use Rattle.std.proofs.Common.{rules, ◌≡◌, ◌≢◌, ◌<◌, ℕ, Bool, true, false, true≢false, sym, ap, ap₂, ◌∙◌, subst}
use Rattle.std.specs.Prelude.{◌&&◌, if◌then◌else◌}
use Rattle.msg_names.proofs.TestLemmas.{equal}
use Rattle.msg_names.specs.declared.value.ClassRef.{ClassRef}
use Rattle.msg_tables.specs.Marking.{is_of}
use Rattle.msg_cache.proofs.FlushesLemmas.{only-on_in, only-same_in}
use Rattle.msg_cache.specs.Ours.{OnlyFlushesIn}
use Rattle.msg_cache.specs.Views.{classes, layout}
use Rattle.msg_runtime.specs.Parts.{IsKeeperOf, keeper_view}
use Rattle.msg_runtime.specs.Spared.{IsSpared}
use Rattle.msg_runtime.proofs.SparedLemmas.{chilled-spares, spared-on, spared-same}
use Rattle.msg_runtime.proofs.flushing.flush_class.Goals.{then-own, else-own}
use Rattle.msg_runtime.proofs.flushing.flush_class.Goals as goal

-- who isn't meant is another than the class, if that is, and than the metaclass, if that is
apart : (class : ℕ) (own meta b : Bool) (d : ClassRef) → is_of class own meta d ≡ false → (if b then meta else own) ≡ true → d ≢ record { class = class; meta = b }
apart class own meta b d e is same = true≢false (sym (ap₂ (λ x y. x && y) is (equal class)) ∙ sym (ap (is_of class own meta) same) ∙ e)

pub returns-then-meta-clause-spared : goal.returns-then-meta-clause-spared
returns-then-meta-clause-spared c = λ d e.
    let a = c.args.arena.now in
    let k = c.args.keeper.now in
    let j = c.if-own.keeper in
    let lt : c.args.class < classes a = search rules in
    let of : IsKeeperOf a j = elim c.if-own.branch [
      | then-own w ↦ subst (λ i. IsKeeperOf a i) (sym w.keeper-is) w.chill.ensures.arena
      | else-own w ↦ subst (λ i. IsKeeperOf a i) (sym w.keeper-is) c.requires.arena
    ] in
    let own : IsSpared (layout a) (keeper_view k) (keeper_view j) d = elim c.if-own.branch [
      | then-own w ↦ subst (λ i. IsSpared (layout a) (keeper_view k) (keeper_view i) d) (sym w.keeper-is)
          (chilled-spares a k w.chill.new.self (record { class = c.args.class; meta = false }) d c.requires.arena lt w.chill.ensures.view
          (apart c.args.class c.args.own c.args.meta false d e w.if-own.true))
      | else-own w ↦ subst (λ i. IsSpared (layout a) (keeper_view k) (keeper_view i) d) (sym w.keeper-is) (spared-same (layout a) (keeper_view k) d)
    ] in
    spared-on (layout a) (keeper_view k) (keeper_view j) (keeper_view c.chill-then-meta.new.self) d own
    (chilled-spares a j c.chill-then-meta.new.self (record { class = c.args.class; meta = true }) d of lt c.chill-then-meta.ensures.view
    (apart c.args.class c.args.own c.args.meta true d e c.if-meta.true))

pub returns-else-meta-clause-spared : goal.returns-else-meta-clause-spared
returns-else-meta-clause-spared c = λ d e.
    let a = c.args.arena.now in
    let k = c.args.keeper.now in
    let lt : c.args.class < classes a = search rules in
    elim c.if-own.branch [
      | then-own w ↦ subst (λ i. IsSpared (layout a) (keeper_view k) (keeper_view i) d) (sym w.keeper-is)
          (chilled-spares a k w.chill.new.self (record { class = c.args.class; meta = false }) d c.requires.arena lt w.chill.ensures.view
          (apart c.args.class c.args.own c.args.meta false d e w.if-own.true))
      | else-own w ↦ subst (λ i. IsSpared (layout a) (keeper_view k) (keeper_view i) d) (sym w.keeper-is) (spared-same (layout a) (keeper_view k) d)
    ]

pub returns-then-meta-clause-flushes : goal.returns-then-meta-clause-flushes
returns-then-meta-clause-flushes c =
    let a = c.args.arena.now in
    let k = c.args.keeper.now in
    let own : OnlyFlushesIn a k c.if-own.keeper = elim c.if-own.branch [
      | then-own w ↦ subst (λ i. OnlyFlushesIn a k i) (sym w.keeper-is) w.chill.ensures.flushes
      | else-own w ↦ subst (λ i. OnlyFlushesIn a k i) (sym w.keeper-is) (only-same_in a k)
    ] in
    only-on_in a k c.if-own.keeper c.chill-then-meta.new.self own c.chill-then-meta.ensures.flushes

pub returns-else-meta-clause-flushes : goal.returns-else-meta-clause-flushes
returns-else-meta-clause-flushes c =
    let a = c.args.arena.now in
    let k = c.args.keeper.now in
    elim c.if-own.branch [
      | then-own w ↦ subst (λ i. OnlyFlushesIn a k i) (sym w.keeper-is) w.chill.ensures.flushes
      | else-own w ↦ subst (λ i. OnlyFlushesIn a k i) (sym w.keeper-is) (only-same_in a k)
    ]
