use Rattle.std.proofs.Common.{ℕ, ◌<◌, ◌∷◌, true, false, ap, sym, subst, ◌∙◌, arith}
use Rattle.msg_names.specs.declared.value.ClassRef.{ClassRef}
use Rattle.msg_model.specs.State.{Layout}
use Rattle.msg_cache.specs.declared.view.KeeperView.{KeeperView}
use Rattle.msg_cache.specs.Layout.{layout_of}
use Rattle.msg_cache.specs.Ours.{closed}
use Rattle.msg_cache.specs.Plays.{keeper_of}
use Rattle.msg_cache.proofs.ColdLemmas.{Closed, closed_stays, closed_below}
use Rattle.msg_cache.proofs.keeper.Keeper.close_all.Goals as goal

pub loop-class-preserved : goal.loop-class-preserved
loop-class-preserved c =
    let z : Layout = layout_of c.args.arena.now.key in
    let n : ℕ = c.loop-class.class in
    let own : ClassRef = record { class = n; meta = false } in
    let meta : ClassRef = record { class = n; meta = true } in
    let few : n < z.classes = omega (arith, c.loop-class-test.true, c.classes-class-end.ensures) in
    let was : KeeperView = keeper_of c.loop-class.self.seat.me.0 in
    let mid : KeeperView = keeper_of c.close.new.self.seat.me.0 in
    let is : KeeperView = keeper_of c.close-in-loop-class.new.self.seat.me.0 in
    let before = c.loop-class.invariant in
    let one = c.close.ensures.view in
    let two = c.close-in-loop-class.ensures.view in
    let after_one : (d : ClassRef) → Closed z was d → Closed z mid d = λ d e. subst (λ (x : KeeperView). Closed z x d) (sym one) (closed_stays z was own few before.0.1.tidy.kept.words d e) in
    let after_two : (d : ClassRef) → Closed z mid d → Closed z is d = λ d e. subst (λ (x : KeeperView). Closed z x d) (sym two) (closed_stays z mid meta few c.close.ensures.arena.1.tidy.kept.words d e) in (
      c.close-in-loop-class.ensures.arena,
      c.close-in-loop-class.ensures.remembered ∙ c.close.ensures.remembered ∙ before.1,
      c.close-in-loop-class.ensures.report ∙ c.close.ensures.report ∙ before.2,
      (meta ∷ own ∷ before.3.0, two ∙ ap (closed z meta) (one ∙ ap (closed z own) before.3.1)),
      closed_below z is n (λ d lt. after_two d (after_one d (before.4 d lt))) (after_two own c.close.ensures.closed) c.close-in-loop-class.ensures.closed,
    )
