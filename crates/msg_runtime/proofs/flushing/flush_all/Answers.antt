use Rattle.std.proofs.Common.{◌≡◌, ◌≢◌, Bool, true, false, refl, ⊎_elim, ◌∙◌, arith}
use Rattle.std.specs.Prelude.{if◌then◌else◌}
use Rattle.msg_model.proofs.PointLemmas.{number_or}
use Rattle.msg_cache.proofs.FlushesLemmas.{only-on_in}
use Rattle.msg_runtime.proofs.flushing.flush_all.Goals as goal

both-true : (b : Bool) → (if b then true else true) ≡ true
both-true true = refl
both-true false = refl

pub loop-class-preserved : goal.loop-class-preserved
loop-class-preserved c =
    let before = c.loop-class.invariant in
    let class = c.loop-class.class in (
      c.flush_class.ensures.arena,
      c.flush_class.ensures.history ∙ before.1,
      c.flush_class.ensures.seats ∙ before.2,
      λ d lt. ⊎_elim
          (λ (eq : d.class ≡ class). c.flush_class.ensures.flushed d eq (both-true d.meta))
          (λ (ne : d.class ≢ class). c.flush_class.ensures.others d (before.3 d (omega (arith, lt, ne))))
          (number_or d.class class),
      only-on_in c.args.arena.now c.args.keeper.now c.loop-class.keeper c.flush_class.new.keeper before.4 c.flush_class.ensures.flushes,
    )
