use Rattle.std.proofs.Common.{◌≡◌, [], ◌∷◌, length, take, true, false, sym, ap, subst, ◌∙◌, ⊎_elim, arith}
use Rattle.std.proofs.Math.Seq.{take-length}
use Rattle.msg_tables.specs.Making.{is_told}
use Rattle.msg_tables.proofs.AffectedAllLemmas.{told-next}
use Rattle.msg_cache.proofs.FlushesLemmas.{only-on_in}
use Rattle.msg_cache.specs.Views.{layout}
use Rattle.msg_runtime.specs.Parts.{keeper_view}
use Rattle.msg_runtime.proofs.SparedLemmas.{spared-on, untold-next}
use Rattle.msg_runtime.proofs.flushing_all.flush_each.Goals as goal

pub loop-entry-preserved : goal.loop-entry-preserved
loop-entry-preserved c = record {
  arena = c.flush_once.ensures.arena;
  history = c.flush_once.ensures.history ∙ c.loop-entry.invariant.history;
  seats = c.flush_once.ensures.seats ∙ c.loop-entry.invariant.seats;
  recent = c.flush_once.ensures.recent;
  flushed = λ h stands d told.
      let items = c.args.entries.now in
      let i = c.loop-entry.entry-index in
      let entry = c.entry-item.result in
      ⊎_elim (λ (before : is_told h (take i items) d ≡ true). c.flush_once.ensures.others d (c.loop-entry.invariant.flushed h stands d before))
      (λ (now : is_told h (entry ∷ []) d ≡ true). c.flush_once.ensures.flushed h stands d now)
      (told-next h items i entry d c.loop-entry-test.true c.entry-item.is told);
  spared = λ h stands d untold.
      let (before, now) = untold-next h c.args.entries.now c.loop-entry.entry-index c.entry-item.result d c.loop-entry-test.true c.entry-item.is untold in
      spared-on (layout c.args.arena.now) (keeper_view c.args.keeper.now) (keeper_view c.loop-entry.keeper) (keeper_view c.flush_once.new.keeper) d
      (c.loop-entry.invariant.spared h stands d before) (c.flush_once.ensures.spared h stands d now);
  flushes = only-on_in c.args.arena.now c.args.keeper.now c.loop-entry.keeper c.flush_once.new.keeper c.loop-entry.invariant.flushes c.flush_once.ensures.flushes;
}

pub returns-clause-flushed : goal.returns-clause-flushed
returns-clause-flushed c = λ h stands d told.
    let items = c.args.entries.now in
    let end : c.loop-entry.entry-index ≡ length items = omega (arith, c.loop-entry-test.false, c.loop-entry.auto.entry-index-end) in
    let whole : take c.loop-entry.entry-index items ≡ c.args.entries.now = ap (λ n. take n items) end ∙ take-length items in
    c.loop-entry.invariant.flushed h stands d (subst (λ es. is_told h es d ≡ true) (sym whole) told)

pub returns-clause-spared : goal.returns-clause-spared
returns-clause-spared c = λ h stands d untold.
    let items = c.args.entries.now in
    let end : c.loop-entry.entry-index ≡ length items = omega (arith, c.loop-entry-test.false, c.loop-entry.auto.entry-index-end) in
    let whole : take c.loop-entry.entry-index items ≡ c.args.entries.now = ap (λ n. take n items) end ∙ take-length items in
    c.loop-entry.invariant.spared h stands d (subst (λ es. is_told h es d ≡ false) (sym whole) untold)
