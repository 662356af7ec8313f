use Rattle.std.proofs.Common.{◌≡◌, [], ◌∷◌, Some, ap, sym, ◌∙◌, ⊎_elim}
use Rattle.msg_names.proofs.ClassRefLemmas.{slot_of-same}
use Rattle.msg_tables.specs.Journal.{place_of}
use Rattle.msg_runtime.proofs.FlushedLemmas.{told-both, told-too}
use Rattle.msg_cache.proofs.FlushesLemmas.{only-on_in}
use Rattle.msg_cache.specs.Views.{layout}
use Rattle.msg_runtime.specs.Parts.{keeper_view}
use Rattle.msg_runtime.proofs.SparedLemmas.{spared-on, untold-both}
use Rattle.msg_runtime.proofs.flushing_all.flush_both.Goals as goal

-- both wrote at one place
pub returns-then-slot-clause-flushed : goal.returns-then-slot-clause-flushed
returns-then-slot-clause-flushed c = λ h stands d told.
    let one = c.in-Some-Some.one in
    let same : one ≡ c.in-Some-Some.other = slot_of-same one c.in-Some-Some.other (sym c.slot.ensures ∙ c.if-slot.true ∙ c.slot-in-Some-Some.ensures) in
    let first : place_of c.args.first ≡ Some one = sym c.in-Some-Some.ensures.place in
    let second : place_of c.args.second ≡ Some one = sym c.in-Some-Some.ensures'.place ∙ ap Some (sym same) in
    c.flush_entry.ensures.flushed h stands d
    (⊎_elim (λ before. before) (λ now. told-too h c.args.first c.args.second one d first second now) (told-both h c.args.first c.args.second d told))

pub returns-clause-flushed : goal.returns-clause-flushed
returns-clause-flushed c = λ h stands d told.
    ⊎_elim (λ before. c.flush_entry-2.ensures.others d (c.flush_entry.ensures.flushed h stands d before))
    (λ now. c.flush_entry-2.ensures.flushed h stands d now)
    (told-both h c.args.first c.args.second d told)

pub returns-then-slot-clause-spared : goal.returns-then-slot-clause-spared
returns-then-slot-clause-spared c = λ h stands d untold. c.flush_entry.ensures.spared h stands d (untold-both h (c.args.first ∷ []) (c.args.second ∷ []) d untold).0

pub returns-clause-spared : goal.returns-clause-spared
returns-clause-spared c = λ h stands d untold.
    let (one, two) = untold-both h (c.args.first ∷ []) (c.args.second ∷ []) d untold in
    spared-on (layout c.args.arena.now) (keeper_view c.args.keeper.now) (keeper_view c.flush_entry.new.keeper) (keeper_view c.flush_entry-2.new.keeper) d
    (c.flush_entry.ensures.spared h stands d one) (c.flush_entry-2.ensures.spared h stands d two)

pub returns-clause-flushes : goal.returns-clause-flushes
returns-clause-flushes c =
    only-on_in c.args.arena.now c.args.keeper.now c.flush_entry.new.keeper c.flush_entry-2.new.keeper c.flush_entry.ensures.flushes c.flush_entry-2.ensures.flushes
