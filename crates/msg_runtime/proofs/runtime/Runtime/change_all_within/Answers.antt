-- the tables are at the longer history, and what the list affects is flushed
use Rattle.std.proofs.Common.{rules, ◌≡◌, ◌<◌, ℕ, List, Option, None, is_some, ◌||◌, ◌&&◌, [], ◌∷◌, slice_index, length, length-append, true, false, Bool, ap, sym, subst, refl, ◌∙◌, arith}
use Rattle.msg_tables.specs.History.{History, and_then, log}
use Rattle.msg_tables.specs.Origin.{CountsView, class_total}
use Rattle.msg_tables.specs.declared.change.Change.{Change}
use Rattle.msg_tables.specs.Several.{and_all, refusal_of_all}
use Rattle.msg_tables.specs.Stands.{StandsAt}
use Rattle.msg_tables.specs.Making.{is_told}
use Rattle.msg_tables.proofs.HistoryLemmas.{log-all}
use Rattle.msg_tables.proofs.PresenceLemmas.{ordered}
use Rattle.msg_tables.proofs.SeveralLemmas.{none-accepted, none-refused}
use Rattle.msg_tables.proofs.ToldLemmas.{told-only}
use Rattle.msg_tables.proofs.WantLemmas.{count-within}
use Rattle.msg_tables.proofs.WayLemmas.{length-undo}
use Rattle.msg_cache.proofs.FlushesLemmas.{only-committed, only-on, only-same}
use Rattle.msg_cache.specs.Flushes.{OnlyFlushes}
use Rattle.msg_cache.specs.declared.view.KeeperView.{KeeperView}
use Rattle.msg_cache.specs.Layout.{stamp_at}
use Rattle.msg_cache.specs.Ours.{IsCold, OnlyFlushesIn}
use Rattle.msg_cache.specs.Plays.{lent}
use Rattle.msg_cache.specs.Rule.{live_in}
use Rattle.msg_cache.specs.Views.{layout}
use Rattle.msg_cache.specs.declared.keeper.TheConstants.{CLOSED}
use Rattle.msg_cache.specs.declared.answer.Report.{Report}
use Rattle.msg_runtime.specs.Parts.{IsKeeperOf, keeper_history, keeper_view}
use Rattle.msg_runtime.specs.Reach.{flushes_all}
use Rattle.msg_runtime.specs.Spared.{IsSpared}
use Rattle.msg_runtime.specs.View.{RuntimeView}
use Rattle.msg_runtime.proofs.SparedLemmas.{committed-spares, spared-on}
use Rattle.msg_runtime.proofs.RestingLemmas.{full_on, rests_on}
use Rattle.msg_runtime.proofs.runtime.Runtime.change_all_within.Goals as goal

either : (a b : Bool) → b ≡ true → (a || b) ≡ true
either true b e = refl
either false b e = e

either-left : (a b : Bool) → a ≡ true → (a || b) ≡ true
either-left true b e = refl
either-left false b e = cc

pub commit_all-requires-clause-accepted : goal.commit_all-requires-clause-accepted
commit_all-requires-clause-accepted g c =
    let h = keeper_history c.self.inside.keeper in
    let same : keeper_history c.flush_changed.new.keeper ≡ h = c.flush_changed.ensures.history in
    ap (λ (k : History). refusal_of_all (log k) (g.L.ChangeList.changes c.args.changes.now)) same ∙ none-refused (log h) (g.L.ChangeList.changes c.args.changes.now) (c.in_default.ensures.ok (log h) c.self.invariant.tables).0

pub invariant_of-self-2 : goal.invariant_of-self-2
invariant_of-self-2 g c =
    let xs = g.L.ChangeList.changes c.args.changes.now in
    let was = c.self.invariant in
    let h = keeper_history c.self.inside.keeper in
    let same : keeper_history c.flush_changed.new.keeper ≡ h = c.flush_changed.ensures.history in
    let longer : keeper_history c.commit_all.new.self ≡ and_then h xs = ap (λ (k : KeeperView). k.history) c.commit_all.ensures.committed ∙ ap (λ (k : History). and_then k xs) same in
    let given = ap (λ (k : KeeperView). k.given) c.commit_all.ensures.committed ∙ ap (λ q. q.0) c.flush_changed.ensures.seats in
    let keeper : IsKeeperOf c.self.inside.arena.value c.commit_all.new.self = search rules in
    record {
      keeper = keeper;
      tables = subst (λ k. StandsAt c.apply_all.new.self k) (sym (ap log longer ∙ log-all h xs)) (c.in_default.ensures.ok (log h) was.tables).1;
      origin = ap (λ (k : History). k.origin) longer ∙ was.origin;
      classes = was.classes ∙ ap (λ (k : History). class_total k.origin) (sym longer);
      rests = rests_on (keeper_view c.self.inside.keeper) (keeper_view c.commit_all.new.self) c.self.inside.rested.items
          given
          (ap (λ (k : KeeperView). k.since) c.commit_all.ensures.committed ∙ ap (λ q. q.1) c.flush_changed.ensures.seats)
          (omega (arith, ap (λ (k : History). length k.changes) longer, length-append h.changes (xs ∷ [])))
          was.rests;
      full = full_on (keeper_view c.self.inside.keeper) (keeper_view c.commit_all.new.self) c.self.inside.full given was.full;
    }

pub returns-then-most-count-clause-unmade : goal.returns-then-most-count-clause-unmade
returns-then-most-count-clause-unmade g c =
    let h = log (keeper_history c.self.inside.keeper) in
    let entries = c.apply_all.new.written.entries in
    let none = (c.in_default.ensures.ok h c.self.invariant.tables).0 in
    let count : length c.as_slice-count.result.now ≡ length entries = ap length c.as_slice-count.ensures in
    rw (← c.self.view_is) (none, count ∙ sym (length-undo entries) ∙ sym (ap length (c.in_default.ensures.undo h c.self.invariant.tables)), c.if-most-count.true)

pub returns-clause-held : goal.returns-clause-held
returns-clause-held g c =
    let h = log (keeper_history c.self.inside.keeper) in
    let many = length-undo c.apply_all.new.written.entries in
    let all = ap length (c.in_default.ensures.undo h c.self.invariant.tables) in
    rw (← c.self.view_is) record { rows = c.in_default.ensures.held h c.self.invariant.tables; entries = omega (arith, many, all, c.in_default.ensures.noted) }

-- each class reference had room for its methods
pub returns-in-Err-clause-rows : goal.returns-in-Err-clause-rows
returns-in-Err-clause-rows g c = rw (← c.self.view_is) (λ d. count-within c.self.inside.tables (log (keeper_history c.self.inside.keeper)) d c.self.invariant.tables c.start-start.ensures.within)

pub returns-then-most-count-clause-rows : goal.returns-then-most-count-clause-rows
returns-then-most-count-clause-rows g c = rw (← c.self.view_is) (λ d. count-within c.self.inside.tables (log (keeper_history c.self.inside.keeper)) d c.self.invariant.tables c.start-start.ensures.within)

pub returns-then-len-eq0-clause-rows : goal.returns-then-len-eq0-clause-rows
returns-then-len-eq0-clause-rows g c = rw (← c.self.view_is) (λ d. count-within c.self.inside.tables (log (keeper_history c.self.inside.keeper)) d c.self.invariant.tables c.start-start.ensures.within)

pub returns-clause-rows : goal.returns-clause-rows
returns-clause-rows g c = rw (← c.self.view_is) (λ d. count-within c.self.inside.tables (log (keeper_history c.self.inside.keeper)) d c.self.invariant.tables c.start-start.ensures.within)

not-so : (b : Bool) → (b ≡ true → true ≡ false) → b ≡ false
not-so true so = so refl
not-so false so = refl

-- what the list doesn't affect, its entries don't tell of
pub returns-clause-spared : goal.returns-clause-spared
returns-clause-spared g c = rw (← c.self.view_is) (λ none d other.
    let xs = g.L.ChangeList.changes c.args.changes.now in
    let z = layout c.self.inside.arena.value in
    let was = keeper_view c.self.inside.keeper in
    let flushed = keeper_view c.flush_changed.new.keeper in
    let h = log (keeper_history c.self.inside.keeper) in
    let stands = c.self.invariant.tables in
    let (accepted, after) = c.in_default.ensures.ok h stands in
    let made = none-accepted h xs 0 accepted in
    let entries = c.apply_all.new.written.entries in
    let same : c.as_slice.result.now ≡ entries = c.as_slice.ensures in
    let untold : is_told (and_all h xs) entries d ≡ false = not-so (is_told (and_all h xs) entries d) (λ told.
    sym (told-only h xs entries d (ordered h c.self.invariant.keeper.1.tidy.kept.accepted.origin stands.log) made c.in_default.ensures.made (c.in_default.ensures.places h stands) told) ∙ other) in
    let arena = c.requires.arena ∙ sym (ap (λ (v : RuntimeView). v.arena) c.self.view_is) in
    let unaffected = subst (λ a. IsSpared (layout a) was flushed d) arena (c.flush_changed.ensures.spared (ap (λ n. flushes_all n xs) (c.apply_all.ensures.counts ∙ stands.counts) ∙ none) (and_all h xs) after d (subst (λ es. is_told (and_all h xs) es d ≡ false) (sym same) untold)) in
    subst (λ k. IsSpared z was k d) (sym c.commit_all.ensures.committed) (spared-on z was flushed _ d unaffected (committed-spares z xs flushed d)))

some-alone : (counts : Option CountsView) (xs : List Change) → length xs ≡ 0 → flushes_all counts xs ≡ true → ⊥
some-alone counts [] none all = none-flushed (is_some counts) all
  where
    none-flushed : (b : Bool) → (b && false) ≡ true → ⊥
    none-flushed true e = cc
    none-flushed false e = cc
some-alone counts (x ∷ xs) none all = absurd (omega (arith, none))

-- a list that flushes all leaves no class reference its array
pub returns-clause-emptied : goal.returns-clause-emptied
returns-clause-emptied g c = rw (← c.self.view_is) (λ all d inside.
    let xs = g.L.ChangeList.changes c.args.changes.now in
    let z = layout c.self.inside.arena.value in
    let flushed = keeper_view c.flush_changed.new.keeper in
    let h = log (keeper_history c.self.inside.keeper) in
    let stands = c.self.invariant.tables in
    let (accepted, after) = c.in_default.ensures.ok h stands in
    let arena = c.requires.arena ∙ sym (ap (λ (v : RuntimeView). v.arena) c.self.view_is) in
    let below : d.class < c.self.inside.classes = omega (arith, inside, c.self.invariant.classes, ap class_total c.self.invariant.origin) in
    let meant = either-left (flushes_all c.apply_all.new.self.counts xs) (is_told (and_all h xs) c.as_slice.result.now d) (ap (λ n. flushes_all n xs) (c.apply_all.ensures.counts ∙ stands.counts) ∙ all) in
    let cold = subst (λ a. IsCold a c.flush_changed.new.keeper d) arena (c.flush_changed.ensures.flushed (and_all h xs) after d below meant) in
    let spared = committed-spares z xs flushed d in
    subst (λ (k : KeeperView). (live_in z k.words d ≡ None) × (slice_index k.words (stamp_at z d) ≡ CLOSED)) (sym c.commit_all.ensures.committed)
    (spared.array ∙ cold.0, spared.stamp ∙ cold.1))

pub returns-then-len-eq0-clause-emptied : goal.returns-then-len-eq0-clause-emptied
returns-then-len-eq0-clause-emptied g c = rw (← c.self.view_is) (λ all d inside.
    let none : length (g.L.ChangeList.changes c.args.changes.now) ≡ 0 = search rules in
    absurd (some-alone (keeper_history c.self.inside.keeper).origin.counts (g.L.ChangeList.changes c.args.changes.now) none all))

-- nothing is flushed after what the list affects
pub returns-clause-flushes : goal.returns-clause-flushes
returns-clause-flushes g c = rw (← c.self.view_is) (
    let xs = g.L.ChangeList.changes c.args.changes.now in
    let z = layout c.self.inside.arena.value in
    let old = c.self.inside.keeper in
    let mid = c.flush_changed.new.keeper in
    let new = c.commit_all.new.self in
    let arena = c.requires.arena ∙ sym (ap (λ (v : RuntimeView). v.arena) c.self.view_is) in
    let flushing = subst (λ a. OnlyFlushesIn a old mid) arena c.flush_changed.ensures.flushes in
    let committing = subst (λ (x : KeeperView × List ℕ × Report). OnlyFlushes z (keeper_view mid) x.0 mid.remembered.items x.1 mid.report x.2)
    (λ i. (sym c.commit_all.ensures.committed i, sym c.commit_all.ensures.remembered i, sym c.commit_all.ensures.report i))
    (only-committed z xs (keeper_view mid) mid.remembered.items mid.report) in
    only-on z (keeper_view old) (keeper_view mid) (keeper_view new) old.remembered.items mid.remembered.items new.remembered.items old.report mid.report new.report flushing committing)

pub returns-then-len-eq0-clause-flushes : goal.returns-then-len-eq0-clause-flushes
returns-then-len-eq0-clause-flushes g c = rw (← c.self.view_is) (
    let z = layout c.self.inside.arena.value in
    let old = c.self.inside.keeper in
    let new = c.face-then-len-eq0.new.self in
    subst (λ (x : KeeperView × List ℕ × Report). OnlyFlushes z (keeper_view old) x.0 old.remembered.items x.1 old.report x.2)
    (λ i. (sym c.face-then-len-eq0.ensures.same i, sym c.face-then-len-eq0.ensures.remembered i, sym c.face-then-len-eq0.ensures.report i))
    (only-same z (keeper_view old) (lent (keeper_view old)) old.remembered.items old.report refl refl))
