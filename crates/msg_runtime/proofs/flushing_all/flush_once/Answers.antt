use Rattle.std.proofs.Common.{◌≡◌, ◌⊎◌, inl, inr, Some, refl, sym, subst, ◌∙◌}
use Rattle.std.proofs.lemmas.Option.{same_Some}
use Rattle.msg_names.specs.declared.value.ClassRef.{ClassRef}
use Rattle.msg_tables.specs.Journal.{place_of}
use Rattle.msg_tables.specs.Recent.{HasPlace}
use Rattle.msg_tables.proofs.EntryLemmas.{told-place}
use Rattle.msg_tables.proofs.ReachLemmas.{told-below}
use Rattle.msg_runtime.specs.Flushed.{IsFlushedBelow}
use Rattle.msg_runtime.proofs.flushing_all.flush_once.Goals as goal

pub returns-then-not-had-clause-recent : goal.returns-then-not-had-clause-recent
returns-then-not-had-clause-recent c = λ p has. at p (c.if-not-had.ensures.places p has)
  where
    at : (p : ClassRef) → HasPlace c.args.recent.now p ⊎ (place_of c.args.entry ≡ Some p) → IsFlushedBelow c.args.arena.now c.args.tables.now c.flush_entry.new.keeper p
    at p (inl old) = λ h stands d below. c.flush_entry.ensures.others d (c.requires.recent p old h stands d below)
    at p (inr new) = λ h stands d below. c.flush_entry.ensures.flushed h stands d (told-below h c.args.entry p d new below)

-- what was flushed lately is flushed
lately : (c : goal.Else-not-had) (p : ClassRef) → HasPlace c.args.recent.now p ⊎ (place_of c.args.entry ≡ Some p) → IsFlushedBelow c.args.arena.now c.args.tables.now c.args.keeper.now p
lately c p (inl old) = c.requires.recent p old
lately c p (inr new) =
    let (q, is, there) = c.if-not-had.ensures.had refl in
    c.requires.recent p (subst (HasPlace c.args.recent.now) (same_Some q p (sym is ∙ new)) there)

pub returns-else-not-had-clause-recent : goal.returns-else-not-had-clause-recent
returns-else-not-had-clause-recent c = λ p has. lately c p (c.if-not-had.ensures.places p has)

pub returns-else-not-had-clause-flushed : goal.returns-else-not-had-clause-flushed
returns-else-not-had-clause-flushed c = λ h stands d told.
    let (q, is, there) = c.if-not-had.ensures.had refl in
    c.requires.recent q there h stands d (sym (told-place h c.args.entry q d is) ∙ told)
