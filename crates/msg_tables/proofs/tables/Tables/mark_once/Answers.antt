use Rattle.std.proofs.Common.{◌≡◌, ◌⊎◌, inl, inr, ◌∷◌, [], Some, refl, sym, subst, ◌∙◌}
use Rattle.std.proofs.lemmas.Option.{same_Some}
use Rattle.msg_names.specs.declared.value.ClassRef.{ClassRef}
use Rattle.msg_tables.specs.Journal.{place_of}
use Rattle.msg_tables.specs.Making.{IsMarkedBelow}
use Rattle.msg_tables.specs.Recent.{HasPlace}
use Rattle.msg_tables.proofs.ReachLemmas.{marked-below, stays-marked}
use Rattle.msg_tables.proofs.tables.Tables.mark_once.Goals as goal

pub returns-then-not-had-clause-recent : goal.returns-then-not-had-clause-recent
returns-then-not-had-clause-recent c = λ p has. at p (c.if-not-had.ensures.places p has)
  where
    at : (p : ClassRef) → HasPlace c.args.recent.now p ⊎ (place_of c.args.entry ≡ Some p) → IsMarkedBelow c.args.self.now c.mark_entry.new.marked p
    at p (inl old) = stays-marked c.args.self.now (c.args.entry ∷ []) c.args.marked.now c.mark_entry.new.marked p c.mark_entry.ensures.marks (c.requires.recent p old)
    at p (inr new) = marked-below c.args.self.now c.args.entry c.args.marked.now c.mark_entry.new.marked p c.mark_entry.ensures.marks new

pub returns-else-not-had-clause-recent : goal.returns-else-not-had-clause-recent
returns-else-not-had-clause-recent c = λ p has. at p (c.if-not-had.ensures.places p has)
  where
    at : (p : ClassRef) → HasPlace c.args.recent.now p ⊎ (place_of c.args.entry ≡ Some p) → IsMarkedBelow c.args.self.now c.args.marked.now p
    at p (inl old) = c.requires.recent p old
    at p (inr new) =
        let (q, is, there) = c.if-not-had.ensures.had refl in
        c.requires.recent p (subst (HasPlace c.args.recent.now) (same_Some q p (sym is ∙ new)) there)
