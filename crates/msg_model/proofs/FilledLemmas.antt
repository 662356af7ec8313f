-- A word that was filled in stays at its place.
use Rattle.std.proofs.Common.{◌≡◌, ◌≢◌, ℕ, ◌<◌, List, [], ◌∷◌, ◌++◌, Option, Some, None, cond, refl, sym, ap, ap₂, ◌∙◌, subst, ⊎_elim, arith, eq-eqb, ne_eqb}
use Rattle.std.specs.Prelude.{All}
use Rattle.std.proofs.lemmas.List.Elements.{All-head, All-tail}
use Rattle.std.proofs.lemmas.Option.{same_Some}
use Rattle.msg_names.specs.declared.value.ClassRef.{ClassRef}
use Rattle.msg_buckets.specs.Word.{sel_of}
use Rattle.msg_tables.specs.History.{History}
use Rattle.msg_model.specs.Event.{Event, Enter, Header, Read, Leave, Fill, Install, Flush, Look, Clear, Commit}
use Rattle.msg_model.specs.declared.state.Standing.TheVariants.{Free, Live}
use Rattle.msg_model.specs.declared.state.Whereabouts.TheVariants.{Holding}
use Rattle.msg_model.specs.State.{Layout, State, Sound}
use Rattle.msg_model.specs.Steps.{at, seeing, stored, after, Legal, held_word}
use Rattle.msg_model.specs.Runs.{after_all, AreLegal, IsNoHeader, LeavesArrayOf}
use Rattle.msg_model.proofs.LegalLemmas.{legal_read, legal_fill, legal_clear}
use Rattle.msg_model.proofs.PointLemmas.{number_or, at_same, at_class_other}
use Rattle.msg_model.proofs.ReadLemmas.{held_before}
use Rattle.msg_model.proofs.RunLemmas.{sound_after, sound_run, legal_append, after_append}

-- a word that isn't the one that was stored
stored_apart : (f : ℕ → ℕ → ℕ) (a p w b q : ℕ) → (b ≡ a → q ≡ p → ⊥) → stored f (Some a) p w b q ≡ f b q
stored_apart f a p w b q apart = ⊎_elim
    (λ (e : b ≡ a). ⊎_elim
    (λ (e' : q ≡ p). absurd (apart e e'))
    (λ (ne : q ≢ p). ap (λ g. g q) (ap (λ x. cond x (at (f a) p w) (f b)) (eq-eqb b a e)) ∙ ap (λ x. cond x w (f a q)) (ne_eqb q p ne) ∙ ap (λ x. f x q) (sym e))
    (number_or q p))
    (λ (ne : b ≢ a). ap (λ g. g q) (ap (λ x. cond x (at (f a) p w) (f b)) (ne_eqb b a ne)))
    (number_or b a)

module _ (look : History → ClassRef → ℕ → ℕ) (z : Layout) (some_sender : 0 < z.senders) where
  -- a word that isn't 0 stays, unless its array is cleared
  word_after : (m : State) (e : Event) (a p w : ℕ) → w ≢ 0 → Legal look z m e → m.standing a ≢ Free → m.word a p ≡ w → (after z m e).word a p ≡ w
  word_after m (Enter n) a p w some legal used is = is
  word_after m (Header n c) a p w some legal used is = is
  word_after m (Read n q) a p w some legal used is = is
  word_after m (Leave n) a p w some legal used is = is
  word_after m (Fill d q v) a p w some legal used is =
      let (lt, (b, here, inside, none, sel, imp)) = legal_fill look z m d q v legal in
      let apart : stored m.word (Some b) q v a p ≡ m.word a p = stored_apart m.word b q v a p (λ e e'. some (sym is ∙ ap₂ m.word e e' ∙ none)) in
      ap (λ o. stored m.word o q v a p) here ∙ apart ∙ is
  word_after m (Install c b) a p w some legal used is = is
  word_after m (Flush c) a p w some legal used is = is
  word_after m (Look n) a p w some legal used is = is
  word_after m (Clear b q) a p w some legal used is =
      let (there, inside, free) = legal_clear look z m b q legal in
      stored_apart m.word b q 0 a p (λ e e'. used (ap m.standing e ∙ free)) ∙ is
  word_after m (Commit xs) a p w some legal used is = is

  -- what is live for a class reference stays live
  live_after : (m : State) (e : Event) (c : ClassRef) → LeavesArrayOf c e → (after z m e).live c ≡ m.live c
  live_after m (Enter n) c other = refl
  live_after m (Header n d) c other = refl
  live_after m (Read n q) c other = refl
  live_after m (Leave n) c other = refl
  live_after m (Fill d q v) c other = refl
  live_after m (Install d b) c other = at_class_other m.live d (Some b) c (λ e. other (sym e))
  live_after m (Flush d) c other = at_class_other m.live d None c (λ e. other (sym e))
  live_after m (Look n) c other = refl
  live_after m (Clear b q) c other = refl
  live_after m (Commit xs) c other = refl

  -- ---- an entry of the live array

  live_used : (m : State) (c : ClassRef) (a : ℕ) → Sound look z m → c.class < z.classes → m.live c ≡ Some a → m.standing a ≢ Free
  live_used m c a s lt live free = let u : Live c ≡ Free = sym (s.lawful.live_stands c a lt live) ∙ free in cc

  entry_run : (m : State) (es : List Event) (c : ClassRef) (a p w : ℕ) → w ≢ 0 → c.class < z.classes → Sound look z m → AreLegal look z m es → All (LeavesArrayOf c) es
      → m.live c ≡ Some a → m.word a p ≡ w → ((after_all z m es).live c ≡ Some a) × ((after_all z m es).word a p ≡ w)
  entry_run m [] c a p w some lt s legal leave live is = (live, is)
  entry_run m (e ∷ es) c a p w some lt s legal leave live is =
      entry_run (after z m e) es c a p w some lt (sound_after look z some_sender m e s legal.0) legal.1 (All-tail (LeavesArrayOf c) e es leave)
      (live_after m e c (All-head (LeavesArrayOf c) e es leave) ∙ live) (word_after m e a p w some legal.0 (live_used m c a s lt live) is)

  -- ---- an entry of the array that a sender holds

  -- whatever the sender holds is this array, and has the entry
  abbrev HoldsEntry : ℕ → ℕ → ℕ → ℕ → State → Type 0
  HoldsEntry n a p w m = (d : ClassRef) (b : ℕ) → m.whereabouts n ≡ Holding d b → (b ≡ a) × (m.word a p ≡ w)

  held_used : (m : State) (n : ℕ) (d : ClassRef) (a : ℕ) → Sound look z m → m.whereabouts n ≡ Holding d a → m.standing a ≢ Free
  held_used m n d a s holds free = s.lawful.free_unheld a free n d holds

  held_after : (m : State) (e : Event) (n a p w : ℕ) → w ≢ 0 → Sound look z m → Legal look z m e → IsNoHeader n e → HoldsEntry n a p w m → HoldsEntry n a p w (after z m e)
  held_after m e n a p w some s legal other is d b holds =
      let was = held_before z n d b m e other holds in
      let (same, word) = is d b was in
      let here : m.whereabouts n ≡ Holding d a = subst (λ k. m.whereabouts n ≡ Holding d k) same was in
      (same, word_after m e a p w some legal (held_used m n d a s here) word)

  held_run : (m : State) (es : List Event) (n a p w : ℕ) → w ≢ 0 → Sound look z m → AreLegal look z m es → All (IsNoHeader n) es → HoldsEntry n a p w m → HoldsEntry n a p w (after_all z m es)
  held_run m [] n a p w some s legal none is = is
  held_run m (e ∷ es) n a p w some s legal none is =
      held_run (after z m e) es n a p w some (sound_after look z some_sender m e s legal.0) legal.1 (All-tail (IsNoHeader n) e es none)
      (held_after m e n a p w some s legal.0 (All-head (IsNoHeader n) e es none) is)

  -- after the header load
  seen_holds : (c : ClassRef) (o : Option ℕ) (a : ℕ) (d : ClassRef) (b : ℕ) → o ≡ Some a → seeing c o ≡ Holding d b → b ≡ a
  seen_holds c None a d b e h = absurd (cc)
  seen_holds c (Some k) a d b e h = let u : k ≡ b = cc in let v : k ≡ a = same_Some k a e in sym u ∙ v

  pub filled_law : (m : State) (before mid more : List Event) (n : ℕ) (c : ClassRef) (p w : ℕ) → Sound look z m
      → AreLegal look z m (before ++ Fill c p w ∷ mid ++ Header n c ∷ more ++ Read n p ∷ []) → All (LeavesArrayOf c) mid → All (IsNoHeader n) more
      → held_word (after_all z m (before ++ Fill c p w ∷ mid ++ Header n c ∷ more)).word ((after_all z m (before ++ Fill c p w ∷ mid ++ Header n c ∷ more)).whereabouts n) p ≡ w
  filled_law m before mid more n c p w s legal leave none =
      let (whole, read) = legal_append look z m (before ++ Fill c p w ∷ mid ++ Header n c ∷ more) (Read n p ∷ []) legal in
      let (run, rest) = legal_append look z m (before ++ Fill c p w ∷ mid) (Header n c ∷ more) whole in
      let (early, late) = legal_append look z m before (Fill c p w ∷ mid) run in
      let at_fill = after_all z m before in
      let sound = sound_run look z some_sender m before s early in
      let (lt, (a, here, inside, empty, sel, imp)) = legal_fill look z at_fill c p w late.0 in
      let some : w ≢ 0 = λ e. (let no : 0 < sel_of 0 = subst (λ k. 0 < sel_of k) e sel in omega (arith, no)) in
      let filled = after z at_fill (Fill c p w) in
      let word : filled.word a p ≡ w = ap (λ o. stored at_fill.word o p w a p) here ∙ ap (λ g. g p) (at_same at_fill.word a (at (at_fill.word a) p w)) ∙ at_same (at_fill.word a) p w in
      let entry = entry_run filled mid c a p w some lt (sound_after look z some_sender at_fill (Fill c p w) sound late.0) late.1 leave here word in
      let there = after_all z m (before ++ Fill c p w ∷ mid) in
      let is_there : after_all z filled mid ≡ there = sym (after_append z m before (Fill c p w ∷ mid)) in
      let live : there.live c ≡ Some a = subst (λ (x : State). x.live c ≡ Some a) is_there entry.0 in
      let stays : there.word a p ≡ w = subst (λ (x : State). x.word a p ≡ w) is_there entry.1 in
      let sound_there = sound_run look z some_sender m (before ++ Fill c p w ∷ mid) s run in
      let seen = after z there (Header n c) in
      let held : HoldsEntry n a p w seen = λ d b h. (seen_holds c (there.live c) a d b live (sym (at_same there.whereabouts n (seeing c (there.live c))) ∙ h), stays) in
      let run_end = held_run seen more n a p w some (sound_after look z some_sender there (Header n c) sound_there rest.0) rest.1 none held in
      let end = after_all z m (before ++ Fill c p w ∷ mid ++ Header n c ∷ more) in
      let holds_end : HoldsEntry n a p w end = subst (HoldsEntry n a p w) (sym (after_append z m (before ++ Fill c p w ∷ mid) (Header n c ∷ more))) run_end in
      let (few, (d, b, holds, within)) = legal_read look z end n p read.0 in
      let found = holds_end d b holds in
      ap (λ q. held_word end.word q p) holds ∙ ap (λ k. end.word k p) found.0 ∙ found.1
