-- Legal events keep a state sound, and what a sender reads agrees with the method lists since its
-- header load.
use Rattle.std.proofs.Common.{◌≡◌, ◌≢◌, ℕ, zero, suc, ◌<◌, ◌⊎◌, List, [], ◌∷◌, ◌++◌, Option, Some, None, Bool, true, false, true≢false, replicate, refl, sym, ap, ◌∙◌, subst, inl, inr, ⊎_elim, arith, length-append}
use Rattle.std.specs.Prelude.{if◌then◌else◌}
use Rattle.std.proofs.lemmas.List.{take-append-le}
use Rattle.msg_names.specs.declared.value.ClassRef.{ClassRef}
use Rattle.msg_buckets.specs.Word.{sel_of, imp_of}
use Rattle.msg_tables.specs.Origin.{OriginView}
use Rattle.msg_tables.specs.History.{History, and_then, empty}
use Rattle.msg_model.specs.Event.{Event, Enter, Header, Read, Leave, Fill, Install, Flush, Look, Clear, Commit}
use Rattle.msg_model.specs.declared.state.Standing.TheVariants.{Free, Live, Retired}
use Rattle.msg_model.specs.declared.state.Whereabouts.{Whereabouts}
use Rattle.msg_model.specs.declared.state.Whereabouts.TheVariants.{Out, In, Holding}
use Rattle.msg_model.specs.State.{Layout, State, size, first, Sound, awaits}
use Rattle.msg_model.specs.Steps.{at, at_class, stored, everyone, seeing, retired, seen_out, is_out, after, Legal}
use Rattle.msg_model.specs.Runs.{opening, after_all, AreLegal}
use Rattle.msg_model.proofs.KeepLemmas as keep
use Rattle.msg_model.proofs.LegalLemmas as legal
use Rattle.msg_model.proofs.PointLemmas.{number_or, class_or, at_same, at_other, at_class_same, at_class_other, stored_or}

awaits_everyone : (k n : ℕ) (rest : List Bool) → n < k → awaits (replicate k true ++ rest) n ≡ true
awaits_everyone zero n rest lt = absurd (omega arith)
awaits_everyone (suc k) zero rest lt = refl
awaits_everyone (suc k) (suc n) rest lt = awaits_everyone k n rest (omega arith)

awaits_nobody : (k n : ℕ) → awaits (replicate k false) n ≡ true → ⊥
awaits_nobody zero n e = true≢false (sym e)
awaits_nobody (suc k) zero e = true≢false (sym e)
awaits_nobody (suc k) (suc n) e = awaits_nobody k n e

awaits_no_more : (k j n : ℕ) → awaits (replicate k true ++ replicate j false) n ≡ true → n < k
awaits_no_more zero j n e = absurd (awaits_nobody j n e)
awaits_no_more (suc k) j zero e = omega arith
awaits_no_more (suc k) j (suc n) e = let lt = awaits_no_more k j n e in omega arith

-- what a sender that moves holds
pub moved : (f : ℕ → Whereabouts) (n : ℕ) (p : Whereabouts) (j : ℕ) (c : ClassRef) (a : ℕ) → at f n p j ≡ Holding c a → ((j ≡ n) × (p ≡ Holding c a)) ⊎ ((j ≢ n) × (f j ≡ Holding c a))
moved f n p j c a e = ⊎_elim
    (λ (is : j ≡ n). inl (is, sym (ap (at f n p) is ∙ at_same f n p) ∙ e))
    (λ (ne : j ≢ n). inr (ne, sym (at_other f n p j ne) ∙ e))
    (number_or j n)

module _ (look : History → ClassRef → ℕ → ℕ) (z : Layout) (some_sender : 0 < z.senders) where
  all_awaited : (n : ℕ) → n < z.senders → awaits (everyone z.senders) n ≡ true
  all_awaited n lt = awaits_everyone z.senders n _ lt

  only_senders : (n : ℕ) → awaits (everyone z.senders) n ≡ true → n < z.senders
  only_senders n e = awaits_no_more z.senders _ n e

  -- a sender that now holds nothing
  lets_go : (m : State) (n : ℕ) (p : Whereabouts) → ((c : ClassRef) (a : ℕ) → p ≢ Holding c a) → Sound look z m → Sound look z (record m { whereabouts = at m.whereabouts n p })
  lets_go m n p nothing s =
      keep.moves look z m.history m.live m.live m.word m.word m.standing m.standing m.whereabouts (at m.whereabouts n p) s
      (λ j c a e. ⊎_elim (λ (t : (j ≡ n) × (p ≡ Holding c a)). absurd (nothing c a t.1)) (λ (t : (j ≢ n) × (m.whereabouts j ≡ Holding c a)). inl t.1) (moved m.whereabouts n p j c a e))

  -- the class reference no longer has a live array; the one that it had is retired
  flushed : (m : State) (c : ClassRef) (o : Option ℕ) → Sound look z m → c.class < z.classes → m.live c ≡ o → Sound look z (record m { live = at_class m.live c None; standing = retired z m c o })
  flushed m c None s lt e =
      keep.commits look z m.history m.live (at_class m.live c None) m.word m.word m.standing m.standing m.whereabouts m.whereabouts s m.history (omega arith) (λ r le. refl)
      (λ d dl. ⊎_elim (λ (is : d ≡ c). ap (at_class m.live c None) is ∙ at_class_same m.live c None ∙ sym (ap m.live is ∙ e)) (λ (ne : d ≢ c). at_class_other m.live c None d ne) (class_or d c))
      (λ b q bl. refl) s.lawful.live_words
  flushed m c (Some a) s lt e =
      keep.flushes look z m.history m.live (at_class m.live c None) m.word m.word m.standing (retired z m c (Some a)) m.whereabouts m.whereabouts s c a (everyone z.senders) lt e
      (at_class_same m.live c None) (λ d dl ne. at_class_other m.live c None d ne) (λ b q bl. refl)
      (λ b. ⊎_elim
      (λ (is : b ≡ a). inr (is, ap (retired z m c (Some a)) is ∙ at_same m.standing a (Retired c (size m.history) (everyone z.senders))))
      (λ (ne : b ≢ a). inl (ne, at_other m.standing a (Retired c (size m.history) (everyone z.senders)) b ne))
      (number_or b a))
      all_awaited only_senders some_sender

  pub holds_seen : (m : State) (c : ClassRef) (o : Option ℕ) → Sound look z m → c.class < z.classes → m.live c ≡ o → (d : ClassRef) (a : ℕ) → seeing c o ≡ Holding d a → (m.standing a ≡ Live d) × (d ≡ c)
  holds_seen m c None s lt e d a is = absurd (cc)
  holds_seen m c (Some b) s lt e d a is =
      let cd : c ≡ d = cc in let ba : b ≡ a = cc in
      (subst (λ (y : ClassRef × ℕ). m.standing y.1 ≡ Live y.0) (λ i. (cd i, ba i)) (s.lawful.live_stands c b lt e), sym cd)

  pub sound_after : (m : State) (e : Event) → Sound look z m → Legal look z m e → Sound look z (after z m e)
  sound_after m (Enter n) s e = lets_go m n In (λ c a is. let u : In ≡ Holding c a = is in cc) s
  sound_after m (Header n c) s e =
      let t = legal.legal_header look z m n c e in
      keep.moves look z m.history m.live m.live m.word m.word m.standing m.standing m.whereabouts (at m.whereabouts n (seeing c (m.live c))) s
      (λ j d a h. ⊎_elim
      (λ (u : (j ≡ n) × (seeing c (m.live c) ≡ Holding d a)). inr (subst (λ k. k < z.senders) (sym u.0) t.0, (holds_seen m c (m.live c) s t.1 refl d a u.1).0))
      (λ (u : (j ≢ n) × (m.whereabouts j ≡ Holding d a)). inl u.1)
      (moved m.whereabouts n (seeing c (m.live c)) j d a h))
  sound_after m (Read n p) s e = s
  sound_after m (Leave n) s e = lets_go m n Out (λ c a is. let u : Out ≡ Holding c a = is in cc) s
  sound_after m (Fill c p w) s e =
      let (lt, (a, here, inside, zero_there, sel, imp)) = legal.legal_fill look z m c p w e in
      let lives : m.standing a ≡ Live c = s.lawful.live_stands c a lt here in
      keep.stores look z m.history m.live m.live m.word (stored m.word (m.live c) p w) m.standing m.standing m.whereabouts m.whereabouts s a w
      (λ d live some. subst (λ (k : ClassRef). (0 < sel_of w) × (imp_of w ≡ look m.history k (sel_of w))) (keep.live_same c d (sym lives ∙ live)) (sel, imp))
      (λ d r aw gone. let u : Live c ≡ Retired d r aw = sym lives ∙ gone in cc)
      (λ d dl. refl)
      (λ b q bl. subst (λ o. (stored m.word o p w b q ≡ m.word b q) ⊎ ((b ≡ a) × (stored m.word o p w b q ≡ w))) (sym here) (stored_or m.word a p w b q))
  sound_after m (Install c a) s e =
      let (lt, there, free, clear) = legal.legal_install look z m c a e in
      let mid = flushed m c (m.live c) s lt refl in
      keep.installs look z m.history (at_class m.live c None) (at_class m.live c (Some a)) m.word m.word (retired z m c (m.live c)) (at (retired z m c (m.live c)) a (Live c)) m.whereabouts m.whereabouts mid c a lt there
      (at_class_same m.live c None) (at_class_same m.live c (Some a)) (λ d dl ne. at_class_other m.live c (Some a) d ne ∙ sym (at_class_other m.live c None d ne)) (λ b q bl. refl)
      (λ b. ⊎_elim
      (λ (is : b ≡ a). inr (is, ap (at (retired z m c (m.live c)) a (Live c)) is ∙ at_same (retired z m c (m.live c)) a (Live c)))
      (λ (ne : b ≢ a). inl (ne, at_other (retired z m c (m.live c)) a (Live c) b ne))
      (number_or b a))
      (still (m.live c) refl lt free) clear
    where
      still : (o : Option ℕ) → m.live c ≡ o → c.class < z.classes → m.standing a ≡ Free → retired z m c o a ≡ Free
      still None h lt free = free
      still (Some b) h lt free = ⊎_elim
          (λ (is : a ≡ b). let u : Free ≡ Live c = sym free ∙ ap m.standing is ∙ s.lawful.live_stands c b lt h in absurd (cc))
          (λ (ne : a ≢ b). at_other m.standing b (Retired c (size m.history) (everyone z.senders)) a ne ∙ free)
          (number_or a b)
  sound_after m (Flush c) s e = flushed m c (m.live c) s (legal.legal_flush look z m c e).0 refl
  sound_after m (Look n) s e = by_whereabouts (m.whereabouts n) refl
    where
      by_whereabouts : (p : Whereabouts) → m.whereabouts n ≡ p → Sound look z (record m { standing = if is_out p then (λ a. seen_out n (m.standing a)) else m.standing })
      by_whereabouts Out h = keep.looks look z m.history m.live m.word m.standing (λ a. seen_out n (m.standing a)) m.whereabouts s n (λ c a holds. let u : Out ≡ Holding c a = sym h ∙ holds in cc) (λ b. refl)
      by_whereabouts In h = s
      by_whereabouts (Holding c a) h = s
  sound_after m (Clear a p) s e =
      let (there, inside, free) = legal.legal_clear look z m a p e in
      keep.stores look z m.history m.live m.live m.word (stored m.word (Some a) p 0) m.standing m.standing m.whereabouts m.whereabouts s a 0
      (λ d live some. let u : Free ≡ Live d = sym free ∙ live in absurd (cc)) (λ d r aw gone. let u : Free ≡ Retired d r aw = sym free ∙ gone in cc)
      (λ d dl. refl) (λ b q bl. stored_or m.word a p 0 b q)
  sound_after m (Commit x) s e =
      let (accepted, agree) = legal.legal_commit look z m x e in
      keep.commits look z m.history m.live m.live m.word m.word m.standing m.standing m.whereabouts m.whereabouts s (and_then m.history x)
      (let t = length-append m.history.changes (x ∷ []) in omega arith)
      (λ r le i. record { origin = m.history.origin; changes = take-append-le r m.history.changes (x ∷ []) le i })
      (λ d dl. refl) (λ b q bl. refl) (λ c b q live lt. agree c b q (s.in_range.live_array c b live) live lt)

  pub sound_run : (m : State) (es : List Event) → Sound look z m → AreLegal look z m es → Sound look z (after_all z m es)
  sound_run m [] s legal = s
  sound_run m (e ∷ es) s legal = sound_run (after z m e) es (sound_after m e s legal.0) legal.1

  pub sound_opening : (origin : OriginView) → Sound look z (opening origin)
  sound_opening origin = keep.sound_from look z (empty origin) (λ c. None) (λ a p. 0) (λ a. Free) (λ n. Out)
      (λ n c a e. absurd (cc)) (λ c a e. absurd (cc)) (λ c r a aw e. absurd (cc)) (λ c a lt e. absurd (cc))

-- ---- lists of events

pub legal_append : (look : History → ClassRef → ℕ → ℕ) (z : Layout) (m : State) (es fs : List Event) → AreLegal look z m (es ++ fs) → AreLegal look z m es × AreLegal look z (after_all z m es) fs
legal_append look z m [] fs l = (tt, l)
legal_append look z m (e ∷ es) fs l = let (first, rest) = legal_append look z (after z m e) es fs l.1 in ((l.0, first), rest)

pub after_append : (z : Layout) (m : State) (es fs : List Event) → after_all z m (es ++ fs) ≡ after_all z (after_all z m es) fs
after_append z m [] fs = refl
after_append z m (e ∷ es) fs = after_append z (after z m e) es fs
