-- What keeps a state sound, for any lookup. The changes are given point by point, so that each fact
-- serves any way of keeping the words.
use Rattle.std.proofs.Common.{◌≡◌, ◌≢◌, ℕ, ◌<◌, ◌≤◌, ◌⊎◌, List, length, take, Bool, cond, true, false, true≢false, Option, Some, None, refl, sym, ap, ◌∙◌, subst, inl, inr, ⊎_elim, arith}
use Rattle.std.proofs.Math.Seq.{take-length}
use Rattle.std.proofs.lemmas.List.{get_or-set_other}
use Rattle.std.specs.List.{list_any}
use Rattle.std.specs.Prelude.{slice_set, zero, suc, [], ◌∷◌}
use Rattle.msg_names.specs.declared.value.ClassRef.{ClassRef}
use Rattle.msg_tables.specs.History.{History}
use Rattle.msg_model.specs.declared.state.Standing.{Standing}
use Rattle.msg_model.specs.declared.state.Standing.TheVariants.{Free, Live, Retired}
use Rattle.msg_model.specs.declared.state.Whereabouts.{Whereabouts}
use Rattle.msg_model.specs.declared.state.Whereabouts.TheVariants.{Holding}
use Rattle.msg_model.specs.State.{Layout, capacity, State, state_from, size, first, Agrees, awaits, KeepsFor, Sound}
use Rattle.msg_model.specs.Steps.{seen_out, awaiting}
use Rattle.msg_model.proofs.PointLemmas.{class_or}

-- all changes are the first changes, as many as there are
pub first_all : (h : History) (r : ℕ) → size h ≡ r → h ≡ first r h
first_all h r e = λ i. record { origin = h.origin; changes = (sym (take-length h.changes) ∙ ap (λ n. take n h.changes) e) i }

pub live_same : (c d : ClassRef) → Live c ≡ Live d → c ≡ d
live_same c d e = cc

some_same : (a b : ℕ) → Some a ≡ Some b → a ≡ b
some_same a b e = cc

not_free : (n : ℕ) (c : ClassRef) (s : Standing) → s ≡ Free → KeepsFor s c n → ⊥
not_free n c s e (inl v) = let u : Free ≡ Live c = sym e ∙ v in cc
not_free n c s e (inr v) = let u : Free ≡ Retired c v.0 v.1 = sym e ∙ v.2 in cc

module _ (look : History → ClassRef → ℕ → ℕ) (z : Layout) where
  -- the facts of a sound state, by their subject
  abbrev pub HeldFor : (ℕ → Standing) → ℕ → ClassRef → ℕ → Type 0
  HeldFor st n c a = (n < z.senders) × KeepsFor (st a) c n

  abbrev pub LiveFor : History → (ClassRef → Option ℕ) → (ℕ → ℕ → ℕ) → ClassRef → ℕ → Type 0
  LiveFor h lv wd c a = (c.class < z.classes) × (a < length z.capacities) × (lv c ≡ Some a) × ((p : ℕ) → p < capacity z a → Agrees (look h) c (wd a p))

  -- some sender is awaited, and only senders are
  abbrev pub AreAwaited : List Bool → Type 0
  AreAwaited aw = ((n : ℕ) × (n < z.senders) × (awaits aw n ≡ true)) × ((n : ℕ) → awaits aw n ≡ true → n < z.senders)

  abbrev pub RetiredFrom : History → (ℕ → ℕ → ℕ) → ClassRef → ℕ → ℕ → List Bool → Type 0
  RetiredFrom h wd c r a aw = (r ≤ size h) × AreAwaited aw × ((p : ℕ) → p < capacity z a → Agrees (look (first r h)) c (wd a p))

  live_for : {m : State} → Sound look z m → (c : ClassRef) (a : ℕ) → m.standing a ≡ Live c → LiveFor m.history m.live m.word c a
  live_for {m} s c a e = (s.in_range.live_class c a e, s.in_range.live_array c a e, s.lawful.stands_live c a e, λ p. s.lawful.live_words c a p e)

  retired_from : {m : State} → Sound look z m → (c : ClassRef) (r a : ℕ) (aw : List Bool) → m.standing a ≡ Retired c r aw → RetiredFrom m.history m.word c r a aw
  retired_from {m} s c r a aw e = (s.in_range.retired_before c r a aw e, (s.lawful.awaits_some c r a aw e, s.in_range.awaited_senders c r a aw e), λ p. s.lawful.retired_words c r a p aw e)

  held_for : {m : State} → Sound look z m → (n : ℕ) (c : ClassRef) (a : ℕ) → m.whereabouts n ≡ Holding c a → HeldFor m.standing n c a
  held_for {m} s n c a e = (s.in_range.holder n c a e, s.lawful.held n c a e)

  -- these facts are all
  pub sound_from : (h : History) (lv : ClassRef → Option ℕ) (wd : ℕ → ℕ → ℕ) (st : ℕ → Standing) (pl : ℕ → Whereabouts)
      → ((n : ℕ) (c : ClassRef) (a : ℕ) → pl n ≡ Holding c a → HeldFor st n c a)
      → ((c : ClassRef) (a : ℕ) → st a ≡ Live c → LiveFor h lv wd c a)
      → ((c : ClassRef) (r a : ℕ) (aw : List Bool) → st a ≡ Retired c r aw → RetiredFrom h wd c r a aw)
      → ((c : ClassRef) (a : ℕ) → c.class < z.classes → lv c ≡ Some a → st a ≡ Live c)
      → Sound look z (state_from h lv wd st pl)
  sound_from h lv wd st pl held live retired named = record {
    lawful = record {
      held = λ n c a e. (held n c a e).1;
      live_words = λ c a p e. (live c a e).3 p;
      retired_words = λ c r a p aw e. (retired c r a aw e).2 p;
      live_stands = named;
      stands_live = λ c a e. (live c a e).2;
      awaits_some = λ c r a aw e. (retired c r a aw e).1.0;
      free_unheld = λ a free n c e. not_free n c (st a) free (held n c a e).1;
    };
    in_range = record {
      retired_before = λ c r a aw e. (retired c r a aw e).0;
      live_class = λ c a e. (live c a e).0;
      live_array = λ c a e. (live c a e).1;
      awaited_senders = λ c r a aw e. (retired c r a aw e).1.1;
      holder = λ n c a e. (held n c a e).0;
    };
  }

  module _ (h : History) (lv lv' : ClassRef → Option ℕ) (wd wd' : ℕ → ℕ → ℕ) (st st' : ℕ → Standing) (pl pl' : ℕ → Whereabouts) (s : Sound look z (state_from h lv wd st pl)) where
    -- a sender moves: it holds what it held before, or an array that is live
    pub moves : ((n : ℕ) (c : ClassRef) (a : ℕ) → pl' n ≡ Holding c a → (pl n ≡ Holding c a) ⊎ ((n < z.senders) × (st a ≡ Live c))) → Sound look z (state_from h lv wd st pl')
    moves to = sound_from h lv wd st pl'
        (λ n c a e. ⊎_elim (λ (was : pl n ≡ Holding c a). held_for s n c a was) (λ (now : (n < z.senders) × (st a ≡ Live c)). (now.0, inl now.1)) (to n c a e))
        (live_for s) (retired_from s) s.lawful.live_stands

    -- a word is stored in an array that is not retired
    pub stores : (a w : ℕ) → ((c : ClassRef) → st a ≡ Live c → Agrees (look h) c w) → ((c : ClassRef) (r : ℕ) (aw : List Bool) → st a ≢ Retired c r aw)
        → ((d : ClassRef) → d.class < z.classes → lv' d ≡ lv d) → ((b q : ℕ) → q < capacity z b → (wd' b q ≡ wd b q) ⊎ ((b ≡ a) × (wd' b q ≡ w)))
        → Sound look z (state_from h lv' wd' st pl)
    stores a w good unretired same words = sound_from h lv' wd' st pl (held_for s)
        (λ c b e. let o = live_for s c b e in (
          o.0,
          o.1,
          same c o.0 ∙ o.2,
          λ p lt. ⊎_elim
              (λ (is : wd' b p ≡ wd b p). subst (Agrees (look h) c) (sym is) (o.3 p lt))
              (λ (is : (b ≡ a) × (wd' b p ≡ w)). subst (Agrees (look h) c) (sym is.1) (good c (ap st (sym is.0) ∙ e)))
              (words b p lt),
        ))
        (λ c r b aw e. let o = retired_from s c r b aw e in (
          o.0,
          o.1,
          λ p lt. ⊎_elim
              (λ (is : wd' b p ≡ wd b p). subst (Agrees (look (first r h)) c) (sym is) (o.2 p lt))
              (λ (is : (b ≡ a) × (wd' b p ≡ w)). absurd (unretired c r aw (ap st (sym is.0) ∙ e)))
              (words b p lt),
        ))
        (λ c b lt e. s.lawful.live_stands c b lt (sym (same c lt) ∙ e))

    -- the live array of c is retired; it awaits all that may hold it
    pub flushes : (c : ClassRef) (a : ℕ) (all : List Bool) → c.class < z.classes → lv c ≡ Some a → lv' c ≡ None → ((d : ClassRef) → d.class < z.classes → d ≢ c → lv' d ≡ lv d)
        → ((b q : ℕ) → q < capacity z b → wd' b q ≡ wd b q)
        → ((b : ℕ) → ((b ≢ a) × (st' b ≡ st b)) ⊎ ((b ≡ a) × (st' b ≡ Retired c (size h) all)))
        → ((n : ℕ) → n < z.senders → awaits all n ≡ true) → ((n : ℕ) → awaits all n ≡ true → n < z.senders) → 0 < z.senders
        → Sound look z (state_from h lv' wd' st' pl)
    flushes c a all lt here gone other words stands everyone only some_sender = sound_from h lv' wd' st' pl
        (λ n d b e. let o = held_for s n d b e in (
          o.0,
          ⊎_elim
              (λ (t : (b ≢ a) × (st' b ≡ st b)). subst (λ x. KeepsFor x d n) (sym t.1) o.1)
              (λ (t : (b ≡ a) × (st' b ≡ Retired c (size h) all)). inr (size h, all, t.1 ∙ ap (λ (x : ClassRef). Retired x (size h) all) (held_class n d b o.1 t.0), everyone n o.0))
              (stands b),
        ))
        (λ d b e. ⊎_elim
        (λ (t : (b ≢ a) × (st' b ≡ st b)). unmoved d b t.0 (live_for s d b (sym t.1 ∙ e)))
        (λ (t : (b ≡ a) × (st' b ≡ Retired c (size h) all)). let u : Retired c (size h) all ≡ Live d = sym t.1 ∙ e in absurd (cc))
        (stands b))
        (λ d r b aw e. ⊎_elim
        (λ (t : (b ≢ a) × (st' b ≡ st b)). let o = retired_from s d r b aw (sym t.1 ∙ e) in (o.0, o.1, λ p pl. subst (Agrees (look (first r h)) d) (sym (words b p pl)) (o.2 p pl)))
        (λ (t : (b ≡ a) × (st' b ≡ Retired c (size h) all)). now_retired d r b aw t.0 (sym t.1 ∙ e))
        (stands b))
        (λ d b dl e. ⊎_elim
        (λ (t : (b ≢ a) × (st' b ≡ st b)). t.1 ∙ s.lawful.live_stands d b dl (sym (other d dl (not_c d b e)) ∙ e))
        (λ (t : (b ≡ a) × (st' b ≡ Retired c (size h) all)).
        let lives : st b ≡ Live d = s.lawful.live_stands d b dl (sym (other d dl (not_c d b e)) ∙ e) in
        absurd (not_c d b e (sym (live_same c d (sym was ∙ ap st (sym t.0) ∙ lives)))))
        (stands b))
      where
        was : st a ≡ Live c
        was = s.lawful.live_stands c a lt here

        not_c : (d : ClassRef) (b : ℕ) → lv' d ≡ Some b → d ≢ c
        not_c d b e same = let u : None ≡ Some b = sym gone ∙ ap lv' (sym same) ∙ e in cc

        held_class : (n : ℕ) (d : ClassRef) (b : ℕ) → KeepsFor (st b) d n → b ≡ a → c ≡ d
        held_class n d b (inl v) t = live_same c d (sym was ∙ ap st (sym t) ∙ v)
        held_class n d b (inr v) t = let u : Live c ≡ Retired d v.0 v.1 = sym was ∙ ap st (sym t) ∙ v.2 in absurd (cc)

        unmoved : (d : ClassRef) (b : ℕ) → b ≢ a → LiveFor h lv wd d b → LiveFor h lv' wd' d b
        unmoved d b ne o = (o.0, o.1, other d o.0 (λ same. ne (some_same b a (sym o.2 ∙ ap lv same ∙ here))) ∙ o.2, λ p pl. subst (Agrees (look h) d) (sym (words b p pl)) (o.3 p pl))

        now_retired : (d : ClassRef) (r b : ℕ) (aw : List Bool) → b ≡ a → Retired c (size h) all ≡ Retired d r aw → RetiredFrom h wd' d r b aw
        now_retired d r b aw t u =
            let cd : c ≡ d = cc in let sr : size h ≡ r = cc in let al : all ≡ aw = cc in
            let o = live_for s c b (ap st t ∙ was) in (
              omega arith,
              ((0, some_sender, ap (λ x. awaits x 0) (sym al) ∙ everyone 0 some_sender), λ n e. only n (ap (λ x. awaits x n) al ∙ e)),
              λ p pl.
                  subst (λ (x : History × ClassRef × ℕ). Agrees (look x.0) x.1 x.2) (λ i. (first_all h r sr i, cd i, sym (words b p pl) i)) (o.3 p pl),
            )

    -- an empty free array becomes the live one of c
    pub installs : (c : ClassRef) (a : ℕ) → c.class < z.classes → a < length z.capacities → lv c ≡ None → lv' c ≡ Some a → ((d : ClassRef) → d.class < z.classes → d ≢ c → lv' d ≡ lv d)
        → ((b q : ℕ) → q < capacity z b → wd' b q ≡ wd b q)
        → ((b : ℕ) → ((b ≢ a) × (st' b ≡ st b)) ⊎ ((b ≡ a) × (st' b ≡ Live c)))
        → st a ≡ Free → ((q : ℕ) → q < capacity z a → wd a q ≡ 0)
        → Sound look z (state_from h lv' wd' st' pl)
    installs c a lt there none here other words stands free empty = sound_from h lv' wd' st' pl
        (λ n d b e. let o = held_for s n d b e in (
          o.0,
          ⊎_elim
              (λ (t : (b ≢ a) × (st' b ≡ st b)). subst (λ x. KeepsFor x d n) (sym t.1) o.1)
              (λ (t : (b ≡ a) × (st' b ≡ Live c)). absurd (not_free n d (st b) (ap st t.0 ∙ free) o.1))
              (stands b),
        ))
        (λ d b e. ⊎_elim
        (λ (t : (b ≢ a) × (st' b ≡ st b)). unmoved d b (live_for s d b (sym t.1 ∙ e)))
        (λ (t : (b ≡ a) × (st' b ≡ Live c)). now_live d b t.0 (live_same c d (sym t.1 ∙ e)))
        (stands b))
        (λ d r b aw e. ⊎_elim
        (λ (t : (b ≢ a) × (st' b ≡ st b)). let o = retired_from s d r b aw (sym t.1 ∙ e) in (o.0, o.1, λ p pl. subst (Agrees (look (first r h)) d) (sym (words b p pl)) (o.2 p pl)))
        (λ (t : (b ≡ a) × (st' b ≡ Live c)). let u : Live c ≡ Retired d r aw = sym t.1 ∙ e in absurd (cc))
        (stands b))
        (λ d b dl e. ⊎_elim (λ (same : d ≡ c). now_named d b same e) (λ (ne : d ≢ c). still_named d b dl ne e) (class_or d c))
      where
        unmoved : (d : ClassRef) (b : ℕ) → LiveFor h lv wd d b → LiveFor h lv' wd' d b
        unmoved d b o = (o.0, o.1, other d o.0 (λ same. let u : Some b ≡ None = sym o.2 ∙ ap lv same ∙ none in cc) ∙ o.2, λ p pl. subst (Agrees (look h) d) (sym (words b p pl)) (o.3 p pl))

        now_live : (d : ClassRef) (b : ℕ) → b ≡ a → c ≡ d → LiveFor h lv' wd' d b
        now_live d b t cd = (
          subst (λ (x : ClassRef). x.class < z.classes) cd lt,
          subst (λ x. x < length z.capacities) (sym t) there,
          ap lv' (sym cd) ∙ here ∙ ap (λ (x : ℕ). Some x) (sym t),
          λ p pl some.
              absurd (some (words b p pl ∙ ap (λ x. wd x p) t ∙ empty p (subst (λ x. p < capacity z x) t pl))),
        )

        now_named : (d : ClassRef) (b : ℕ) → d ≡ c → lv' d ≡ Some b → st' b ≡ Live d
        now_named d b same e =
            let ab : a ≡ b = some_same a b (sym here ∙ ap lv' (sym same) ∙ e) in
            ⊎_elim (λ (t : (b ≢ a) × (st' b ≡ st b)). absurd (t.0 (sym ab))) (λ (t : (b ≡ a) × (st' b ≡ Live c)). t.1 ∙ ap (λ (x : ClassRef). Live x) (sym same)) (stands b)

        still_named : (d : ClassRef) (b : ℕ) → d.class < z.classes → d ≢ c → lv' d ≡ Some b → st' b ≡ Live d
        still_named d b dl ne e =
            let lives : st b ≡ Live d = s.lawful.live_stands d b dl (sym (other d dl ne) ∙ e) in
            ⊎_elim (λ (t : (b ≢ a) × (st' b ≡ st b)). t.1 ∙ lives) (λ (t : (b ≡ a) × (st' b ≡ Live c)). let u : Free ≡ Live d = sym free ∙ ap st (sym t.0) ∙ lives in absurd (cc)) (stands b)

    -- the history grows; what is live agrees afterwards too
    pub commits : (h' : History) → size h ≤ size h' → ((r : ℕ) → r ≤ size h → first r h' ≡ first r h)
        → ((d : ClassRef) → d.class < z.classes → lv' d ≡ lv d) → ((b q : ℕ) → q < capacity z b → wd' b q ≡ wd b q)
        → ((c : ClassRef) (b q : ℕ) → st b ≡ Live c → q < capacity z b → Agrees (look h') c (wd b q)) → Sound look z (state_from h' lv' wd' st pl)
    commits h' longer old same words good = sound_from h' lv' wd' st pl (held_for s)
        (λ d b e. let o = live_for s d b e in (o.0, o.1, same d o.0 ∙ o.2, λ p pl. subst (Agrees (look h') d) (sym (words b p pl)) (good d b p e pl)))
        (λ d r b aw e. let o = retired_from s d r b aw e in (
          let le = o.0 in omega arith,
          o.1,
          λ p pl.
              subst (λ (x : History × ℕ). Agrees (look x.0) d x.1) (λ i. (sym (old r o.0) i, sym (words b p pl) i)) (o.2 p pl),
        ))
        (λ d b lt e. s.lawful.live_stands d b lt (sym (same d lt) ∙ e))

-- ---- an array that was looked at is afterwards what it was before

by_test : (c : ClassRef) (r : ℕ) (aw : List Bool) (b : Bool) → list_any (λ b. b) aw ≡ b → awaiting c r aw ≡ cond b (Retired c r aw) Free
by_test c r aw b e = ap (λ x. cond x (Retired c r aw) Free) e

pub looked_live : (n : ℕ) (c : ClassRef) (s : Standing) → seen_out n s ≡ Live c → s ≡ Live c
looked_live n c Free e = e
looked_live n c (Live d) e = e
looked_live n c (Retired d r aw) e = if_live (list_any (λ b. b) (slice_set aw n false)) refl e
  where
    if_live : (b : Bool) → list_any (λ b. b) (slice_set aw n false) ≡ b → awaiting d r (slice_set aw n false) ≡ Live c → Retired d r aw ≡ Live c
    if_live true is e' = let u : Retired d r (slice_set aw n false) ≡ Live c = sym (by_test d r (slice_set aw n false) true is) ∙ e' in absurd (cc)
    if_live false is e' = let u : Free ≡ Live c = sym (by_test d r (slice_set aw n false) false is) ∙ e' in absurd (cc)

pub looked_retired : (n : ℕ) (c : ClassRef) (r : ℕ) (aw : List Bool) (s : Standing) → seen_out n s ≡ Retired c r aw
    → (old : List Bool) × (s ≡ Retired c r old) × (aw ≡ slice_set old n false) × (list_any (λ b. b) aw ≡ true)
looked_retired n c r aw Free e = absurd (cc)
looked_retired n c r aw (Live d) e = absurd (cc)
looked_retired n c r aw (Retired d q old) e = if_retired (list_any (λ b. b) (slice_set old n false)) refl e
  where
    if_retired : (b : Bool) → list_any (λ b. b) (slice_set old n false) ≡ b → awaiting d q (slice_set old n false) ≡ Retired c r aw
        → (older : List Bool) × (Retired d q old ≡ Retired c r older) × (aw ≡ slice_set older n false) × (list_any (λ b. b) aw ≡ true)
    if_retired true is e' =
        let u : Retired d q (slice_set old n false) ≡ Retired c r aw = sym (by_test d q (slice_set old n false) true is) ∙ e' in
        let cd : d ≡ c = cc in let qr : q ≡ r = cc in let same : slice_set old n false ≡ aw = cc in
        (old, (λ i. Retired (cd i) (qr i) old), sym same, ap (list_any (λ b. b)) (sym same) ∙ is)
    if_retired false is e' = let u : Free ≡ Retired c r aw = sym (by_test d q (slice_set old n false) false is) ∙ e' in absurd (cc)

any_some : (xs : List Bool) → list_any (λ b. b) xs ≡ true → (n : ℕ) × (awaits xs n ≡ true)
any_some [] e = absurd (true≢false (sym e))
any_some (true ∷ xs) e = (0, refl)
any_some (false ∷ xs) e = let t = any_some xs e in (suc t.0, t.1)

some_any : (xs : List Bool) (n : ℕ) → awaits xs n ≡ true → list_any (λ b. b) xs ≡ true
some_any [] n e = absurd (true≢false (sym e))
some_any (true ∷ xs) n e = refl
some_any (false ∷ xs) zero e = absurd (true≢false (sym e))
some_any (false ∷ xs) (suc n) e = some_any xs n e

awaits_other : (xs : List Bool) (n m : ℕ) → m ≢ n → awaits (slice_set xs n false) m ≡ awaits xs m
awaits_other xs n m ne = get_or-set_other xs n m false false ne

awaits_less : (xs : List Bool) (n m : ℕ) → awaits (slice_set xs n false) m ≡ true → awaits xs m ≡ true
awaits_less [] n m e = e
awaits_less (x ∷ xs) zero zero e = absurd (true≢false (sym e))
awaits_less (x ∷ xs) zero (suc m) e = e
awaits_less (x ∷ xs) (suc n) zero e = e
awaits_less (x ∷ xs) (suc n) (suc m) e = awaits_less xs n m e

still_awaiting : (c : ClassRef) (r : ℕ) (aw : List Bool) → list_any (λ b. b) aw ≡ true → awaiting c r aw ≡ Retired c r aw
still_awaiting c r aw e = rw e refl

module _ (look : History → ClassRef → ℕ → ℕ) (z : Layout) (h : History) (lv : ClassRef → Option ℕ) (wd : ℕ → ℕ → ℕ) (st st' : ℕ → Standing) (pl : ℕ → Whereabouts) (s : Sound look z (state_from h lv wd st pl)) where
  -- a sender was seen out
  pub looks : (n : ℕ) → ((c : ClassRef) (a : ℕ) → pl n ≢ Holding c a) → ((b : ℕ) → st' b ≡ seen_out n (st b)) → Sound look z (state_from h lv wd st' pl)
  looks n out stands = sound_from look z h lv wd st' pl
      (λ m c a e. let o = held_for look z s m c a e in (o.0, subst (λ x. KeepsFor x c m) (sym (stands a)) (stays m c (st a) (λ same. out c a (ap pl (sym same) ∙ e)) o.1)))
      (λ c a e. live_for look z s c a (looked_live n c (st a) (sym (stands a) ∙ e)))
      (λ c r a aw e.
      let t = looked_retired n c r aw (st a) (sym (stands a) ∙ e) in
      let o = retired_from look z s c r a t.0 t.1 in
      let kept = λ (m : ℕ) (e : awaits aw m ≡ true). o.1.1 m (awaits_less t.0 n m (ap (λ x. awaits x m) (sym t.2) ∙ e)) in
      let some = any_some aw t.3 in
      (o.0, ((some.0, kept some.0 some.1, some.1), kept), o.2))
      (λ c a lt e. stands a ∙ ap (seen_out n) (s.lawful.live_stands c a lt e))
    where
      stays : (m : ℕ) (c : ClassRef) (x : Standing) → m ≢ n → KeepsFor x c m → KeepsFor (seen_out n x) c m
      stays m c x ne (inl e) = inl (ap (seen_out n) e)
      stays m c x ne (inr (r, aw, e, w)) =
          let still : awaits (slice_set aw n false) m ≡ true = awaits_other aw n m ne ∙ w in
          inr (r, slice_set aw n false, ap (seen_out n) e ∙ still_awaiting c r (slice_set aw n false) (some_any (slice_set aw n false) m still), still)
