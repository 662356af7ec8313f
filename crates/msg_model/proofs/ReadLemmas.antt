-- What a sender reads agrees with the method lists at some time since its header load.
use Rattle.std.proofs.Common.{◌≡◌, ◌≢◌, ℕ, ◌<◌, ◌≤◌, ◌⊎◌, List, [], ◌∷◌, ◌++◌, Option, Some, None, Bool, true, refl, sym, ap, ◌∙◌, subst, inl, inr, ⊎_elim, arith, length-append}
use Rattle.std.specs.Prelude.{All, if◌then◌else◌}
use Rattle.std.proofs.lemmas.List.Elements.{All-head, All-tail, All-nil, All-cons}
use Rattle.msg_names.specs.declared.value.ClassRef.{ClassRef}
use Rattle.msg_buckets.specs.Word.{sel_of, imp_of}
use Rattle.msg_tables.specs.Origin.{OriginView}
use Rattle.msg_tables.specs.History.{History}
use Rattle.msg_model.specs.Event.{Event, Enter, Header, Read, Leave, Fill, Install, Flush, Look, Clear, Commit}
use Rattle.msg_model.specs.declared.state.Standing.TheVariants.{Live, Retired}
use Rattle.msg_model.specs.declared.state.Whereabouts.{Whereabouts}
use Rattle.msg_model.specs.declared.state.Whereabouts.TheVariants.{Out, In, Holding}
use Rattle.msg_model.specs.State.{Layout, State, capacity, size, Sound, awaits}
use Rattle.msg_model.specs.Steps.{at, seeing, retired, everyone, seen_out, is_out, after, Legal, held_word}
use Rattle.msg_model.specs.Runs.{opening, after_all, AreLegal, IsNoHeader, HasLoaded, AgreesBetween}
use Rattle.msg_model.proofs.KeepLemmas.{first_all, looked_retired}
use Rattle.msg_model.proofs.LegalLemmas.{legal_header, legal_read, legal_install, legal_clear}
use Rattle.msg_model.proofs.PointLemmas.{number_or, at_same, at_other}
use Rattle.msg_model.proofs.RunLemmas.{moved, holds_seen, sound_run, legal_append, after_append}

-- Since the history had g changes a sender can hold arrays of only one class reference, and what it
-- holds was not retired earlier.
pub record Since (g n : ℕ) (c : ClassRef) (m : State) : Type 0 where
  pub past : g ≤ size m.history
  pub class : (d : ClassRef) (a : ℕ) → m.whereabouts n ≡ Holding d a → d ≡ c
  pub retired : (d : ClassRef) (a : ℕ) → m.whereabouts n ≡ Holding d a → (e : ClassRef) (r : ℕ) (aw : List Bool) → m.standing a ≡ Retired e r aw → g ≤ r

module _ (look : History → ClassRef → ℕ → ℕ) (z : Layout) (some_sender : 0 < z.senders) where
  -- a move that gives the sender nothing new to hold
  since_moved : (m : State) (f : ℕ → Whereabouts) (g n : ℕ) (c : ClassRef) → ((d : ClassRef) (a : ℕ) → f n ≡ Holding d a → m.whereabouts n ≡ Holding d a) → Since g n c m → Since g n c (record m { whereabouts = f })
  since_moved m f g n c to s = record { past = s.past; class = λ d a e. s.class d a (to d a e); retired = λ d a e. s.retired d a (to d a e) }

  retired_since : (m : State) (c : ClassRef) (o : Option ℕ) (a : ℕ) (d : ClassRef) (r g : ℕ) (aw : List Bool) → g ≤ size m.history
      → ((d : ClassRef) (r : ℕ) (aw : List Bool) → m.standing a ≡ Retired d r aw → g ≤ r) → retired z m c o a ≡ Retired d r aw → g ≤ r
  retired_since m c None a d r g aw le old e = old d r aw e
  retired_since m c (Some b) a d r g aw le old e = ⊎_elim
      (λ (is : a ≡ b).
      let u : Retired c (size m.history) (everyone z.senders) ≡ Retired d r aw = sym (ap (retired z m c (Some b)) is ∙ at_same m.standing b (Retired c (size m.history) (everyone z.senders))) ∙ e in
      let same : size m.history ≡ r = cc in omega arith)
      (λ (ne : a ≢ b). old d r aw (sym (at_other m.standing b (Retired c (size m.history) (everyone z.senders)) a ne) ∙ e))
      (number_or a b)

  goes : (m : State) (j : ℕ) (p : Whereabouts) (n : ℕ) → ((d : ClassRef) (a : ℕ) → p ≢ Holding d a) → (d : ClassRef) (a : ℕ) → at m.whereabouts j p n ≡ Holding d a → m.whereabouts n ≡ Holding d a
  goes m j p n nothing d a e = ⊎_elim (λ (t : (n ≡ j) × (p ≡ Holding d a)). absurd (nothing d a t.1)) (λ (t : (n ≢ j) × (m.whereabouts n ≡ Holding d a)). t.1) (moved m.whereabouts j p n d a e)

  pub since_after : (m : State) (e : Event) (g n : ℕ) (c : ClassRef) → IsNoHeader n e → Since g n c m → Since g n c (after z m e)
  since_after m (Enter j) g n c other s = since_moved m (at m.whereabouts j In) g n c (goes m j In n (λ d a is. let u : In ≡ Holding d a = is in cc)) s
  since_after m (Header j d) g n c other s = since_moved m (at m.whereabouts j (seeing d (m.live d))) g n c (λ e a is. sym (at_other m.whereabouts j (seeing d (m.live d)) n (λ eq. other (sym eq))) ∙ is) s
  since_after m (Read j p) g n c other s = s
  since_after m (Leave j) g n c other s = since_moved m (at m.whereabouts j Out) g n c (goes m j Out n (λ d a is. let u : Out ≡ Holding d a = is in cc)) s
  since_after m (Fill d p w) g n c other s = record { past = s.past; class = s.class; retired = s.retired }
  since_after m (Install d a) g n c other s = record {
    past = s.past;
    class = s.class;
    retired = λ e b holds x r aw gone. ⊎_elim
        (λ (is : b ≡ a). let u : Live d ≡ Retired x r aw = sym (ap (at (retired z m d (m.live d)) a (Live d)) is ∙ at_same (retired z m d (m.live d)) a (Live d)) ∙ gone in absurd (cc))
        (λ (ne : b ≢ a). retired_since m d (m.live d) b x r g aw s.past (s.retired e b holds) (sym (at_other (retired z m d (m.live d)) a (Live d) b ne) ∙ gone))
        (number_or b a);
  }
  since_after m (Flush d) g n c other s = record { past = s.past; class = s.class; retired = λ e b holds x r aw gone. retired_since m d (m.live d) b x r g aw s.past (s.retired e b holds) gone }
  since_after m (Look j) g n c other s = record { past = s.past; class = s.class; retired = λ e b holds x r aw gone. by_whereabouts (m.whereabouts j) e b holds x r aw gone }
    where
      by_whereabouts : (p : Whereabouts) (e : ClassRef) (b : ℕ) → m.whereabouts n ≡ Holding e b → (x : ClassRef) (r : ℕ) (aw : List Bool) → (if is_out p then (λ a. seen_out j (m.standing a)) else m.standing) b ≡ Retired x r aw → g ≤ r
      by_whereabouts Out e b holds x r aw gone = let t = looked_retired j x r aw (m.standing b) gone in s.retired e b holds x r t.0 t.1
      by_whereabouts In e b holds x r aw gone = s.retired e b holds x r aw gone
      by_whereabouts (Holding y q) e b holds x r aw gone = s.retired e b holds x r aw gone
  since_after m (Clear a p) g n c other s = record { past = s.past; class = s.class; retired = s.retired }
  since_after m (Commit x) g n c other s = record { past = (let t = length-append m.history.changes (x ∷ []) in let le = s.past in omega arith); class = s.class; retired = s.retired }

  pub since_run : (m : State) (es : List Event) (g n : ℕ) (c : ClassRef) → All (IsNoHeader n) es → Since g n c m → Since g n c (after_all z m es)
  since_run m [] g n c none s = s
  since_run m (e ∷ es) g n c none s = since_run (after z m e) es g n c (All-tail (IsNoHeader n) e es none) (since_after m e g n c (All-head (IsNoHeader n) e es none) s)

  -- from the header load on
  pub since_header : (m : State) (n : ℕ) (c : ClassRef) → Sound look z m → Legal look z m (Header n c) → Since (size m.history) n c (after z m (Header n c))
  since_header m n c s e = record {
    past = omega arith;
    class = λ d a is. (seen d a is).1;
    retired = λ d a is x r aw gone. let u : Live d ≡ Retired x r aw = sym (seen d a is).0 ∙ gone in absurd (cc);
  }
    where
      seen : (d : ClassRef) (a : ℕ) → at m.whereabouts n (seeing c (m.live c)) n ≡ Holding d a → (m.standing a ≡ Live d) × (d ≡ c)
      seen d a is = holds_seen look z some_sender m c (m.live c) s (legal_header look z m n c e).1 refl d a (sym (at_same m.whereabouts n (seeing c (m.live c))) ∙ is)

  -- what a read sees agrees at some time since then
  pub read_since : (m : State) (g n : ℕ) (c : ClassRef) (p : ℕ) → Sound look z m → Since g n c m → Legal look z m (Read n p) → held_word m.word (m.whereabouts n) p ≢ 0
      → AgreesBetween look g m.history c (held_word m.word (m.whereabouts n) p)
  read_since m g n c p s since e some =
      let (lt, (d, a, holds, inside)) = legal_read look z m n p e in
      let word : held_word m.word (m.whereabouts n) p ≡ m.word a p = ap (λ q. held_word m.word q p) holds in
      subst (AgreesBetween look g m.history c) (sym word) (subst (λ (k : ClassRef). AgreesBetween look g m.history k (m.word a p)) (since.class d a holds) (agrees d a holds inside (λ none. some (word ∙ none))))
    where
      agrees : (d : ClassRef) (a : ℕ) → m.whereabouts n ≡ Holding d a → p < capacity z a → m.word a p ≢ 0 → AgreesBetween look g m.history d (m.word a p)
      agrees d a holds inside some = ⊎_elim
          (λ (live : m.standing a ≡ Live d).
          (size m.history, since.past, omega arith, subst (λ (x : History). imp_of (m.word a p) ≡ look x d (sel_of (m.word a p))) (first_all m.history (size m.history) refl) (s.lawful.live_words d a p live inside some).1))
          (λ (gone : (r : ℕ) × (aw : List Bool) × (m.standing a ≡ Retired d r aw) × (awaits aw n ≡ true)).
          (gone.0, since.retired d a holds d gone.0 gone.1 gone.2, s.in_range.retired_before d gone.0 a gone.1 gone.2, (s.lawful.retired_words d gone.0 a p gone.1 gone.2 inside some).1))
          (s.lawful.held n d a holds)

  -- ---- over lists of events

  pub read_law : (m : State) (before mid : List Event) (n : ℕ) (c : ClassRef) (p : ℕ) → Sound look z m → AreLegal look z m (before ++ Header n c ∷ mid ++ Read n p ∷ []) → All (IsNoHeader n) mid
      → held_word (after_all z m (before ++ Header n c ∷ mid)).word ((after_all z m (before ++ Header n c ∷ mid)).whereabouts n) p ≢ 0
      → AgreesBetween look (size (after_all z m before).history) (after_all z m (before ++ Header n c ∷ mid)).history c
      (held_word (after_all z m (before ++ Header n c ∷ mid)).word ((after_all z m (before ++ Header n c ∷ mid)).whereabouts n) p)
  read_law m before mid n c p s legal none some =
      let (run, read) = legal_append look z m (before ++ Header n c ∷ mid) (Read n p ∷ []) legal in
      let (early, late) = legal_append look z m before (Header n c ∷ mid) run in
      let there = after_all z m before in
      let sound = sound_run look z some_sender m before s early in
      let since = since_run (after z there (Header n c)) mid (size there.history) n c none (since_header there n c sound late.0) in
      let end = after_all z m (before ++ Header n c ∷ mid) in
      read_since end (size there.history) n c p (sound_run look z some_sender m (before ++ Header n c ∷ mid) s run)
      (subst (Since (size there.history) n c) (sym (after_append z m before (Header n c ∷ mid))) since) read.0 some

  -- the word has a selector, unless it is 0
  entry_of : (m : State) (n p : ℕ) → Sound look z m → Legal look z m (Read n p) → held_word m.word (m.whereabouts n) p ≢ 0 → 0 < sel_of (held_word m.word (m.whereabouts n) p)
  entry_of m n p s e some =
      let (lt, (c, a, holds, inside)) = legal_read look z m n p e in
      let word : held_word m.word (m.whereabouts n) p ≡ m.word a p = ap (λ q. held_word m.word q p) holds in
      subst (λ w. 0 < sel_of w) (sym word) (has c a holds inside (λ none. some (word ∙ none)))
    where
      has : (c : ClassRef) (a : ℕ) → m.whereabouts n ≡ Holding c a → p < capacity z a → m.word a p ≢ 0 → 0 < sel_of (m.word a p)
      has c a holds inside some = ⊎_elim
          (λ (live : m.standing a ≡ Live c). (s.lawful.live_words c a p live inside some).0)
          (λ (gone : (r : ℕ) × (aw : List Bool) × (m.standing a ≡ Retired c r aw) × (awaits aw n ≡ true)). (s.lawful.retired_words c gone.0 a p gone.1 gone.2 inside some).0)
          (s.lawful.held n c a holds)

  pub read_entry : (m : State) (es : List Event) (n p : ℕ) → Sound look z m → AreLegal look z m (es ++ Read n p ∷ []) → held_word (after_all z m es).word ((after_all z m es).whereabouts n) p ≢ 0
      → 0 < sel_of (held_word (after_all z m es).word ((after_all z m es).whereabouts n) p)
  read_entry m es n p s legal =
      let (run, read) = legal_append look z m es (Read n p ∷ []) legal in
      entry_of (after_all z m es) n p (sound_run look z some_sender m es s run) read.0

  pub unheld_install : (m : State) (es : List Event) (c : ClassRef) (a : ℕ) → Sound look z m → AreLegal look z m (es ++ Install c a ∷ []) → (n : ℕ) (d : ClassRef) → (after_all z m es).whereabouts n ≢ Holding d a
  unheld_install m es c a s legal =
      let (run, last) = legal_append look z m es (Install c a ∷ []) legal in
      (sound_run look z some_sender m es s run).lawful.free_unheld a (legal_install look z (after_all z m es) c a last.0).2

  pub unheld_clear : (m : State) (es : List Event) (a p : ℕ) → Sound look z m → AreLegal look z m (es ++ Clear a p ∷ []) → (n : ℕ) (d : ClassRef) → (after_all z m es).whereabouts n ≢ Holding d a
  unheld_clear m es a p s legal =
      let (run, last) = legal_append look z m es (Clear a p ∷ []) legal in
      (sound_run look z some_sender m es s run).lawful.free_unheld a (legal_clear look z (after_all z m es) a p last.0).2

-- ---- a sender that holds an array has loaded a header word

module _ (z : Layout) (n : ℕ) (c : ClassRef) (a : ℕ) where
  pub held_before : (m : State) (e : Event) → IsNoHeader n e → (after z m e).whereabouts n ≡ Holding c a → m.whereabouts n ≡ Holding c a
  held_before m (Enter j) other h = ⊎_elim (λ (t : (n ≡ j) × (In ≡ Holding c a)). let u = t.1 in absurd (cc)) (λ (t : (n ≢ j) × (m.whereabouts n ≡ Holding c a)). t.1) (moved m.whereabouts j In n c a h)
  held_before m (Header j d) other h = sym (at_other m.whereabouts j (seeing d (m.live d)) n (λ eq. other (sym eq))) ∙ h
  held_before m (Read j p) other h = h
  held_before m (Leave j) other h = ⊎_elim (λ (t : (n ≡ j) × (Out ≡ Holding c a)). let u = t.1 in absurd (cc)) (λ (t : (n ≢ j) × (m.whereabouts n ≡ Holding c a)). t.1) (moved m.whereabouts j Out n c a h)
  held_before m (Fill d p w) other h = h
  held_before m (Install d b) other h = h
  held_before m (Flush d) other h = h
  held_before m (Look j) other h = h
  held_before m (Clear b p) other h = h
  held_before m (Commit x) other h = h

  -- what is held after a header load is of its class reference
  loaded_class : (d : ClassRef) (o : Option ℕ) → seeing d o ≡ Holding c a → d ≡ c
  loaded_class d None e = absurd (cc)
  loaded_class d (Some b) e = cc

  -- the event is a header load of the sender, or none
  header_or : (e : Event) → ((d : ClassRef) × (e ≡ Header n d)) ⊎ IsNoHeader n e
  header_or (Header j d) = ⊎_elim (λ (is : j ≡ n). inl (d, ap (λ k. Header k d) is)) (λ (ne : j ≢ n). inr ne) (number_or j n)
  header_or (Enter j) = inr tt
  header_or (Read j p) = inr tt
  header_or (Leave j) = inr tt
  header_or (Fill d p w) = inr tt
  header_or (Install d b) = inr tt
  header_or (Flush d) = inr tt
  header_or (Look j) = inr tt
  header_or (Clear b p) = inr tt
  header_or (Commit x) = inr tt

  pub loaded : (m : State) (es : List Event) → (after_all z m es).whereabouts n ≡ Holding c a → (All (IsNoHeader n) es × (m.whereabouts n ≡ Holding c a)) ⊎ HasLoaded n c es
  loaded m [] h = inl (All-nil (IsNoHeader n), h)
  loaded m (e ∷ es) h = ⊎_elim
      (λ (t : All (IsNoHeader n) es × ((after z m e).whereabouts n ≡ Holding c a)). ⊎_elim
      (λ (u : (d : ClassRef) × (e ≡ Header n d)). inr ([], es, here u.0 u.1 t.1, t.0))
      (λ (other : IsNoHeader n e). inl (All-cons (IsNoHeader n) e es other t.0, held_before m e other t.1))
      (header_or e))
      (λ (t : HasLoaded n c es). inr (e ∷ t.0, t.1, ap (λ fs. e ∷ fs) t.2, t.3))
      (loaded (after z m e) es h)
    where
      here : (d : ClassRef) → e ≡ Header n d → (after z m e).whereabouts n ≡ Holding c a → e ∷ es ≡ Header n c ∷ es
      here d is held =
          let held' : at m.whereabouts n (seeing d (m.live d)) n ≡ Holding c a = ap (λ x. (after z m x).whereabouts n) (sym is) ∙ held in
          let same : d ≡ c = loaded_class d (m.live d) (sym (at_same m.whereabouts n (seeing d (m.live d))) ∙ held') in
          ap (λ x. x ∷ es) (is ∙ ap (λ k. Header n k) same)

  pub loaded_law : (origin : OriginView) (es : List Event) → (after_all z (opening origin) es).whereabouts n ≡ Holding c a → HasLoaded n c es
  loaded_law origin es h = ⊎_elim (λ (t : All (IsNoHeader n) es × (Out ≡ Holding c a)). let u = t.1 in absurd (cc)) (λ (t : HasLoaded n c es). t) (loaded (opening origin) es h)

-- a sender whose read is not refused holds an array
pub read_holds : (look : History → ClassRef → ℕ → ℕ) (z : Layout) (origin : OriginView) (es : List Event) (n p : ℕ) → AreLegal look z (opening origin) (es ++ Read n p ∷ [])
    → (c : ClassRef) × (a : ℕ) × ((after_all z (opening origin) es).whereabouts n ≡ Holding c a) × HasLoaded n c es
read_holds look z origin es n p legal =
    let (run, read) = legal_append look z (opening origin) es (Read n p ∷ []) legal in
    let (lt, (c, a, holds, inside)) = legal_read look z (after_all z (opening origin) es) n p read.0 in
    (c, a, holds, loaded_law z n c a origin es holds)
