-- What may be assumed of an event that is not refused.
use Rattle.std.proofs.Common.{◌≡◌, ◌≢◌, ◌<◌, ℕ, List, [], ◌∷◌, length, Option, Some, None, Bool, true, false, refl, sym, ap, ◌∙◌, arith}
use Rattle.std.specs.Prelude.{◌==◌, ◌||◌, ◌&&◌, not, nat_le, is_none, option_map}
use Rattle.std.proofs.lemmas.Bool.Decides.{nat_tests}
use Rattle.msg_names.specs.declared.value.ClassRef.{ClassRef}
use Rattle.msg_tables.specs.declared.change.Change.{Change}
use Rattle.msg_buckets.specs.Word.{sel_of, imp_of}
use Rattle.msg_tables.specs.History.{History, and_then, log}
use Rattle.msg_tables.specs.Several.{refusal_of_all}
use Rattle.msg_model.specs.Event.{Enter, Header, Read, Leave, Fill, Install, Flush, Look, Clear, Commit}
use Rattle.msg_model.specs.declared.fault.EventFault.{EventFault}
use Rattle.msg_model.specs.declared.fault.EventFault.TheVariants.{NoSender, NoClass, NoArray, NotOut, NotIn, NotHolding, NotLive, NoPlace, NotFree, NotEmpty, Refused, Disagrees}
use Rattle.msg_model.specs.declared.state.Standing.{Standing}
use Rattle.msg_model.specs.declared.state.Standing.TheVariants.{Free, Live, Retired}
use Rattle.msg_model.specs.declared.state.Whereabouts.{Whereabouts}
use Rattle.msg_model.specs.declared.state.Whereabouts.TheVariants.{Out, In, Holding}
use Rattle.msg_model.specs.State.{Layout, capacity, State, Agrees}
use Rattle.msg_model.specs.Steps.{when, least_event_fault, is_out, is_in, is_free, is_past, held_capacity, is_entry, is_entry_in, disagrees, is_spoiled, some_below, Legal}
use Rattle.msg_model.proofs.BelowLemmas.{some_below-false}

-- neither the first of the conditions nor one of the others holds
none_when : (b : Bool) (f : EventFault) (fs : List (Option EventFault)) → least_event_fault (when b f ∷ fs) ≡ None → (b ≡ false) × (least_event_fault fs ≡ None)
none_when true f fs e = cc
none_when false f fs e = (refl, e)

below : (n k : ℕ) → nat_le n k ≡ false → k < n
below n k e = grind (arith, nat_tests)

place_out : (p : Whereabouts) → not (is_out p) ≡ false → p ≡ Out
place_out Out e = refl
place_out In e = cc
place_out (Holding c a) e = cc

place_in : (p : Whereabouts) → not (is_in p) ≡ false → p ≡ In
place_in Out e = cc
place_in In e = refl
place_in (Holding c a) e = cc

place_not_out : (p : Whereabouts) → is_out p ≡ false → p ≢ Out
place_not_out Out e h = cc
place_not_out In e h = cc
place_not_out (Holding c a) e h = cc

standing_free : (s : Standing) → not (is_free s) ≡ false → s ≡ Free
standing_free Free e = refl
standing_free (Live c) e = cc
standing_free (Retired c r awaited) e = cc

some_of : {A : Type 0} (o : Option A) → is_none o ≡ false → (x : A) × (o ≡ Some x)
some_of None e = cc
some_of (Some x) e = (x, refl)

no_entry : (w : ℕ) → is_entry w ≡ false → w ≡ 0
no_entry w e = grind (arith, nat_tests)

agrees : (look : ClassRef → ℕ → ℕ) (c : ClassRef) (w : ℕ) → disagrees look c w ≡ false → (0 < sel_of w) × (imp_of w ≡ look c (sel_of w))
agrees look c w e = step (sel_of w == 0) refl (imp_of w == look c (sel_of w)) refl e
  where
    step : (a : Bool) → (sel_of w == 0) ≡ a → (b : Bool) → (imp_of w == look c (sel_of w)) ≡ b → (a || not b) ≡ false → (0 < sel_of w) × (imp_of w ≡ look c (sel_of w))
    step true p b q h = cc
    step false p true q h = (positive (sel_of w) p, same (imp_of w) (look c (sel_of w)) q)
      where
        positive : (n : ℕ) → (n == 0) ≡ false → 0 < n
        positive n e = grind (arith, nat_tests)

        same : (n m : ℕ) → (n == m) ≡ true → n ≡ m
        same n m e = grind (arith, nat_tests)
    step false p false q h = cc

-- what is not spoiled agrees
unspoiled : (look : ClassRef → ℕ → ℕ) (c : ClassRef) (w : ℕ) → (is_entry w && disagrees look c w) ≡ false → Agrees look c w
unspoiled look c w e some = step (is_entry w) refl e
  where
    step : (b : Bool) → is_entry w ≡ b → (b && disagrees look c w) ≡ false → (0 < sel_of w) × (imp_of w ≡ look c (sel_of w))
    step true p h = agrees look c w h
    step false p h = absurd (some (no_entry w p))

module _ (look : History → ClassRef → ℕ → ℕ) (z : Layout) (m : State) where
  pub legal_enter : (n : ℕ) → Legal look z m (Enter n) → (n < z.senders) × (m.whereabouts n ≡ Out)
  legal_enter n e =
      let t = none_when (nat_le z.senders n) NoSender _ e in
      let u = none_when (not (is_out (m.whereabouts n))) NotOut [] t.1 in
      (below z.senders n t.0, place_out (m.whereabouts n) u.0)

  pub legal_header : (n : ℕ) (c : ClassRef) → Legal look z m (Header n c) → (n < z.senders) × (c.class < z.classes) × (m.whereabouts n ≡ In)
  legal_header n c e =
      let t = none_when (nat_le z.senders n) NoSender _ e in
      let u = none_when (nat_le z.classes c.class) NoClass _ t.1 in
      let w = none_when (not (is_in (m.whereabouts n))) NotIn [] u.1 in
      (below z.senders n t.0, below z.classes c.class u.0, place_in (m.whereabouts n) w.0)

  pub legal_read : (n p : ℕ) → Legal look z m (Read n p) → (n < z.senders) × ((c : ClassRef) × (a : ℕ) × (m.whereabouts n ≡ Holding c a) × (p < capacity z a))
  legal_read n p e =
      let t = none_when (nat_le z.senders n) NoSender _ e in
      (below z.senders n t.0, step (m.whereabouts n) t.1)
    where
      step : (q : Whereabouts) → least_event_fault (when (is_none (held_capacity z q)) NotHolding ∷ when (is_past p (held_capacity z q)) NoPlace ∷ []) ≡ None → (c : ClassRef) × (a : ℕ) × (q ≡ Holding c a) × (p < capacity z a)
      step Out h = cc
      step In h = cc
      step (Holding c a) h = (c, a, refl, below (capacity z a) p (none_when (nat_le (capacity z a) p) NoPlace [] h).0)

  pub legal_leave : (n : ℕ) → Legal look z m (Leave n) → (n < z.senders) × (m.whereabouts n ≢ Out)
  legal_leave n e =
      let t = none_when (nat_le z.senders n) NoSender _ e in
      let u = none_when (is_out (m.whereabouts n)) NotIn [] t.1 in
      (below z.senders n t.0, place_not_out (m.whereabouts n) u.0)

  pub legal_fill : (c : ClassRef) (p w : ℕ) → Legal look z m (Fill c p w)
      → (c.class < z.classes) × ((a : ℕ) × (m.live c ≡ Some a) × (p < capacity z a) × (m.word a p ≡ 0) × (0 < sel_of w) × (imp_of w ≡ look m.history c (sel_of w)))
  legal_fill c p w e =
      let t = none_when (nat_le z.classes c.class) NoClass _ e in
      (below z.classes c.class t.0, step (m.live c) t.1)
    where
      step : (o : Option ℕ) → least_event_fault (when (is_none o) NotLive ∷ when (is_past p (option_map (capacity z) o)) NoPlace ∷ when (is_entry_in m.word o p) NotEmpty ∷ when (disagrees (look m.history) c w) Disagrees ∷ []) ≡ None
          → (a : ℕ) × (o ≡ Some a) × (p < capacity z a) × (m.word a p ≡ 0) × (0 < sel_of w) × (imp_of w ≡ look m.history c (sel_of w))
      step None h = cc
      step (Some a) h =
          let t = none_when (nat_le (capacity z a) p) NoPlace _ h in
          let u = none_when (is_entry (m.word a p)) NotEmpty _ t.1 in
          let v = none_when (disagrees (look m.history) c w) Disagrees [] u.1 in
          let g = agrees (look m.history) c w v.0 in
          (a, refl, below (capacity z a) p t.0, no_entry (m.word a p) u.0, g.0, g.1)

  pub legal_install : (c : ClassRef) (a : ℕ) → Legal look z m (Install c a) → (c.class < z.classes) × (a < length z.capacities) × (m.standing a ≡ Free) × ((q : ℕ) → q < capacity z a → m.word a q ≡ 0)
  legal_install c a e =
      let t = none_when (nat_le z.classes c.class) NoClass _ e in
      let u = none_when (nat_le (length z.capacities) a) NoArray _ t.1 in
      let v = none_when (not (is_free (m.standing a))) NotFree _ u.1 in
      let w = none_when (some_below (capacity z a) (λ p. is_entry (m.word a p))) NotEmpty [] v.1 in
      (below z.classes c.class t.0, below (length z.capacities) a u.0, standing_free (m.standing a) v.0, λ q lt. no_entry (m.word a q) (some_below-false (capacity z a) q (λ p. is_entry (m.word a p)) w.0 lt))

  pub legal_flush : (c : ClassRef) → Legal look z m (Flush c) → (c.class < z.classes) × ((a : ℕ) × (m.live c ≡ Some a))
  legal_flush c e =
      let t = none_when (nat_le z.classes c.class) NoClass _ e in
      let u = none_when (is_none (m.live c)) NotLive [] t.1 in
      (below z.classes c.class t.0, some_of (m.live c) u.0)

  pub legal_look : (n : ℕ) → Legal look z m (Look n) → n < z.senders
  legal_look n e = below z.senders n (none_when (nat_le z.senders n) NoSender [] e).0

  pub legal_clear : (a p : ℕ) → Legal look z m (Clear a p) → (a < length z.capacities) × (p < capacity z a) × (m.standing a ≡ Free)
  legal_clear a p e =
      let t = none_when (nat_le (length z.capacities) a) NoArray _ e in
      let u = none_when (nat_le (capacity z a) p) NoPlace _ t.1 in
      let v = none_when (not (is_free (m.standing a))) NotFree [] u.1 in
      (below (length z.capacities) a t.0, below (capacity z a) p u.0, standing_free (m.standing a) v.0)

  pub legal_commit : (x : List Change) → Legal look z m (Commit x)
      → (refusal_of_all (log m.history) x ≡ None) × ((c : ClassRef) (b q : ℕ) → b < length z.capacities → m.standing b ≡ Live c → q < capacity z b → Agrees (look (and_then m.history x)) c (m.word b q))
  legal_commit x e = step (refusal_of_all (log m.history) x) refl e
    where
      agree : some_below (length z.capacities) (λ a. is_spoiled (look (and_then m.history x)) (capacity z a) (m.word a) (m.standing a)) ≡ false
          → (c : ClassRef) (b q : ℕ) → b < length z.capacities → m.standing b ≡ Live c → q < capacity z b → Agrees (look (and_then m.history x)) c (m.word b q)
      agree none c b q inside live lt =
          let unhurt = some_below-false (length z.capacities) b (λ a. is_spoiled (look (and_then m.history x)) (capacity z a) (m.word a) (m.standing a)) none inside in
          unspoiled (look (and_then m.history x)) c (m.word b q)
          (some_below-false (capacity z b) q (λ p. is_entry (m.word b p) && disagrees (look (and_then m.history x)) c (m.word b p))
          (sym (ap (is_spoiled (look (and_then m.history x)) (capacity z b) (m.word b)) live) ∙ unhurt) lt)

      step : (o : _) → refusal_of_all (log m.history) x ≡ o → least_event_fault (option_map Refused o ∷ when (some_below (length z.capacities) (λ a. is_spoiled (look (and_then m.history x)) (capacity z a) (m.word a) (m.standing a))) Disagrees ∷ []) ≡ None
          → (refusal_of_all (log m.history) x ≡ None) × ((c : ClassRef) (b q : ℕ) → b < length z.capacities → m.standing b ≡ Live c → q < capacity z b → Agrees (look (and_then m.history x)) c (m.word b q))
      step None o h = (o, agree (none_when _ Disagrees [] h).0)
      step (Some f) o h = cc
