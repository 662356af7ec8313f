-- Conditions with which an event is not refused: the converse of LegalLemmas.
use Rattle.std.proofs.Common.{◌≡◌, ◌≢◌, ◌<◌, ℕ, zero, suc, List, [], ◌∷◌, length, Option, Some, None, Bool, true, false, refl, sym, ap, ◌∙◌, arith}
use Rattle.std.specs.Prelude.{◌==◌, ◌||◌, ◌&&◌, not, nat_le, is_none, option_map}
use Rattle.std.proofs.Common.{eq-eqb, ne_eqb}
use Rattle.std.proofs.lemmas.Bool.Decides.{nat_tests}
use Rattle.msg_names.specs.declared.value.ClassRef.{ClassRef}
use Rattle.msg_tables.specs.declared.change.Change.{Change}
use Rattle.msg_buckets.specs.Word.{sel_of, imp_of}
use Rattle.msg_tables.specs.History.{History, and_then, log}
use Rattle.msg_tables.specs.Several.{refusal_of_all}
use Rattle.msg_model.specs.Event.{Enter, Header, Read, Leave, Fill, Install, Flush, Look, Clear, Commit}
use Rattle.msg_model.specs.declared.fault.EventFault.{EventFault}
use Rattle.msg_model.specs.declared.fault.EventFault.TheVariants.{NoSender, NoClass, NoArray, NotOut, NotIn, NotHolding, NotLive, NoPlace, NotFree, NotEmpty, Refused, Disagrees}
use Rattle.msg_model.specs.declared.state.Standing.{Standing}
use Rattle.msg_model.specs.declared.state.Standing.TheVariants.{Free, Live, Retired}
use Rattle.msg_model.specs.declared.state.Whereabouts.{Whereabouts}
use Rattle.msg_model.specs.declared.state.Whereabouts.TheVariants.{Out, In, Holding}
use Rattle.msg_model.specs.State.{Layout, capacity, State, Agrees}
use Rattle.msg_model.specs.Steps.{when, least_event_fault, is_out, is_in, is_free, is_past, held_capacity, is_entry, is_entry_in, disagrees, is_spoiled, some_below, Legal}

-- a condition that doesn't hold, before others none of which holds
unless : (b : Bool) (f : EventFault) (fs : List (Option EventFault)) → b ≡ false → least_event_fault fs ≡ None → least_event_fault (when b f ∷ fs) ≡ None
unless true f fs e rest = cc
unless false f fs e rest = rest

within : (n k : ℕ) → k < n → nat_le n k ≡ false
within n k lt = grind (arith, nat_tests)

out_place : (p : Whereabouts) → p ≢ Out → is_out p ≡ false
out_place Out ne = absurd (ne refl)
out_place In ne = refl
out_place (Holding c a) ne = refl

none_below : (n : ℕ) (test : ℕ → Bool) → ((k : ℕ) → k < n → test k ≡ false) → some_below n test ≡ false
none_below zero test none = refl
none_below (suc n) test none = ap (λ b. b || test n) (none_below n test (λ k lt. none k (omega arith))) ∙ none n (omega arith)

no_entry : (w : ℕ) → w ≡ 0 → is_entry w ≡ false
no_entry w e = ap not (eq-eqb w 0 e)

agreed : (look : ClassRef → ℕ → ℕ) (c : ClassRef) (w : ℕ) → 0 < sel_of w → imp_of w ≡ look c (sel_of w) → disagrees look c w ≡ false
agreed look c w sel imp =
    ap (λ b. b || not (imp_of w == look c (sel_of w))) (ne_eqb (sel_of w) 0 (λ e. absurd (omega arith))) ∙ ap not (eq-eqb (imp_of w) (look c (sel_of w)) imp)

unspoiled : (look : ClassRef → ℕ → ℕ) (c : ClassRef) (w : ℕ) → Agrees look c w → (is_entry w && disagrees look c w) ≡ false
unspoiled look c w good = step (w == 0) refl
  where
    is_zero : (w : ℕ) → (w == 0) ≡ true → w ≡ 0
    is_zero w e = grind (arith, nat_tests)

    is_some : (w : ℕ) → (w == 0) ≡ false → w ≢ 0
    is_some w e h = let t : (w == 0) ≡ true = eq-eqb w 0 h in let u : true ≡ false = sym t ∙ e in cc

    step : (b : Bool) → (w == 0) ≡ b → (is_entry w && disagrees look c w) ≡ false
    step true e = ap (λ b. not b && disagrees look c w) e
    step false e = let g = good (is_some w e) in ap (λ b. not b && disagrees look c w) e ∙ agreed look c w g.0 g.1

module _ (look : History → ClassRef → ℕ → ℕ) (z : Layout) (m : State) where
  pub may_enter : (n : ℕ) → n < z.senders → m.whereabouts n ≡ Out → Legal look z m (Enter n)
  may_enter n lt out = unless _ NoSender _ (within z.senders n lt) (unless _ NotOut [] (ap (λ p. not (is_out p)) out) refl)

  pub may_load : (n : ℕ) (c : ClassRef) → n < z.senders → c.class < z.classes → m.whereabouts n ≡ In → Legal look z m (Header n c)
  may_load n c lt there is_in' = unless _ NoSender _ (within z.senders n lt) (unless _ NoClass _ (within z.classes c.class there) (unless _ NotIn [] (ap (λ p. not (is_in p)) is_in') refl))

  pub may_read : (n p : ℕ) (c : ClassRef) (a : ℕ) → n < z.senders → m.whereabouts n ≡ Holding c a → p < capacity z a → Legal look z m (Read n p)
  may_read n p c a lt holds inside =
      unless _ NoSender _ (within z.senders n lt)
      (unless _ NotHolding _ (ap (λ q. is_none (held_capacity z q)) holds) (unless _ NoPlace [] (ap (λ q. is_past p (held_capacity z q)) holds ∙ within (capacity z a) p inside) refl))

  pub may_leave : (n : ℕ) → n < z.senders → m.whereabouts n ≢ Out → Legal look z m (Leave n)
  may_leave n lt ne = unless _ NoSender _ (within z.senders n lt) (unless _ NotIn [] (out_place (m.whereabouts n) ne) refl)

  pub may_fill : (c : ClassRef) (a p w : ℕ) → c.class < z.classes → m.live c ≡ Some a → p < capacity z a → m.word a p ≡ 0 → 0 < sel_of w → imp_of w ≡ look m.history c (sel_of w) → Legal look z m (Fill c p w)
  may_fill c a p w there live inside empty sel imp =
      unless _ NoClass _ (within z.classes c.class there)
      (unless _ NotLive _ (ap (λ o. is_none o) live)
      (unless _ NoPlace _ (ap (λ o. is_past p (option_map (capacity z) o)) live ∙ within (capacity z a) p inside)
      (unless _ NotEmpty _ (ap (λ o. is_entry_in m.word o p) live ∙ no_entry (m.word a p) empty) (unless _ Disagrees [] (agreed (look m.history) c w sel imp) refl))))

  pub may_install : (c : ClassRef) (a : ℕ) → c.class < z.classes → a < length z.capacities → m.standing a ≡ Free → ((q : ℕ) → q < capacity z a → m.word a q ≡ 0) → Legal look z m (Install c a)
  may_install c a there inside free empty =
      unless _ NoClass _ (within z.classes c.class there)
      (unless _ NoArray _ (within (length z.capacities) a inside)
      (unless _ NotFree _ (ap (λ s. not (is_free s)) free) (unless _ NotEmpty [] (none_below (capacity z a) (λ p. is_entry (m.word a p)) (λ p lt. no_entry (m.word a p) (empty p lt))) refl)))

  pub may_flush : (c : ClassRef) (a : ℕ) → c.class < z.classes → m.live c ≡ Some a → Legal look z m (Flush c)
  may_flush c a there live = unless _ NoClass _ (within z.classes c.class there) (unless _ NotLive [] (ap (λ o. is_none o) live) refl)

  pub may_look : (n : ℕ) → n < z.senders → Legal look z m (Look n)
  may_look n lt = unless _ NoSender [] (within z.senders n lt) refl

  pub may_clear : (a p : ℕ) → a < length z.capacities → p < capacity z a → m.standing a ≡ Free → Legal look z m (Clear a p)
  may_clear a p there inside free =
      unless _ NoArray _ (within (length z.capacities) a there) (unless _ NoPlace _ (within (capacity z a) p inside) (unless _ NotFree [] (ap (λ s. not (is_free s)) free) refl))

  pub may_commit : (x : List Change) → refusal_of_all (log m.history) x ≡ None
      → ((c : ClassRef) (b q : ℕ) → b < length z.capacities → m.standing b ≡ Live c → q < capacity z b → Agrees (look (and_then m.history x)) c (m.word b q))
      → Legal look z m (Commit x)
  may_commit x accepted good =
      ap (λ o. least_event_fault (option_map Refused o ∷ when (some_below (length z.capacities) spoiled) Disagrees ∷ [])) accepted
      ∙ unless _ Disagrees [] (none_below (length z.capacities) spoiled (λ b lt. by_standing b lt (m.standing b) refl)) refl
    where
      spoiled : ℕ → Bool
      spoiled a = is_spoiled (look (and_then m.history x)) (capacity z a) (m.word a) (m.standing a)

      by_standing : (b : ℕ) → b < length z.capacities → (s : Standing) → m.standing b ≡ s → is_spoiled (look (and_then m.history x)) (capacity z b) (m.word b) s ≡ false
      by_standing b lt Free e = refl
      by_standing b lt (Live c) e = none_below (capacity z b) _ (λ q ql. unspoiled (look (and_then m.history x)) c (m.word b q) (good c b q lt e ql))
      by_standing b lt (Retired c r awaited) e = refl
