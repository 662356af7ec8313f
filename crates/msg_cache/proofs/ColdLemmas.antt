-- Class references that are closed, and such without a live array.
use Rattle.std.proofs.Common.{◌≡◌, ◌≢◌, ℕ, ◌+◌, ◌<◌, List, [], ◌∷◌, length, Bool, true, false, None, cond, refl, sym, ap, ◌∙◌, subst, ⊎_elim, arith}
use Rattle.std.specs.Prelude.{if◌then◌else◌, slice_index}
use Rattle.std.proofs.lemmas.List.{get_or-set_other, get_or-set_same}
use Rattle.msg_names.specs.declared.value.ClassRef.{ClassRef}
use Rattle.msg_model.specs.State.{Layout, size}
use Rattle.msg_model.specs.Steps.{at_class}
use Rattle.msg_model.proofs.PointLemmas.{class_or, at_class_same, at_class_other, number_or}
use Rattle.msg_cache.specs.declared.view.KeeperView.{KeeperView}
use Rattle.msg_cache.specs.declared.keeper.TheConstants.{CLOSED}
use Rattle.msg_cache.specs.Layout.{header_at, stamp_at, probes}
use Rattle.msg_cache.specs.Rule.{named, live_in}
use Rattle.msg_cache.specs.Ours.{OpenKeeps, all_closed, closed, is_closed}
use Rattle.msg_cache.specs.Plays.{stored, flushed}
use Rattle.msg_cache.proofs.LayoutLemmas.{stamp_inside, stamp_same, stamp_no_header}
use Rattle.msg_cache.proofs.ShownLemmas.{live_is, live_set, live_stamp}

abbrev pub Closed : Layout → KeeperView → ClassRef → Type 0
Closed z k c = slice_index k.words (stamp_at z c) ≡ CLOSED

abbrev pub Cold : Layout → KeeperView → ClassRef → Type 0
Cold z k c = (live_in z k.words c ≡ None) × Closed z k c

pub open_keeps : OpenKeeps
open_keeps z c k = at (is_closed z k c)
  where
    at : (b : Bool) → let j : KeeperView = if b then stored (stamp_at z c) (size k.history) k else k in (j.history ≡ k.history) × (j.standings ≡ k.standings) × (j.given ≡ k.given) × (j.turn ≡ k.turn) × (j.since ≡ k.since)
    at true = (refl, refl, refl, refl, refl)
    at false = (refl, refl, refl, refl, refl)

-- what holds of a view whether or not a stamp is stored there holds of it once a class reference is
-- closed
by_stamp : (P : KeeperView → Type 0) (z : Layout) (c : ClassRef) (k : KeeperView) → P k → P (stored (stamp_at z c) CLOSED k) → P (closed z c k)
by_stamp P z c k one other = at (is_closed z k c)
  where
    at : (b : Bool) → P (if b then k else stored (stamp_at z c) CLOSED k)
    at true = one
    at false = other

module _ (z : Layout) (k : KeeperView) (c : ClassRef) (lt : c.class < z.classes) (len : length k.words ≡ probes z) where
  closed_now : Closed z (stored (stamp_at z c) CLOSED k) c
  closed_now = get_or-set_same k.words (stamp_at z c) CLOSED 0 (let t = stamp_inside z c lt in omega arith)

  -- who is closed stays so where another is closed
  pub closed_stays : (d : ClassRef) → Closed z k d → Closed z (closed z c k) d
  closed_stays d is = by_stamp (λ j. Closed z j d) z c k is (⊎_elim
      (λ (eq : d ≡ c). subst (λ (x : ClassRef). Closed z (stored (stamp_at z c) CLOSED k) x) (sym eq) closed_now)
      (λ (ne : d ≢ c). get_or-set_other k.words (stamp_at z c) (stamp_at z d) CLOSED 0 (λ e. ne (stamp_same z d c e)) ∙ is)
      (class_or d c))

  pub close_stays : (d : ClassRef) → Cold z k d → Cold z (closed z c k) d
  close_stays d is = (by_stamp (λ j. live_in z j.words d ≡ None) z c k is.0 (ap (λ f. f d) (live_stamp z k.words c CLOSED) ∙ is.0), closed_stays d is.1)

  still_closed : (b : Bool) (d : ClassRef) → Closed z k d → Closed z (cond b (flushed c k) k) d
  still_closed false d is = is
  still_closed true d is = get_or-set_other k.words (header_at c) (stamp_at z d) 0 0 (stamp_no_header z d c lt) ∙ is

  none_live : (b : Bool) (d : ClassRef) → live_in z k.words d ≡ None → live_in z (cond b (flushed c k) k).words d ≡ None
  none_live false d is = is
  none_live true d is = ap (λ f. f d) (live_set z k.words c 0 lt len) ∙ ⊎_elim
      (λ (eq : d ≡ c). ap (at_class (live_in z k.words) c None) eq ∙ at_class_same (live_in z k.words) c None)
      (λ (ne : d ≢ c). at_class_other (live_in z k.words) c None d ne ∙ is)
      (class_or d c)

  pub flush_stays : (b : Bool) (d : ClassRef) → Cold z k d → Cold z (cond b (flushed c k) k) d
  flush_stays b d is = (none_live b d is.0, still_closed b d is.1)

  pub flush_chills : (b : Bool) → Closed z k c → (b ≡ false → slice_index k.words (header_at c) ≡ 0) → Cold z (cond b (flushed c k) k) c
  flush_chills true is none = (ap (λ f. f c) (live_set z k.words c 0 lt len) ∙ at_class_same (live_in z k.words) c None, still_closed true c is)
  flush_chills false is none = (live_is z k.words c lt ∙ ap named (none refl), is)

-- what is closed, and taken away, leaves the history, the numbers that are given out, and since
-- when they are
pub chilled_history : (a : Bool) (c : ClassRef) (z : Layout) (k : KeeperView) → (cond a (flushed c (closed z c k)) (closed z c k)).history ≡ k.history
chilled_history true c z k = by_stamp (λ j. j.history ≡ k.history) z c k refl refl
chilled_history false c z k = by_stamp (λ j. j.history ≡ k.history) z c k refl refl

pub chilled_given : (a : Bool) (c : ClassRef) (z : Layout) (k : KeeperView) → (cond a (flushed c (closed z c k)) (closed z c k)).given ≡ k.given
chilled_given true c z k = by_stamp (λ j. j.given ≡ k.given) z c k refl refl
chilled_given false c z k = by_stamp (λ j. j.given ≡ k.given) z c k refl refl

pub chilled_since : (a : Bool) (c : ClassRef) (z : Layout) (k : KeeperView) → (cond a (flushed c (closed z c k)) (closed z c k)).since ≡ k.since
chilled_since true c z k = by_stamp (λ j. j.since ≡ k.since) z c k refl refl
chilled_since false c z k = by_stamp (λ j. j.since ≡ k.since) z c k refl refl

-- ---- several, one after another

pub all_closed-history : (z : Layout) (cs : List ClassRef) (k : KeeperView) → (all_closed z cs k).history ≡ k.history
all_closed-history z [] k = refl
all_closed-history z (c ∷ cs) k = by_stamp (λ j. j.history ≡ (all_closed z cs k).history) z c (all_closed z cs k) refl refl ∙ all_closed-history z cs k

pub all_closed-live : (z : Layout) (cs : List ClassRef) (k : KeeperView) → live_in z (all_closed z cs k).words ≡ live_in z k.words
all_closed-live z [] k = refl
all_closed-live z (c ∷ cs) k =
    by_stamp (λ j. live_in z j.words ≡ live_in z (all_closed z cs k).words) z c (all_closed z cs k) refl (live_stamp z (all_closed z cs k).words c CLOSED) ∙ all_closed-live z cs k

-- the class and its metaclass are closed, in addition to those of the classes before
pub closed_below : (z : Layout) (k : KeeperView) (n : ℕ) → ((c : ClassRef) → c.class < n → Closed z k c) → Closed z k (record { class = n; meta = false }) → Closed z k (record { class = n; meta = true })
    → (c : ClassRef) → c.class < n + 1 → Closed z k c
closed_below z k n before own meta c lt = ⊎_elim
    (λ (eq : c.class ≡ n). last c.meta refl eq)
    (λ (ne : c.class ≢ n). before c (omega arith))
    (number_or c.class n)
  where
    last : (b : Bool) → c.meta ≡ b → c.class ≡ n → Closed z k c
    last false is eq = let e : c ≡ record { class = n; meta = false } = (λ i. record { class = eq i; meta = is i }) in subst (λ (x : ClassRef). Closed z k x) (sym e) own
    last true is eq = let e : c ≡ record { class = n; meta = true } = (λ i. record { class = eq i; meta = is i }) in subst (λ (x : ClassRef). Closed z k x) (sym e) meta
