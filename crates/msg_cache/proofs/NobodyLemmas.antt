-- The sender numbers that nobody has are seen out by one step.
use Rattle.std.proofs.Common.{◌≡◌, ℕ, zero, suc, ◌+◌, ◌<◌, ◌≤◌, List, ◌≢◌, ⊎_elim, Bool, true, false, refl, sym, ap, ◌∙◌, subst, arith}
use Rattle.std.specs.Prelude.{slice_index, slice_set}
use Rattle.std.proofs.lemmas.List.{set-set}
use mathlib.Core.Option.{some}
use lib.ListN.{get_elem?}
use Rattle.atomic_table.proofs.Lists.{set_here}
use Rattle.msg_tables.specs.Origin.{OriginView}
use Rattle.msg_tables.specs.History.{History}
use Rattle.msg_model.specs.Event.{Look}
use Rattle.msg_model.specs.declared.event.Seen.TheVariants.{Out as SeenOut}
use Rattle.msg_model.specs.State.{Layout, State, awaits}
use Rattle.msg_names.specs.declared.value.ClassRef.{ClassRef}
use Rattle.msg_model.specs.Steps.{after, Legal, is_out, shows as shown_to}
use Rattle.msg_cache.specs.declared.view.KeeperView.{KeeperView}
use Rattle.msg_cache.specs.declared.view.View.{View}
use Rattle.msg_cache.specs.declared.view.View.TheVariants.{Keeper}
use Rattle.msg_cache.specs.Keeping.{looks}
use Rattle.msg_cache.specs.Laws.{after_looks}
use Rattle.msg_cache.specs.Plays.{looked, rest_looked}
use Rattle.msg_cache.specs.Rule.{NoneIsGivenFrom, Ruled, shown_by}
use Rattle.msg_cache.proofs.ClearingLemmas.{same_or}
use Rattle.msg_cache.proofs.KeeperLemmas.{out_step, idle_step}
use Rattle.msg_cache.proofs.SeatLemmas.{at_below}

pub rest_given : (n d : ℕ) (k : KeeperView) → (rest_looked n d k).given ≡ k.given
rest_given n zero k = refl
rest_given n (suc d) k = rest_given n d k

-- looks at all numbers are looks at the first of them and at the rest, which are out
pub looks_all : (n d : ℕ) (outs : List Bool) (k : KeeperView) → ((m : ℕ) → n ≤ m → m < n + d → awaits outs m ≡ true) → looks (n + d) outs k ≡ rest_looked n d (looks n outs k)
looks_all n zero outs k out = ap (λ (m : ℕ). looks m outs k) (let e : n + 0 ≡ n = omega arith in e)
looks_all n (suc d) outs k out =
    let rest = looks_all n d outs k (λ m le lt. out m le (omega arith)) in
    let more : n + suc d ≡ suc (n + d) = omega arith in
    ap (λ (m : ℕ). looks m outs k) more ∙ (λ i. looked (n + d) (out (n + d) (omega arith) (omega arith) i) (rest i))

pub looks_given : (n : ℕ) (outs : List Bool) (k : KeeperView) → (looks n outs k).given ≡ k.given
looks_given zero outs k = refl
looks_given (suc n) outs k = looks_given n outs k

module _ (look : History → ClassRef → ℕ → ℕ) (z : Layout) (origin : OriginView) (words : List ℕ) (views : List View) (r : Ruled look z origin words views) (id : ℕ) (at_id : get_elem? views id ≡ some (Keeper r.keeper)) where
  abbrev words' : List ℕ
  words' = slice_set words 0 (slice_index words 0)

  -- so many Looks, from a number on: each is legal and sees out, and the rule holds then
  pub record RestGoes (n d : ℕ) : Type 0 where
    pub legal : (e : ℕ) → e < d → Legal look z (after_looks z n e (shown_by look z origin r)) (Look (n + e))
    pub sees : (e : ℕ) → e < d → SeenOut true ≡ shown_to (after_looks z n e (shown_by look z origin r)) (Look (n + e))
    pub ruled : Ruled look z origin words' (slice_set views id (Keeper (rest_looked n d r.keeper)))
    pub shows : shown_by look z origin ruled ≡ after_looks z n d (shown_by look z origin r)

  pub rest_step : (n d : ℕ) → n + d ≤ z.senders → NoneIsGivenFrom n r.keeper.given → RestGoes n d
  rest_step n zero le nobody = let t = idle_step look z origin words views r id at_id 0 in record { legal = λ e lt. absurd (omega arith); sees = λ e lt. absurd (omega arith); ruled = t.0; shows = t.1 }
  rest_step n (suc d) le nobody =
      let k = rest_looked n d r.keeper in
      let before = rest_step n d (omega arith) nobody in
      let q = before.ruled in
      let here : get_elem? (slice_set views id (Keeper k)) id ≡ some (Keeper k) = set_here views id (Keeper k) (at_below views id (Keeper r.keeper) at_id) in
      let is : q.keeper ≡ k = (q.views_fit id (Keeper k) here).1 in
      let at : get_elem? (slice_set views id (Keeper k)) id ≡ some (Keeper q.keeper) = here ∙ ap (λ (x : KeeperView). some (Keeper x)) (sym is) in
      let none : awaits q.keeper.given (n + d) ≡ false = ap (λ (x : KeeperView). awaits x.given (n + d)) is ∙ ap (λ (g : List Bool). awaits g (n + d)) (rest_given n d r.keeper) ∙ nobody (n + d) (omega arith) in
      let goes = out_step look z origin words' (slice_set views id (Keeper k)) q id at (n + d) (omega arith) none in
      let same : slice_set (slice_set views id (Keeper k)) id (Keeper (looked (n + d) true q.keeper)) ≡ slice_set views id (Keeper (rest_looked n (suc d) r.keeper)) =
      set-set views id (Keeper k) (Keeper (looked (n + d) true q.keeper)) ∙ ap (λ (x : KeeperView). slice_set views id (Keeper (looked (n + d) true x))) is in
      let last : (ruled : Ruled look z origin words' (slice_set views id (Keeper (rest_looked n (suc d) r.keeper)))) × (shown_by look z origin ruled ≡ after_looks z n (suc d) (shown_by look z origin r)) =
      subst (λ (v : List View). (ruled : Ruled look z origin words' v) × (shown_by look z origin ruled ≡ after_looks z n (suc d) (shown_by look z origin r))) same
      (goes.1.0, goes.1.1 ∙ ap (λ (m : State). after z m (Look (n + d))) before.shows) in
      record {
        legal = λ e lt. ⊎_elim
            (λ (eq : e ≡ d). subst (λ (x : State × ℕ). Legal look z x.0 (Look (n + x.1))) (λ i. ((before.shows ∙ ap (λ (y : ℕ). after_looks z n y (shown_by look z origin r)) (sym eq)) i, sym eq i)) goes.0)
            (λ (ne : e ≢ d). before.legal e (omega arith))
            (same_or e d);
        sees = λ e lt. ⊎_elim
            (λ (eq : e ≡ d).
            let out : is_out (q.whereabouts (n + d)) ≡ true = ap is_out (q.outside (n + d) none) in
            ap SeenOut (sym out) ∙ (λ i. shown_to ((before.shows ∙ ap (λ (y : ℕ). after_looks z n y (shown_by look z origin r)) (sym eq)) i) (Look (n + sym eq i))))
            (λ (ne : e ≢ d). before.sees e (omega arith))
            (same_or e d);
        ruled = last.0;
        shows = last.1;
      }
