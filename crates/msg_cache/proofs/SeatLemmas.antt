-- What a step changes for one seat, and what stays for the others.
use Rattle.std.proofs.Common.{◌≡◌, ◌≢◌, ℕ, zero, suc, ◌<◌, ◌≤◌, ◌⊎◌, List, [], ◌∷◌, ◌++◌, length, Bool, true≢false, refl, sym, ap, ◌∙◌, subst, inl, inr, ⊎_elim, arith}
use Rattle.std.specs.Prelude.{slice_set}
use mathlib.Core.Option.{some, some-injective, some-ne-none}
use lib.ListN.{get_elem?}
use Rattle.atomic_table.proofs.Lists.{at_set, set_here, set_else}
use Rattle.msg_names.specs.declared.value.ClassRef.{ClassRef}
use Rattle.msg_tables.specs.Origin.{OriginView}
use Rattle.msg_tables.specs.History.{History, BeginsWith}
use Rattle.msg_model.specs.declared.state.Standing.TheVariants.{Retired}
use Rattle.msg_model.specs.declared.state.Whereabouts.{Whereabouts}
use Rattle.msg_model.specs.declared.state.Whereabouts.TheVariants.{Holding}
use Rattle.msg_model.specs.State.{Layout, size, awaits, Sound}
use Rattle.msg_model.specs.View.{standing_at}
use Rattle.msg_model.proofs.PointLemmas.{number_or}
use Rattle.msg_cache.specs.declared.view.SenderView.{SenderView}
use Rattle.msg_cache.specs.declared.view.TurnAt.TheVariants.{Away}
use Rattle.msg_cache.specs.declared.view.KeeperView.{KeeperView}
use Rattle.msg_cache.specs.declared.view.View.{View}
use Rattle.msg_cache.specs.declared.view.View.TheVariants.{Sender, Keeper, Turn, Spent}
use Rattle.msg_cache.specs.Rule.{shown, since_of, FitsSender, Fits, IsCopied, IsKept, Ruled, shown_by}
use Rattle.msg_cache.proofs.LayoutLemmas.{awaits_length}
use Rattle.msg_tables.proofs.BeginsLemmas.{begins_trans, begins_length}

-- what holds of each view after one was changed
pub views_set : (F G : ℕ → View → Type 0) (views : List View) (id : ℕ) (w : View) → ((j : ℕ) (u : View) → get_elem? views j ≡ some u → F j u)
    → ((j : ℕ) (u : View) → j ≢ id → F j u → G j u) → G id w → (j : ℕ) (u : View) → get_elem? (slice_set views id w) j ≡ some u → G j u
views_set F G views id w all others mine j u e = ⊎_elim
    (λ (x : (j ≡ id) × (w ≡ u)). subst (λ (y : ℕ × View). G y.0 y.1) (λ i. (sym x.0 i, x.1 i)) mine)
    (λ (x : (j ≢ id) × (get_elem? views j ≡ some u)). others j u x.0 (all j u x.1))
    (at_set views id j w u e)

-- an entry of a list is below its length
pub at_below : (l : List View) (j : ℕ) (b : View) → get_elem? l j ≡ some b → j < length l
at_below [] j b e = absurd (some-ne-none b (sym e))
at_below (x ∷ xs) zero b e = omega arith
at_below (x ∷ xs) (suc j) b e = let t = at_below xs j b e in omega arith

-- an entry of a list that is longer by one: it was there, or is the last
pub at_last_or : (l : List View) (a b : View) (j : ℕ) → get_elem? (l ++ a ∷ []) j ≡ some b → (get_elem? l j ≡ some b) ⊎ ((a ≡ b) × (j ≡ length l))
at_last_or [] a b zero e = inr (some-injective a b e, refl)
at_last_or [] a b (suc j) e = absurd (some-ne-none b (sym e))
at_last_or (x ∷ xs) a b zero e = inl e
at_last_or (x ∷ xs) a b (suc j) e = ⊎_elim (λ (t : get_elem? xs j ≡ some b). inl t) (λ (t : (a ≡ b) × (j ≡ length xs)). inr (t.0, ap suc t.1)) (at_last_or xs a b j e)

-- two views that differ are at two places
pub views_apart : (views : List View) (i j : ℕ) (a b : View) → get_elem? views i ≡ some a → get_elem? views j ≡ some b → a ≢ b → i ≢ j
views_apart views i j a b at at' ne eq = ne (some-injective a b (sym at ∙ ap (get_elem? views) eq ∙ at'))

pub not_keeper : (v : SenderView) (k : KeeperView) → Sender v ≢ Keeper k
not_keeper v k e = cc

pub not_turn : (v : SenderView) (h : History) → Sender v ≢ Turn h
not_turn v h e = cc

-- two senders of different numbers
pub not_sender : (u v : SenderView) → u.number ≢ v.number → Sender u ≢ Sender v
not_sender u v ne e = ne (ap number e)
  where
    number : View → ℕ
    number (Sender w) = w.number
    number (Keeper k) = 0
    number (Turn h) = 0
    number Spent = 0

module _ (look : History → ClassRef → ℕ → ℕ) (z : Layout) (origin : OriginView) (words words' : List ℕ) (views : List View) (r : Ruled look z origin words views) where
  -- a sender's number is below the number of senders
  pub number_below : (id : ℕ) (v : SenderView) → get_elem? views id ≡ some (Sender v) → v.number < z.senders
  number_below id v at =
      let mine : FitsSender r.keeper r.seat r.whereabouts id v = r.views_fit id (Sender v) at in
      let t = awaits_length r.keeper.given v.number mine.given in let s = r.kept.given in omega arith

  -- a sender steps: its new view, and where senders are then
  pub sender_goes : (id : ℕ) (v w : SenderView) (whereabouts' : ℕ → Whereabouts) → get_elem? views id ≡ some (Sender v) → w.number ≡ v.number → whereabouts' v.number ≡ w.whereabouts → ((n : ℕ) → n ≢ v.number → whereabouts' n ≡ r.whereabouts n)
      → BeginsWith r.keeper.history w.front → size v.front ≤ size w.front
      → ((c : ClassRef) (a n : ℕ) (aw : List Bool) → w.whereabouts ≡ Holding c a → standing_at r.keeper.standings a ≡ Retired c n aw → size w.front ≤ n)
      → IsCopied z r.keeper whereabouts' words'
      → Sound look z (shown z r.keeper whereabouts')
      → (r' : Ruled look z origin words' (slice_set views id (Sender w))) × (shown_by look z origin r' ≡ shown z r.keeper whereabouts')
  sender_goes id v w whereabouts' at same here away begins longer behind copies sound =
      let k = r.keeper in
      let mine : FitsSender k r.seat r.whereabouts id v = r.views_fit id (Sender v) at in (
        record {
          keeper = k;
          chair = r.chair;
          away = r.away;
          seat = r.seat;
          whereabouts = whereabouts';
          kept = r.kept;
          copies = copies;
          sound = sound;
          outside = λ n e. away n (λ eq. true≢false (sym mine.given ∙ ap (awaits k.given) (sym eq) ∙ e)) ∙ r.outside n e;
          views_fit = views_set (Fits k r.chair r.away r.seat r.whereabouts) (Fits k r.chair r.away r.seat whereabouts') views id (Sender w) r.views_fit
              (λ j u ne f. others id mine.seated j u ne f)
              (record { seated = ap r.seat same ∙ mine.seated; given = ap (awaits k.given) same ∙ mine.given; placed = ap whereabouts' same ∙ here; begins = begins; since = (let s = mine.since in omega (arith, ap (since_of k.since) same)); behind = behind });
          chair_is = set_else views id r.chair (Sender w) (λ eq. views_apart views id r.chair (Sender v) (Keeper k) at r.chair_is (not_keeper v k) (sym eq)) ∙ r.chair_is;
          sits = λ n given. ⊎_elim
              (λ (eq : n ≡ v.number). (w, ap (get_elem? (slice_set views id (Sender w))) (ap r.seat eq ∙ mine.seated) ∙ set_here views id (Sender w) (at_below views id (Sender v) at), same ∙ sym eq))
              (λ (ne : n ≢ v.number).
              let old = r.sits n given in
              let other : r.seat n ≢ id = views_apart views (r.seat n) id (Sender old.0) (Sender v) old.1 at (not_sender old.0 v (λ eq. ne (sym old.2 ∙ eq))) in
              (old.0, set_else views id (r.seat n) (Sender w) other ∙ old.1, old.2))
              (number_or n v.number);
        },
        refl,
      )
    where
      others : (id : ℕ) → r.seat v.number ≡ id → (j : ℕ) (u : View) → j ≢ id → Fits r.keeper r.chair r.away r.seat r.whereabouts j u → Fits r.keeper r.chair r.away r.seat whereabouts' j u
      others id is j (Keeper k) ne f = f
      others id is j (Turn g) ne f = f
      others id is j Spent ne f = f
      others id is j (Sender u) ne f = record {
        seated = f.seated;
        given = f.given;
        since = f.since;
        placed = away u.number (λ eq. ne (sym f.seated ∙ ap r.seat eq ∙ is)) ∙ f.placed;
        begins = f.begins;
        behind = f.behind;
      }

  -- the keeper steps: its new view
  pub keeper_goes : (id : ℕ) (k' : KeeperView) → get_elem? views id ≡ some (Keeper r.keeper) → IsKept z origin k' → IsCopied z k' r.whereabouts words' → Sound look z (shown z k' r.whereabouts)
      → k'.given ≡ r.keeper.given → k'.since ≡ r.keeper.since → BeginsWith k'.history r.keeper.history
      → ((c : ClassRef) (a m : ℕ) (aw : List Bool) → standing_at k'.standings a ≡ Retired c m aw
      → ((old : List Bool) × (standing_at r.keeper.standings a ≡ Retired c m old)) ⊎ (size r.keeper.history ≤ m))
      → ((k'.turn ≡ r.keeper.turn) × (k'.history ≡ r.keeper.history)) ⊎ (r.keeper.turn ≢ Away)
      → (r' : Ruled look z origin words' (slice_set views id (Keeper k'))) × (shown_by look z origin r' ≡ shown z k' r.whereabouts)
  keeper_goes id k' at kept copies sound given since grows behind turn =
      let mine : (r.chair ≡ id) × (r.keeper ≡ r.keeper) = r.views_fit id (Keeper r.keeper) at in (
        record {
          keeper = k';
          chair = id;
          away = r.away;
          seat = r.seat;
          whereabouts = r.whereabouts;
          kept = kept;
          copies = copies;
          sound = sound;
          outside = λ n e. r.outside n (ap (λ g. awaits g n) (sym given) ∙ e);
          views_fit = views_set (Fits r.keeper r.chair r.away r.seat r.whereabouts) (Fits k' id r.away r.seat r.whereabouts) views id (Keeper k') r.views_fit (others mine.0) (refl, refl);
          chair_is = set_here views id (Keeper k') (at_below views id (Keeper r.keeper) at);
          sits = λ n e.
              let old = r.sits n (ap (λ g. awaits g n) (sym given) ∙ e) in
              (old.0, set_else views id (r.seat n) (Keeper k') (views_apart views (r.seat n) id (Sender old.0) (Keeper r.keeper) old.1 at (not_keeper old.0 r.keeper)) ∙ old.1, old.2);
        },
        refl,
      )
    where
      others : r.chair ≡ id → (j : ℕ) (u : View) → j ≢ id → Fits r.keeper r.chair r.away r.seat r.whereabouts j u → Fits k' id r.away r.seat r.whereabouts j u
      others here j (Keeper x) ne f = absurd (ne (sym f.0 ∙ here))
      others here j (Turn g) ne f = ⊎_elim
          (λ (t : (k'.turn ≡ r.keeper.turn) × (k'.history ≡ r.keeper.history)). (f.0, t.0 ∙ f.1, f.2 ∙ sym t.1))
          (λ (t : r.keeper.turn ≢ Away). absurd (t f.1))
          turn
      others here j Spent ne f = f
      others here j (Sender u) ne f = record {
        seated = f.seated;
        given = ap (λ g. awaits g u.number) given ∙ f.given;
        placed = f.placed;
        begins = begins_trans k'.history r.keeper.history u.front grows f.begins;
        since = (let s = f.since in omega (arith, ap (λ g. since_of g u.number) since));
        behind = λ c a m aw e gone. ⊎_elim
            (λ (t : (old : List Bool) × (standing_at r.keeper.standings a ≡ Retired c m old)). f.behind c a m t.0 e t.1)
            (λ (t : size r.keeper.history ≤ m). let s = begins_length r.keeper.history u.front f.begins in omega arith)
            (behind c a m aw gone);
      }
