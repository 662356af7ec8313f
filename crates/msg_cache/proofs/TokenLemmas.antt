-- Seats that are split off and joined: the state that is shown stays.
use Rattle.std.proofs.Common.{◌≡◌, ◌≢◌, ℕ, ◌<◌, List, [], ◌∷◌, ◌++◌, length, true, false, true≢false, refl, sym, ap, ◌∙◌, subst, ⊎_elim, arith}
use Rattle.std.specs.Prelude.{slice_set}
use Rattle.std.proofs.lemmas.Bool.Decides.{nat_tests}
use Rattle.std.proofs.lemmas.List.{get_or-set_other, get_or-set_same}
use Rattle.std.proofs.Math.ListN.{length-set}
use mathlib.Core.Option.{some}
use lib.ListN.{get_elem?}
use Rattle.atomic_table.proofs.Lists.{set_here, set_else, at_longer, at_last}
use Rattle.msg_names.specs.declared.value.ClassRef.{ClassRef}
use Rattle.msg_tables.specs.Origin.{OriginView}
use Rattle.msg_tables.specs.History.{History}
use Rattle.msg_model.specs.declared.state.Whereabouts.TheVariants.{Out}
use Rattle.msg_model.specs.State.{Layout, awaits}
use Rattle.msg_model.specs.Steps.{at}
use Rattle.msg_model.proofs.PointLemmas.{number_or, at_same, at_other}
use Rattle.msg_cache.specs.declared.view.SenderView.{SenderView}
use Rattle.msg_cache.specs.declared.view.TurnAt.TheVariants.{Away, Home}
use Rattle.msg_cache.specs.declared.view.View.{View}
use Rattle.msg_cache.specs.declared.view.View.TheVariants.{Sender, Keeper, Turn, Spent}
use Rattle.msg_cache.specs.Rule.{FitsSender, Fits, Ruled, Stays}
use Rattle.msg_cache.specs.Plays.{given_out, taken_in, newcomer_with, at_home, lent}
use Rattle.msg_cache.proofs.LayoutLemmas.{awaits_length}
use Rattle.msg_tables.proofs.BeginsLemmas.{begins_refl}
use Rattle.msg_cache.proofs.SeatLemmas.{views_set, at_last_or, at_below, views_apart, not_keeper, not_turn, not_sender}

module _ (look : History → ClassRef → ℕ → ℕ) (z : Layout) (origin : OriginView) (words : List ℕ) (views : List View) (r : Ruled look z origin words views) (id : ℕ) (at_id : get_elem? views id ≡ some (Keeper r.keeper)) where
  -- a sender's seat is not the keeper's
  seat_apart : (n : ℕ) (given : awaits r.keeper.given n ≡ true) → r.seat n ≢ id
  seat_apart n given = views_apart views (r.seat n) id (Sender (r.sits n given).0) (Keeper r.keeper) (r.sits n given).1 at_id (not_keeper (r.sits n given).0 r.keeper)

  id_below : id < length views
  id_below = at_below views id (Keeper r.keeper) at_id

  -- a seat for the sender n is split off
  pub give_step : (n : ℕ) (stamps : List (ClassRef × ℕ)) → n < z.senders → awaits r.keeper.given n ≡ false
      → Stays look z origin r words (slice_set views id (Keeper (given_out n r.keeper)) ++ Sender (newcomer_with n stamps r.keeper.history) ∷ [])
  give_step n stamps lt free =
      let k' = given_out n r.keeper in
      let seat' = at r.seat n (length views) in
      let here : r.chair ≡ id = (r.views_fit id (Keeper r.keeper) at_id).0 in
      let there : n < length r.keeper.given = let s = r.kept.given in omega arith in (
        record {
          keeper = k';
          chair = id;
          away = r.away;
          seat = seat';
          whereabouts = r.whereabouts;
          kept = record {
            words = r.kept.words;
            standings = r.kept.standings;
            given = length-set r.keeper.given n true ∙ r.kept.given;
            version = r.kept.version;
            stamps = r.kept.stamps;
            begins = r.kept.begins;
            accepted = r.kept.accepted;
            told = r.kept.told;
            home = r.kept.home;
            never = r.kept.never;
            some_sender = r.kept.some_sender;
          };
          copies = record { copied = r.copies.copied; probed = r.copies.probed; count = r.copies.count };
          sound = r.sound;
          outside = λ m e. r.outside m (⊎_elim
              (λ (eq : m ≡ n). absurd (true≢false (sym (ap (awaits k'.given) eq ∙ get_or-set_same r.keeper.given n true false there) ∙ e)))
              (λ (ne : m ≢ n). sym (get_or-set_other r.keeper.given n m true false ne) ∙ e)
              (number_or m n));
          views_fit = λ j u e. ⊎_elim
              (λ (t : get_elem? (slice_set views id (Keeper k')) j ≡ some u).
              views_set (Fits r.keeper r.chair r.away r.seat r.whereabouts) (Fits k' id r.away seat' r.whereabouts) views id (Keeper k') r.views_fit (others n free here) (refl, refl) j u t)
              (λ (t : (Sender (newcomer_with n stamps r.keeper.history) ≡ u) × (j ≡ length (slice_set views id (Keeper k')))).
              subst (λ (y : ℕ × View). Fits k' id r.away seat' r.whereabouts y.0 y.1) (λ i. (sym t.1 i, t.0 i))
              (record {
                seated = at_same r.seat n (length views) ∙ sym (length-set views id (Keeper k'));
                given = get_or-set_same r.keeper.given n true false there;
                placed = r.outside n free;
                begins = begins_refl r.keeper.history;
                since = grind (arith, nat_tests);
                behind = λ c a m aw out. absurd (cc);
              }))
              (at_last_or (slice_set views id (Keeper k')) (Sender (newcomer_with n stamps r.keeper.history)) u j e);
          chair_is = at_longer (slice_set views id (Keeper k')) _ id (Keeper k') (set_here views id (Keeper k') id_below);
          sits = λ m e. ⊎_elim
              (λ (eq : m ≡ n). (
                newcomer_with n stamps r.keeper.history,
                ap (get_elem? (slice_set views id (Keeper k') ++ Sender (newcomer_with n stamps r.keeper.history) ∷ [])) (ap seat' eq ∙ at_same r.seat n (length views))
                    ∙ at_last (slice_set views id (Keeper k')) (Sender (newcomer_with n stamps r.keeper.history)) (length views) (length-set views id (Keeper k')),
                sym eq,
              ))
              (λ (ne : m ≢ n).
              let given : awaits r.keeper.given m ≡ true = sym (get_or-set_other r.keeper.given n m true false ne) ∙ e in
              let old = r.sits m given in (
                old.0,
                ap (get_elem? (slice_set views id (Keeper k') ++ Sender (newcomer_with n stamps r.keeper.history) ∷ [])) (at_other r.seat n (length views) m ne)
                    ∙ at_longer (slice_set views id (Keeper k')) _ (r.seat m) (Sender old.0) (set_else views id (r.seat m) (Keeper k') (seat_apart m given) ∙ old.1),
                old.2,
              ))
              (number_or m n);
        },
        refl,
      )
    where
      others : (n : ℕ) → awaits r.keeper.given n ≡ false → r.chair ≡ id → (j : ℕ) (u : View) → j ≢ id → Fits r.keeper r.chair r.away r.seat r.whereabouts j u → Fits (given_out n r.keeper) id r.away (at r.seat n (length views)) r.whereabouts j u
      others n free here j (Keeper x) ne f = absurd (ne (sym f.0 ∙ here))
      others n free here j (Turn g) ne f = f
      others n free here j Spent ne f = f
      others n free here j (Sender u) ne f =
          let apart : u.number ≢ n = λ eq. true≢false (sym f.given ∙ ap (awaits r.keeper.given) eq ∙ free) in record {
            seated = at_other r.seat n (length views) u.number apart ∙ f.seated;
            given = get_or-set_other r.keeper.given n u.number true false apart ∙ f.given;
            placed = f.placed;
            begins = f.begins;
            since = (let s = f.since in grind (arith, nat_tests));
            behind = f.behind;
          }

  -- the seat of a sender that is out is joined
  pub take_step : (other : ℕ) (v : SenderView) → ¬ (other ≡ id) → v.whereabouts ≡ Out → get_elem? (slice_set views id (Keeper (taken_in v r.keeper))) other ≡ some (Sender v)
      → Stays look z origin r words (slice_set (slice_set views id (Keeper (taken_in v r.keeper))) other Spent)
  take_step other v apart out e =
      let k' = taken_in v r.keeper in
      let here : r.chair ≡ id = (r.views_fit id (Keeper r.keeper) at_id).0 in
      let was : get_elem? views other ≡ some (Sender v) = sym (set_else views id other (Keeper k') apart) ∙ e in
      let theirs : FitsSender r.keeper r.seat r.whereabouts other v = r.views_fit other (Sender v) was in (
        record {
          keeper = k';
          chair = id;
          away = r.away;
          seat = r.seat;
          whereabouts = r.whereabouts;
          kept = record {
            words = r.kept.words;
            standings = r.kept.standings;
            given = length-set r.keeper.given v.number false ∙ r.kept.given;
            version = r.kept.version;
            stamps = r.kept.stamps;
            begins = r.kept.begins;
            accepted = r.kept.accepted;
            told = theirs.begins;
            home = r.kept.home;
            never = r.kept.never;
            some_sender = r.kept.some_sender;
          };
          copies = record { copied = r.copies.copied; probed = r.copies.probed; count = r.copies.count };
          sound = r.sound;
          outside = λ m e'. ⊎_elim
              (λ (eq : m ≡ v.number). ap r.whereabouts eq ∙ theirs.placed ∙ out)
              (λ (ne : m ≢ v.number). r.outside m (sym (get_or-set_other r.keeper.given v.number m false false ne) ∙ e'))
              (number_or m v.number);
          views_fit = λ j u e'. views_set (λ j' u'. (j' ≢ other) → Fits k' id r.away r.seat r.whereabouts j' u') (Fits k' id r.away r.seat r.whereabouts) (slice_set views id (Keeper k')) other Spent
              (λ j' u' e'' ne'. views_set (Fits r.keeper r.chair r.away r.seat r.whereabouts) (λ x y. (x ≢ other) → Fits k' id r.away r.seat r.whereabouts x y) views id (Keeper k') r.views_fit
              (λ x y ne f nt. others v other theirs.seated here x y ne nt f) (λ _. (refl, refl)) j' u' e'' ne')
              (λ j' u' ne f. f ne) tt j u e';
          chair_is = set_else (slice_set views id (Keeper k')) other id Spent (λ eq. apart (sym eq)) ∙ set_here views id (Keeper k') id_below;
          sits = λ m e'.
              let other_number : m ≢ v.number = λ eq. true≢false (sym e' ∙ ap (awaits k'.given) eq ∙ get_or-set_same r.keeper.given v.number false false (awaits_length r.keeper.given v.number theirs.given)) in
              let given : awaits r.keeper.given m ≡ true = sym (get_or-set_other r.keeper.given v.number m false false other_number) ∙ e' in
              let old = r.sits m given in
              let away : r.seat m ≢ other = views_apart views (r.seat m) other (Sender old.0) (Sender v) old.1 was (not_sender old.0 v (λ eq. other_number (sym old.2 ∙ eq))) in
              (old.0, set_else (slice_set views id (Keeper k')) other (r.seat m) Spent away ∙ set_else views id (r.seat m) (Keeper k') (seat_apart m given) ∙ old.1, old.2);
        },
        refl,
      )
    where
      others : (v : SenderView) (other : ℕ) → r.seat v.number ≡ other → r.chair ≡ id → (j : ℕ) (u : View) → j ≢ id → j ≢ other → Fits r.keeper r.chair r.away r.seat r.whereabouts j u
          → Fits (taken_in v r.keeper) id r.away r.seat r.whereabouts j u
      others v other is here j (Keeper x) ne nt f = absurd (ne (sym f.0 ∙ here))
      others v other is here j (Turn g) ne nt f = f
      others v other is here j Spent ne nt f = f
      others v other is here j (Sender u) ne nt f = record {
        seated = f.seated;
        given = get_or-set_other r.keeper.given v.number u.number false false (λ eq. nt (sym f.seated ∙ ap r.seat eq ∙ is)) ∙ f.given;
        placed = f.placed;
        begins = f.begins;
        since = f.since;
        behind = f.behind;
      }

  -- the turn is split off
  pub lend_step : r.keeper.turn ≢ Away → Stays look z origin r words (slice_set views id (Keeper (lent r.keeper)) ++ Turn r.keeper.history ∷ [])
  lend_step home =
      let k' = lent r.keeper in
      let here : r.chair ≡ id = (r.views_fit id (Keeper r.keeper) at_id).0 in (
        record {
          keeper = k';
          chair = id;
          away = length views;
          seat = r.seat;
          whereabouts = r.whereabouts;
          kept = record {
            words = r.kept.words;
            standings = r.kept.standings;
            given = r.kept.given;
            version = r.kept.version;
            stamps = r.kept.stamps;
            begins = r.kept.begins;
            accepted = r.kept.accepted;
            told = r.kept.told;
            home = λ g e. absurd (cc);
            never = λ e. absurd (cc);
            some_sender = r.kept.some_sender;
          };
          copies = record { copied = r.copies.copied; probed = r.copies.probed; count = r.copies.count };
          sound = r.sound;
          outside = r.outside;
          views_fit = λ j u e. ⊎_elim
              (λ (t : get_elem? (slice_set views id (Keeper k')) j ≡ some u).
              views_set (Fits r.keeper r.chair r.away r.seat r.whereabouts) (Fits k' id (length views) r.seat r.whereabouts) views id (Keeper k') r.views_fit (others home here) (refl, refl) j u t)
              (λ (t : (Turn r.keeper.history ≡ u) × (j ≡ length (slice_set views id (Keeper k')))).
              subst (λ (y : ℕ × View). Fits k' id (length views) r.seat r.whereabouts y.0 y.1) (λ i. (sym t.1 i, t.0 i)) (sym (length-set views id (Keeper k')), refl, refl))
              (at_last_or (slice_set views id (Keeper k')) (Turn r.keeper.history) u j e);
          chair_is = at_longer (slice_set views id (Keeper k')) _ id (Keeper k') (set_here views id (Keeper k') id_below);
          sits = λ m given.
              let old = r.sits m given in
              (old.0, at_longer (slice_set views id (Keeper k')) _ (r.seat m) (Sender old.0) (set_else views id (r.seat m) (Keeper k') (seat_apart m given) ∙ old.1), old.2);
        },
        refl,
      )
    where
      others : r.keeper.turn ≢ Away → r.chair ≡ id → (j : ℕ) (u : View) → j ≢ id → Fits r.keeper r.chair r.away r.seat r.whereabouts j u → Fits (lent r.keeper) id (length views) r.seat r.whereabouts j u
      others home here j (Keeper x) ne f = absurd (ne (sym f.0 ∙ here))
      others home here j (Turn g) ne f = absurd (home f.1)
      others home here j Spent ne f = f
      others home here j (Sender u) ne f = record { seated = f.seated; given = f.given; placed = f.placed; begins = f.begins; since = f.since; behind = f.behind }

  -- the turn's seat is joined
  pub home_step : (other : ℕ) (g : History) → ¬ (other ≡ id) → get_elem? (slice_set views id (Keeper (at_home g r.keeper))) other ≡ some (Turn g)
      → Stays look z origin r words (slice_set (slice_set views id (Keeper (at_home g r.keeper))) other Spent)
  home_step other g apart e =
      let k' = at_home g r.keeper in
      let here : r.chair ≡ id = (r.views_fit id (Keeper r.keeper) at_id).0 in
      let was : get_elem? views other ≡ some (Turn g) = sym (set_else views id other (Keeper k') apart) ∙ e in
      let theirs : (r.away ≡ other) × (r.keeper.turn ≡ Away) × (g ≡ r.keeper.history) = r.views_fit other (Turn g) was in (
        record {
          keeper = k';
          chair = id;
          away = r.away;
          seat = r.seat;
          whereabouts = r.whereabouts;
          kept = record {
            words = r.kept.words;
            standings = r.kept.standings;
            given = r.kept.given;
            version = r.kept.version;
            stamps = r.kept.stamps;
            begins = r.kept.begins;
            accepted = r.kept.accepted;
            told = r.kept.told;
            home = λ g' e'. sym (home_is g g' e') ∙ theirs.2;
            never = λ e'. absurd (cc);
            some_sender = r.kept.some_sender;
          };
          copies = record { copied = r.copies.copied; probed = r.copies.probed; count = r.copies.count };
          sound = r.sound;
          outside = r.outside;
          views_fit = λ j u e'. views_set (λ j' u'. (j' ≢ other) → Fits k' id r.away r.seat r.whereabouts j' u') (Fits k' id r.away r.seat r.whereabouts) (slice_set views id (Keeper k')) other Spent
              (λ j' u' e'' ne'. views_set (Fits r.keeper r.chair r.away r.seat r.whereabouts) (λ x y. (x ≢ other) → Fits k' id r.away r.seat r.whereabouts x y) views id (Keeper k') r.views_fit
              (λ x y ne f nt. others other g theirs.0 here x y ne nt f) (λ _. (refl, refl)) j' u' e'' ne')
              (λ j' u' ne f. f ne) tt j u e';
          chair_is = set_else (slice_set views id (Keeper k')) other id Spent (λ eq. apart (sym eq)) ∙ set_here views id (Keeper k') id_below;
          sits = λ m given.
              let old = r.sits m given in
              let away : r.seat m ≢ other = views_apart views (r.seat m) other (Sender old.0) (Turn g) old.1 was (not_turn old.0 g) in
              (old.0, set_else (slice_set views id (Keeper k')) other (r.seat m) Spent away ∙ set_else views id (r.seat m) (Keeper k') (seat_apart m given) ∙ old.1, old.2);
        },
        refl,
      )
    where
      home_is : (g g' : History) → Home g ≡ Home g' → g ≡ g'
      home_is g g' e = cc

      others : (other : ℕ) (g : History) → r.away ≡ other → r.chair ≡ id → (j : ℕ) (u : View) → j ≢ id → j ≢ other → Fits r.keeper r.chair r.away r.seat r.whereabouts j u → Fits (at_home g r.keeper) id r.away r.seat r.whereabouts j u
      others other g is here j (Keeper x) ne nt f = absurd (ne (sym f.0 ∙ here))
      others other g is here j (Turn g') ne nt f = absurd (nt (sym f.0 ∙ is))
      others other g is here j Spent ne nt f = f
      others other g is here j (Sender u) ne nt f = record { seated = f.seated; given = f.given; placed = f.placed; begins = f.begins; since = f.since; behind = f.behind }
