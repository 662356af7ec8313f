-- The keeper's steps are allowed by the rule, in the form that the table asks for.
use Rattle.std.proofs.Common.{◌≡◌, ◌≢◌, ℕ, suc, ◌+◌, ◌-◌, ◌<◌, ◌≤◌, List, [], ◌∷◌, ◌++◌, length, false, None, sym, ap, ◌∙◌, subst, arith}
use Rattle.std.specs.Prelude.{slice_index, slice_set, ◌==◌}
use mathlib.Core.Option.{some, none}
use lib.ListN.{get_elem?}
use Rattle.atomic_table.specs.Table.{State, step, keeps, carried_after, Allows, Splits, Joins}
use Rattle.atomic_table.proofs.Lists.{set_here}
use Rattle.msg_names.specs.declared.value.ClassRef.{ClassRef}
use Rattle.msg_buckets.specs.Word.{sel_of, imp_of}
use Rattle.msg_tables.specs.Origin.{OriginView, class_total}
use Rattle.msg_tables.specs.declared.change.Change.{Change}
use Rattle.msg_tables.specs.History.{History, log}
use Rattle.msg_tables.specs.Several.{refusal_of_all}
use Rattle.msg_model.specs.declared.state.Standing.TheVariants.{Free, Live}
use Rattle.msg_model.specs.declared.state.Whereabouts.TheVariants.{Out}
use Rattle.msg_model.specs.State.{Layout, capacity, size, awaits}
use Rattle.msg_model.specs.View.{standing_at}
use Rattle.msg_model.proofs.KeepLemmas.{moves}
use Rattle.msg_cache.specs.declared.view.SenderView.{SenderView}
use Rattle.msg_cache.specs.declared.view.TurnAt.TheVariants.{Away, Home}
use Rattle.msg_cache.specs.declared.view.KeeperView.{KeeperView}
use Rattle.msg_cache.specs.declared.view.View.{View}
use Rattle.msg_cache.specs.declared.view.View.TheVariants.{Sender, Keeper, Turn, Spent}
use Rattle.msg_cache.specs.Layout.{SettingView, layout_of, header_at, base, stamp_at, probe_at}
use Rattle.msg_model.specs.Stamps.{last_affected}
use Rattle.msg_cache.specs.Rule.{HasNoEntry, LiveWordsAgreeAfter, NoneIsGivenFrom, StampsAreClosedFor, live_in, word_in, Ruled, RuledBy, IsTidy, TidyBy, holds, shown_by}
use Rattle.msg_cache.specs.Plays.{Sat, keeper_of, stored, flushed, installed, committed, looked, rest_looked, given_out, taken_in, newcomer_with, lent, at_home, kept, IsTold, Stores, Flushes, Installs, Commits, Looks, RestLooks, Witnesses}
use Rattle.msg_cache.proofs.LayoutLemmas.{header_same}
use Rattle.msg_model.proofs.LegalSteps.{may_commit}
use Rattle.msg_cache.proofs.KeeperLemmas.{fill_step, clear_step, stamp_step, commit_step, flush_step, install_step, look_step, idle_step}
use Rattle.msg_cache.proofs.NobodyLemmas.{rest_step}
use Rattle.msg_cache.proofs.SeatLemmas.{at_below}
use Rattle.msg_cache.proofs.TokenLemmas.{give_step, take_step, lend_step, home_step}

-- the rule makes the keeper's view sound by itself
pub tidy_of : (look : History → ClassRef → ℕ → ℕ) (z : Layout) (origin : OriginView) (words : List ℕ) (views : List View) (r : Ruled look z origin words views) → IsTidy look z origin r.keeper
tidy_of look z origin words views r =
    let k = r.keeper in
    record {
      kept = r.kept;
      sound = moves look z k.history (live_in z k.words) (live_in z k.words) (word_in z k.words) (word_in z k.words) (standing_at k.standings) (standing_at k.standings) r.whereabouts (λ n. Out) r.sound (λ n c a e. absurd (cc));
    }

module _ (look : History → ClassRef → ℕ → ℕ) (key : SettingView) (slots id : ℕ) (m : Sat) (is : m ≡ kept (keeper_of m.0)) where
  -- the rule's keeper is this one
  own : (st : State ℕ View) (r : holds look key st) → get_elem? st.views id ≡ some m.0 → r.keeper ≡ keeper_of m.0
  own st r at = (r.views_fit id (Keeper (keeper_of m.0)) (at ∙ ap (λ (x : Sat). some x.0) is)).1

  at_own : (st : State ℕ View) (r : holds look key st) → get_elem? st.views id ≡ some m.0 → get_elem? st.views id ≡ some (Keeper r.keeper)
  at_own st r at = at ∙ ap (λ (x : Sat). some x.0) is ∙ ap (λ (x : KeeperView). some (Keeper x)) (sym (own st r at))

  sat_is : (x : KeeperView) → (Keeper x, m.1) ≡ kept x
  sat_is x = λ i. (Keeper x, (is i).1)

  is_told : (st : State ℕ View) (r : holds look key st) → r.keeper ≡ keeper_of m.0 → IsTold (keeper_of m.0)
  is_told st r e = subst IsTold e (r.kept.told, r.kept.home)

  pub fill_allowed : (c : ClassRef) (a p w : ℕ) → standing_at (keeper_of m.0).standings a ≡ Live c → p < capacity (layout_of key) a → slice_index (keeper_of m.0).words (base (layout_of key) a + p) ≡ 0
      → 0 < sel_of w → imp_of w ≡ look (keeper_of m.0).history c (sel_of w)
      → Allows (holds look key) slots id m (base (layout_of key) a + p) (λ _. w) (λ _. Stores (step slots (base (layout_of key) a + p) w 0 none) m w)
  fill_allowed c a p w live lt clear sel imp st r homes at bound =
      let e : r.keeper ≡ keeper_of m.0 = own st r at in
      let i : ℕ = base (layout_of key) a + p in (
        Keeper (stored i w (keeper_of m.0)),
        keeps,
        tt,
        subst (λ (x : KeeperView). RuledBy look key (slice_set st.words i w) (slice_set st.views id (Keeper (stored i w x)))) e
            (fill_step look (layout_of key) key.origin st.words st.views r id (at_own st r at) c a p w (ap (λ (x : KeeperView). standing_at x.standings a) e ∙ live) lt
            (ap (λ (x : KeeperView). slice_index x.words i) e ∙ clear) sel (imp ∙ ap (λ (x : KeeperView). look x.history c (sel_of w)) (sym e))).1.0,
        sat_is (stored i w (keeper_of m.0)),
      )

  pub clear_allowed : (a p : ℕ) → standing_at (keeper_of m.0).standings a ≡ Free → p < capacity (layout_of key) a
      → Allows (holds look key) slots id m (base (layout_of key) a + p) (λ _. 0) (λ _. Stores (step slots (base (layout_of key) a + p) 0 0 none) m 0)
  clear_allowed a p free lt st r homes at bound =
      let e : r.keeper ≡ keeper_of m.0 = own st r at in
      let i : ℕ = base (layout_of key) a + p in (
        Keeper (stored i 0 (keeper_of m.0)),
        keeps,
        tt,
        subst (λ (x : KeeperView). RuledBy look key (slice_set st.words i 0) (slice_set st.views id (Keeper (stored i 0 x)))) e
            (clear_step look (layout_of key) key.origin st.words st.views r id (at_own st r at) a p (ap (λ (x : KeeperView). standing_at x.standings a) e ∙ free) lt).1.0,
        sat_is (stored i 0 (keeper_of m.0)),
      )

  pub stamp_allowed : (c : ClassRef) (w : ℕ) → c.class < class_total key.origin → last_affected (keeper_of m.0).history c ≤ w
      → Allows (holds look key) slots id m (stamp_at (layout_of key) c) (λ _. w) (λ _. Stores (step slots (stamp_at (layout_of key) c) w 0 none) m w)
  stamp_allowed c w lt le st r homes at bound =
      let e : r.keeper ≡ keeper_of m.0 = own st r at in
      let i : ℕ = stamp_at (layout_of key) c in (
        Keeper (stored i w (keeper_of m.0)),
        keeps,
        tt,
        subst (λ (x : KeeperView). RuledBy look key (slice_set st.words i w) (slice_set st.views id (Keeper (stored i w x)))) e
            (stamp_step look (layout_of key) key.origin st.words st.views r id (at_own st r at) c w lt (subst (λ (x : KeeperView). last_affected x.history c ≤ w) (sym e) le)).0,
        sat_is (stored i w (keeper_of m.0)),
      )

  pub commit_allowed : (x : List Change) (g : History) → 0 < length x → (keeper_of m.0).turn ≡ Home g → refusal_of_all (log (keeper_of m.0).history) x ≡ None
      → StampsAreClosedFor key (keeper_of m.0) x
      → LiveWordsAgreeAfter look key (keeper_of m.0) x
      → (w : ℕ) → w ≡ size (keeper_of m.0).history + 1
      → Allows (holds look key) slots id m 0 (λ _. w) (λ _. Commits x (step slots 0 w 0 none) m w)
  commit_allowed x g filled home accepted closed good w is_w st r homes at bound =
      let e : r.keeper ≡ keeper_of m.0 = own st r at in
      let legal = may_commit look (layout_of key) (shown_by look (layout_of key) key.origin r) x (ap (λ (y : KeeperView). refusal_of_all (log y.history) x) e ∙ accepted)
      (subst (λ (y : KeeperView). LiveWordsAgreeAfter look key y x) (sym e) good) in (
        Keeper (committed x (keeper_of m.0)),
        keeps,
        tt,
        subst (λ (y : ℕ × KeeperView). RuledBy look key (slice_set st.words 0 y.0) (slice_set st.views id (Keeper (committed x y.1)))) (λ i. ((ap (λ (y : KeeperView). size y.history + 1) e ∙ sym is_w) i, e i))
            (commit_step look (layout_of key) key.origin st.words st.views r id (at_own st r at) x g filled (ap (λ (y : KeeperView). y.turn) e ∙ home) (subst (λ (y : KeeperView). StampsAreClosedFor key y x) (sym e) closed) legal).1.0,
        (sat_is (committed x (keeper_of m.0)), is_told st r e),
      )

  pub flush_allowed : (c : ClassRef) (a : ℕ) → c.class < class_total key.origin → slice_index (keeper_of m.0).words (header_at c) ≡ suc a
      → Allows (holds look key) slots id m (header_at c) (λ _. 0) (λ _. Flushes (step slots (header_at c) 0 0 none) m 0)
  flush_allowed c a lt here st r homes at bound =
      let e : r.keeper ≡ keeper_of m.0 = own st r at in (
        Keeper (flushed c (keeper_of m.0)),
        keeps,
        tt,
        subst (λ (x : KeeperView). RuledBy look key (slice_set st.words (header_at c) 0) (slice_set st.views id (Keeper (flushed c x)))) e
            (flush_step look (layout_of key) key.origin st.words st.views r id (at_own st r at) c a lt (ap (λ (x : KeeperView). slice_index x.words (header_at c)) e ∙ here)).1.0,
        λ d same. sat_is (flushed c (keeper_of m.0)) ∙ ap (λ (x : ClassRef). kept (flushed x (keeper_of m.0))) (header_same c d same),
      )

  pub install_allowed : (c : ClassRef) (a : ℕ) → c.class < class_total key.origin → a < length key.capacities → standing_at (keeper_of m.0).standings a ≡ Free
      → HasNoEntry (layout_of key) (keeper_of m.0) a
      → Allows (holds look key) slots id m (header_at c) (λ _. suc a) (λ _. Installs (step slots (header_at c) (suc a) 0 none) m (suc a))
  install_allowed c a lt al free clear st r homes at bound =
      let e : r.keeper ≡ keeper_of m.0 = own st r at in (
        Keeper (installed c a (keeper_of m.0)),
        keeps,
        tt,
        subst (λ (x : KeeperView). RuledBy look key (slice_set st.words (header_at c) (suc a)) (slice_set st.views id (Keeper (installed c a x)))) e
            (install_step look (layout_of key) key.origin st.words st.views r id (at_own st r at) c a lt al (ap (λ (x : KeeperView). standing_at x.standings a) e ∙ free)
            (λ q ql. ap (λ (x : KeeperView). slice_index x.words (base (layout_of key) a + q)) e ∙ clear q ql)).1.0,
        λ d b same one. sat_is (installed c a (keeper_of m.0)) ∙ ap (λ (x : ClassRef × ℕ). kept (installed x.0 x.1 (keeper_of m.0))) (let u : a ≡ b = cc in λ i. (header_same c d same i, u i)),
      )

  pub look_allowed : (n : ℕ) → n < key.senders → Allows (holds look key) slots id m (probe_at (layout_of key) n) (λ x. x) (Looks n (step slots (probe_at (layout_of key) n) 0 0 none) m)
  look_allowed n lt st r homes at bound =
      let e : r.keeper ≡ keeper_of m.0 = own st r at in
      let i : ℕ = probe_at (layout_of key) n in
      let f : ℕ = slice_index st.words i in (
        Keeper (looked n (f == 0) (keeper_of m.0)),
        keeps,
        tt,
        subst (λ (x : KeeperView). RuledBy look key (slice_set st.words i f) (slice_set st.views id (Keeper (looked n (f == 0) x)))) e (look_step look (layout_of key) key.origin st.words st.views r id (at_own st r at) n lt).1.0,
        sat_is (looked n (f == 0) (keeper_of m.0)),
      )

  pub rest_allowed : (n : ℕ) → n ≤ key.senders → NoneIsGivenFrom n (keeper_of m.0).given → Allows (holds look key) slots id m 0 (λ x. x) (RestLooks n key.senders (step slots 0 0 0 none) m)
  rest_allowed n le nobody st r homes at bound =
      let e : r.keeper ≡ keeper_of m.0 = own st r at in
      let d : ℕ = key.senders - n in (
        Keeper (rest_looked n d (keeper_of m.0)),
        keeps,
        tt,
        subst (λ (x : KeeperView). RuledBy look key (slice_set st.words 0 (slice_index st.words 0)) (slice_set st.views id (Keeper (rest_looked n d x)))) e
            (rest_step look (layout_of key) key.origin st.words st.views r id (at_own st r at) n d (omega arith) (λ i il. ap (λ (x : KeeperView). awaits x.given i) e ∙ nobody i il)).ruled,
        sat_is (rest_looked n d (keeper_of m.0)),
      )

  pub witness_allowed : Allows (holds look key) slots id m 0 (λ x. x) (Witnesses (step slots 0 0 0 none) m)
  witness_allowed st r homes at bound =
      let e : r.keeper ≡ keeper_of m.0 = own st r at in (
        Keeper (keeper_of m.0),
        keeps,
        tt,
        subst (λ (x : KeeperView). RuledBy look key (slice_set st.words 0 (slice_index st.words 0)) (slice_set st.views id (Keeper x))) e (idle_step look (layout_of key) key.origin st.words st.views r id (at_own st r at) 0).0,
        (sat_is (keeper_of m.0) ∙ sym is, is_told st r e),
      )

  pub give_allowed : (n : ℕ) (stamps : List (ClassRef × ℕ)) → n < key.senders → awaits (keeper_of m.0).given n ≡ false → Splits (holds look key) id m.0 (Keeper (given_out n (keeper_of m.0))) (Sender (newcomer_with n stamps (keeper_of m.0).history))
  give_allowed n stamps lt free st r at =
      let e : r.keeper ≡ keeper_of m.0 = own st r at in
      subst (λ (x : KeeperView). RuledBy look key st.words (slice_set st.views id (Keeper (given_out n x)) ++ Sender (newcomer_with n stamps x.history) ∷ [])) e
      (give_step look (layout_of key) key.origin st.words st.views r id (at_own st r at) n stamps lt (ap (λ (x : KeeperView). awaits x.given n) e ∙ free)).0

  pub lend_allowed : (keeper_of m.0).turn ≢ Away → Splits (holds look key) id m.0 (Keeper (lent (keeper_of m.0))) (Turn (keeper_of m.0).history)
  lend_allowed home st r at =
      let e : r.keeper ≡ keeper_of m.0 = own st r at in
      subst (λ (x : KeeperView). RuledBy look key st.words (slice_set st.views id (Keeper (lent x)) ++ Turn x.history ∷ [])) e
      (lend_step look (layout_of key) key.origin st.words st.views r id (at_own st r at) (λ a. home (ap (λ (x : KeeperView). x.turn) (sym e) ∙ a))).0

  pub take_allowed : (other : ℕ) (v : SenderView) → v.whereabouts ≡ Out → Joins (holds look key) id m.0 other (Sender v) (Keeper (taken_in v (keeper_of m.0))) Spent
  take_allowed other v out st r at apart there =
      let e : r.keeper ≡ keeper_of m.0 = own st r at in
      subst (λ (x : KeeperView). RuledBy look key st.words (slice_set (slice_set st.views id (Keeper (taken_in v x))) other Spent)) e
      (take_step look (layout_of key) key.origin st.words st.views r id (at_own st r at) other v apart out (ap (λ (x : KeeperView). get_elem? (slice_set st.views id (Keeper (taken_in v x))) other) e ∙ there)).0

  pub home_allowed : (other : ℕ) (g : History) → Joins (holds look key) id m.0 other (Turn g) (Keeper (at_home g (keeper_of m.0))) Spent
  home_allowed other g st r at apart there =
      let e : r.keeper ≡ keeper_of m.0 = own st r at in
      subst (λ (x : KeeperView). RuledBy look key st.words (slice_set (slice_set st.views id (Keeper (at_home g x))) other Spent)) e
      (home_step look (layout_of key) key.origin st.words st.views r id (at_own st r at) other g apart (ap (λ (x : KeeperView). get_elem? (slice_set st.views id (Keeper (at_home g x))) other) e ∙ there)).0

  -- a step of the keeper also tells what the rule says of its new view
  pub tidied : (i : ℕ) (f : ℕ → ℕ) (tells : ℕ → Sat → Type 0) → Allows (holds look key) slots id m i f tells
      → ((n : ℕ) (m' : Sat) → tells n m' → m' ≡ kept (keeper_of m'.0))
      → Allows (holds look key) slots id m i f (λ n m'. tells n m' × TidyBy look key (keeper_of m'.0))
  tidied i f tells allowed keeps_is st r homes at bound =
      let t = allowed st r homes at bound in
      let w = keeps_is (slice_index st.words i) (t.0, carried_after m.1 t.1) t.4 in
      let here : get_elem? (slice_set st.views id t.0) id ≡ some (Keeper (keeper_of t.0)) = set_here st.views id t.0 (at_below st.views id m.0 at) ∙ ap (λ (x : Sat). some x.0) w in
      let is_own : t.3.keeper ≡ keeper_of t.0 = (t.3.views_fit id (Keeper (keeper_of t.0)) here).1 in
      (t.0, t.1, t.2, t.3, (t.4, subst (TidyBy look key) is_own (tidy_of look (layout_of key) key.origin _ _ t.3)))

pub kept_is : (x : KeeperView) (m' : Sat) → m' ≡ kept x → m' ≡ kept (keeper_of m'.0)
kept_is x m' e = e ∙ ap (λ (y : Sat). kept (keeper_of y.0)) (sym e)
