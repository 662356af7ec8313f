-- Flushes, one after another: what they note and count.
use Rattle.std.proofs.Common.{◌≡◌, ◌≢◌, ℕ, zero, suc, ◌+◌, ◌*◌, ◌<◌, ◌⊎◌, inl, inr, List, length, Bool, true, false, Some, None, cond, get_or, refl, sym, ap, ◌∙◌, subst, ⊎_elim, arith}
use Rattle.std.specs.Prelude.{slice_index, slice_set}
use Rattle.std.specs.List.{filter}
use Rattle.std.proofs.lemmas.List.{get_or-set_other, get_or-set_same}
use Rattle.std.proofs.lemmas.List.Sums.{length-filter, sum_by-set}
use Rattle.msg_names.specs.ClassRef.{slot_of}
use Rattle.msg_names.specs.declared.value.ClassRef.{ClassRef}
use Rattle.msg_names.proofs.ClassRefLemmas.{slot_of-inside, slot_of-same}
use Rattle.msg_tables.specs.History.{History}
use Rattle.msg_tables.specs.Origin.{class_total}
use Rattle.msg_tables.specs.declared.change.Change.{Change}
use Rattle.msg_model.specs.declared.state.Standing.{Standing}
use Rattle.msg_model.specs.declared.state.Standing.TheVariants.{Free, Live, Retired}
use Rattle.msg_model.specs.State.{Layout, capacity, size}
use Rattle.msg_model.specs.Steps.{at_class, everyone}
use Rattle.msg_model.specs.View.{standing_at}
use Rattle.msg_model.proofs.PointLemmas.{class_or, number_or, at_class_same, at_class_other}
use Rattle.msg_cache.specs.Counts.{after_flush}
use Rattle.msg_cache.specs.Flushes.{IsLost, IsRetired, KeepsArray, LosesArray, OnlyFlushes, after_flushes, retired_count}
use Rattle.msg_cache.specs.Keeping.{InOrder, header, is_retired, remember, standing_of}
use Rattle.msg_cache.specs.Layout.{SettingView, layout_of, stamp_at}
use Rattle.msg_cache.specs.Ours.{OnlyFlushesIn, closed, is_closed, view}
use Rattle.msg_cache.specs.Plays.{committed, flushed, lent, retire, stored}
use Rattle.msg_cache.specs.Rule.{live_in, named}
use Rattle.msg_cache.specs.declared.answer.Report.{Report}
use Rattle.msg_cache.specs.Views.{ArenaView, layout}
use Rattle.msg_cache.specs.declared.keeper.Keeper.{Keeper}
use Rattle.msg_cache.specs.declared.keeper.TheConstants.{CLOSED}
use Rattle.msg_cache.specs.declared.view.KeeperView.{KeeperView}
use Rattle.msg_cache.proofs.OrderLemmas.{header_live, live_array}
use Rattle.msg_cache.proofs.ShownLemmas.{live_is, live_set, live_stamp, live_version}

-- a count of flushes is that of the first ones, and then that of the others
flushes-add : (n m : ℕ) (r : Report) → after_flushes n (after_flushes m r) ≡ after_flushes (n + m) r
flushes-add zero m r = let e : m ≡ 0 + m = omega arith in ap (λ (k : ℕ). after_flushes k r) e
flushes-add (suc n) m r = let e : suc (n + m) ≡ suc n + m = omega arith in ap after_flush (flushes-add n m r) ∙ ap (λ (k : ℕ). after_flushes k r) e

none-some : {A : Type 0} (x : A) → None ≡ Some x → ⊥
none-some x e = cc

-- nothing is flushed where arrays, their standings, what is remembered and the counts stay
pub only-same : (z : Layout) (k k' : KeeperView) (m : List ℕ) (r : Report) → live_in z k'.words ≡ live_in z k.words → k'.standings ≡ k.standings → OnlyFlushes z k k' m m r r
only-same z k k' m r live standings = record {
  each = λ c lt. inl (ap (λ f. f c) live, refl);
  retired = λ a. (λ r. inl (sym (same a) ∙ r), λ e. ⊎_elim (λ r. same a ∙ r) (λ lost. absurd (stays a lost)) e);
  counted = (0, omega (arith, ap (λ (l : List Standing). length (filter is_retired l)) standings), refl);
}
  where
    same : (a : ℕ) → is_retired (standing_of k' a) ≡ is_retired (standing_of k a)
    same a = ap (λ (l : List Standing). is_retired (standing_at l a)) standings

    stays : (a : ℕ) → IsLost z k k' a → ⊥
    stays a (c, lt, some, none) = none-some a (sym none ∙ ap (λ f. f c) live ∙ some)

pub only-on : (z : Layout) (k j l : KeeperView) (m n o : List ℕ) (r s t : Report) → OnlyFlushes z k j m n r s → OnlyFlushes z j l n o s t → OnlyFlushes z k l m o r t
only-on z k j l m n o r s t one two = record {
  each = λ c lt. at c (one.each c lt) (two.each c lt);
  retired = λ a. (
    λ r. ⊎_elim (λ was. ⊎_elim inl (λ lost. inr (first a lost)) ((one.retired a).0 was)) (λ lost. inr (second a lost)) ((two.retired a).0 r),
    λ e. (two.retired a).1 (⊎_elim (λ was. inl ((one.retired a).1 (inl was))) (whole a) e),
  );
  counted =
      let (a, first, was) = one.counted in
      let (b, then, is) = two.counted in
      (b + a, omega (arith, first, then), is ∙ ap (after_flushes b) was ∙ flushes-add b a r);
}
  where
    at : (c : ClassRef) → KeepsArray z k j m n c ⊎ LosesArray z k j m n c → KeepsArray z j l n o c ⊎ LosesArray z j l n o c → KeepsArray z k l m o c ⊎ LosesArray z k l m o c
    at c (inl p) (inl q) = inl (q.0 ∙ p.0, q.1 ∙ p.1)
    at c (inl p) (inr (a, live, none, size)) = inr (a, sym p.0 ∙ live, none, size)
    at c (inr (a, live, none, size)) (inl q) = inr (a, live, q.0 ∙ none, q.1 ∙ size)
    at c (inr (a, live, none, size)) (inr (b, alive, gone, long)) = absurd (none-some b (sym none ∙ alive))

    -- what was lost stays lost
    first : (a : ℕ) → IsLost z k j a → IsLost z k l a
    first a (c, lt, some, none) = by (two.each c lt)
      where
        by : KeepsArray z j l n o c ⊎ LosesArray z j l n o c → IsLost z k l a
        by (inl q) = (c, lt, some, q.0 ∙ none)
        by (inr (b, alive, gone, long)) = absurd (none-some b (sym none ∙ alive))

    -- what is lost at last was live at first
    second : (a : ℕ) → IsLost z j l a → IsLost z k l a
    second a (c, lt, some, none) = by (one.each c lt)
      where
        by : KeepsArray z k j m n c ⊎ LosesArray z k j m n c → IsLost z k l a
        by (inl p) = (c, lt, sym p.0 ∙ some, none)
        by (inr (b, alive, gone, long)) = absurd (none-some a (sym gone ∙ some))

    -- what is lost was lost in one of the two
    whole : (a : ℕ) → IsLost z k l a → IsRetired j a ⊎ IsLost z j l a
    whole a (c, lt, some, none) = by (one.each c lt)
      where
        by : KeepsArray z k j m n c ⊎ LosesArray z k j m n c → IsRetired j a ⊎ IsLost z j l a
        by (inl p) = inr (c, lt, p.0 ∙ some, none)
        by (inr (b, alive, gone, long)) = inl ((one.retired a).1 (inr (c, lt, some, gone)))

-- ---- a class reference is closed, and its array taken away

module _ (look : History → ClassRef → ℕ → ℕ) (key : SettingView) (k : KeeperView) (m has : List ℕ) (kept : InOrder look key k m has) (r : Report) (c : ClassRef) (lt : c.class < class_total key.origin) where
  inside : slot_of c < length m
  inside = let t = slot_of-inside c (class_total key.origin) (2 * class_total key.origin) refl lt in omega (arith, kept.classes)

  -- one array more is retired
  more-retired : (a : ℕ) → header k c ≡ suc a → retired_count (flushed c k) ≡ retired_count k + 1
  more-retired a e =
      let alive : standing_of k a ≡ Live c = header_live look key k kept.tidy c a lt e in
      let below : a < length k.standings = let i = live_array look key k kept.tidy c a alive in omega (arith, i, kept.tidy.kept.standings) in
      let retired : Standing = Retired c (size k.history) (everyone (length k.given)) in
      let f : Standing → ℕ = λ s. cond (is_retired s) 1 0 in
      let sums = sum_by-set f k.standings a retired Free below in
      let was : f (get_or k.standings a Free) ≡ 0 = ap f alive in
      ap (λ (n : ℕ). length (filter is_retired (retire_by n))) e
      ∙ omega (arith, length-filter is_retired (slice_set k.standings a retired), length-filter is_retired k.standings, sums, was)
    where
      retire_by : ℕ → List Standing
      retire_by n = retire c (named n) k

  -- what the array of the class reference is for, and what another one is for
  module _ (a : ℕ) (e : header k c ≡ suc a) where
    abbrev gone : Standing
    gone = Retired c (size k.history) (everyone (length k.given))

    now : (b : ℕ) → standing_of (flushed c k) b ≡ standing_at (slice_set k.standings a gone) b
    now b = ap (λ (n : ℕ). standing_at (retire c (named n) k) b) e

    is-gone : is_retired (standing_of (flushed c k) a) ≡ true
    is-gone =
        let alive : standing_of k a ≡ Live c = header_live look key k kept.tidy c a lt e in
        let below : a < length k.standings = let i = live_array look key k kept.tidy c a alive in omega (arith, i, kept.tidy.kept.standings) in
        ap is_retired (now a ∙ get_or-set_same k.standings a gone Free below)

    stays : (b : ℕ) → b ≢ a → is_retired (standing_of (flushed c k) b) ≡ is_retired (standing_of k b)
    stays b ne = ap is_retired (now b ∙ get_or-set_other k.standings a b gone Free ne)

    live-is : (d : ClassRef) → live_in (layout_of key) (flushed c k).words d ≡ at_class (live_in (layout_of key) k.words) c None d
    live-is d = ap (λ f. f d) (live_set (layout_of key) k.words c 0 lt kept.tidy.kept.words)

    is-lost : IsLost (layout_of key) k (flushed c k) a
    is-lost = (c, lt, live_is (layout_of key) k.words c lt ∙ ap named e, live-is c ∙ at_class_same (live_in (layout_of key) k.words) c None)

    to : (b : ℕ) → IsRetired (flushed c k) b → IsRetired k b ⊎ IsLost (layout_of key) k (flushed c k) b
    to b r = ⊎_elim (λ (same : b ≡ a). inr (subst (λ (x : ℕ). IsLost (layout_of key) k (flushed c k) x) (sym same) is-lost)) (λ (ne : b ≢ a). inl (sym (stays b ne) ∙ r)) (number_or b a)

    -- only this class reference lost one
    lost-one : (b : ℕ) → IsLost (layout_of key) k (flushed c k) b → b ≡ a
    lost-one b (d, inside_d, some, none) = ⊎_elim
        (λ (same : d ≡ c). one (sym some ∙ ap (live_in (layout_of key) k.words) same ∙ live_is (layout_of key) k.words c lt ∙ ap named e))
        (λ (ne : d ≢ c). absurd (none-some b (sym none ∙ live-is d ∙ at_class_other (live_in (layout_of key) k.words) c None d ne ∙ some)))
        (class_or d c)
      where
        one : Some b ≡ Some a → b ≡ a
        one same = cc

    from : (b : ℕ) → IsRetired k b ⊎ IsLost (layout_of key) k (flushed c k) b → IsRetired (flushed c k) b
    from b (inl r) = ⊎_elim (λ (same : b ≡ a). ap (λ (x : ℕ). is_retired (standing_of (flushed c k) x)) same ∙ is-gone) (λ (ne : b ≢ a). stays b ne ∙ r) (number_or b a)
    from b (inr lost) = ap (λ (x : ℕ). is_retired (standing_of (flushed c k) x)) (lost-one b lost) ∙ is-gone

  pub only-flushed : (b : Bool) → (b ≡ true → (a : ℕ) × (header k c ≡ suc a)) → (b ≡ false → header k c ≡ 0)
      → OnlyFlushes (layout_of key) k (cond b (flushed c k) k) m (remember (layout_of key) c (header k c) m) r (cond b (after_flush r) r)
  only-flushed true some none =
      let (a, e) = some refl in
      subst (λ (n : ℕ). OnlyFlushes (layout_of key) k (flushed c k) m (remember (layout_of key) c n m) r (after_flush r)) (sym e) record {
        each = λ d inside_d. ⊎_elim (λ (eq : d ≡ c). let (was, none, long) = lost a e d eq in inr (a, was, none, long)) (λ (ne : d ≢ c). inl (other a d ne)) (class_or d c);
        retired = λ b. (to a e b, from a e b);
        counted = (1, more-retired a e, refl);
      }
    where
      lost : (a : ℕ) → header k c ≡ suc a → (d : ClassRef) → d ≡ c
          → (live_in (layout_of key) k.words d ≡ Some a) × (live_in (layout_of key) (flushed c k).words d ≡ None) × (slice_index (slice_set m (slot_of c) (capacity (layout_of key) a)) (slot_of d) ≡ capacity (layout_of key) a)
      lost a e d eq = subst (λ (x : ClassRef). (live_in (layout_of key) k.words x ≡ Some a) × (live_in (layout_of key) (flushed c k).words x ≡ None) × (slice_index (slice_set m (slot_of c) (capacity (layout_of key) a)) (slot_of x) ≡ capacity (layout_of key) a)) (sym eq) (
        live_is (layout_of key) k.words c lt ∙ ap named e,
        ap (λ f. f c) (live_set (layout_of key) k.words c 0 lt kept.tidy.kept.words) ∙ at_class_same (live_in (layout_of key) k.words) c None,
        get_or-set_same m (slot_of c) (capacity (layout_of key) a) 0 inside,
      )

      other : (a : ℕ) (d : ClassRef) → d ≢ c → KeepsArray (layout_of key) k (flushed c k) m (slice_set m (slot_of c) (capacity (layout_of key) a)) d
      other a d ne = (
        ap (λ f. f d) (live_set (layout_of key) k.words c 0 lt kept.tidy.kept.words) ∙ at_class_other (live_in (layout_of key) k.words) c None d ne,
        get_or-set_other m (slot_of c) (slot_of d) (capacity (layout_of key) a) 0 (λ e. ne (slot_of-same d c e)),
      )
  only-flushed false some none = subst (λ (n : ℕ). OnlyFlushes (layout_of key) k k m (remember (layout_of key) c n m) r r) (sym (none refl)) (only-same (layout_of key) k k m r refl refl)

-- a close flushes nothing
pub only-closed : (z : Layout) (c : ClassRef) (k : KeeperView) (m : List ℕ) (r : Report) → OnlyFlushes z k (closed z c k) m m r r
only-closed z c k m r = at (is_closed z k c)
  where
    at : (b : Bool) → OnlyFlushes z k (cond b k (stored (stamp_at z c) CLOSED k)) m m r r
    at true = only-same z k k m r refl refl
    at false = only-same z k (stored (stamp_at z c) CLOSED k) m r (live_stamp z k.words c CLOSED) refl

-- nor does a commit
pub only-committed : (z : Layout) (xs : List Change) (k : KeeperView) (m : List ℕ) (r : Report) → OnlyFlushes z k (lent (committed xs k)) m m r r
only-committed z xs k m r = only-same z k (lent (committed xs k)) m r (live_version z k.words (size k.history + 1)) refl

-- ---- the same, of keepers

pub only-same_in : (a : ArenaView) (k : Keeper) → OnlyFlushesIn a k k
only-same_in a k = only-same (layout a) (view k) (view k) k.remembered.items k.report refl refl

pub only-on_in : (a : ArenaView) (k j l : Keeper) → OnlyFlushesIn a k j → OnlyFlushesIn a j l → OnlyFlushesIn a k l
only-on_in a k j l one two =
    only-on (layout a) (view k) (view j) (view l) k.remembered.items j.remembered.items l.remembered.items k.report j.report l.report one two
