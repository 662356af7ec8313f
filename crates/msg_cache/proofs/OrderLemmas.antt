-- What each of the keeper's changes leaves between calls.
use Rattle.std.proofs.Common.{◌≡◌, ◌≢◌, ℕ, zero, suc, ◌+◌, ◌-◌, ◌*◌, ◌<◌, ◌≤◌, List, [], ◌∷◌, map, length, take, drop, get_or, Bool, true, false, cond, refl, sym, ap, ◌∙◌, subst, ⊎_elim, arith, eq-eqb, ne_eqb}
use Rattle.msg_tables.specs.Origin.{class_total}
use Rattle.msg_tables.specs.Origin.{IsSound}
use Rattle.std.specs.Prelude.{slice_index, slice_index_or, slice_set, replicate, find, ◌&&◌, ◌==◌, nat_le, nat_lt, Option, Some, None, MatchOption, IfSome, IfNone}
use Rattle.std.specs.List.{range_with_len}
use Rattle.std.specs.Int.{trailing_zeros}
use Rattle.std.proofs.lemmas.List.{get_or-set_other, get_or-set_same, length-replicate, get_or_default, drop-set-add, drop-set-lt}
use Rattle.std.proofs.lemmas.Bool.{and_parts, eqb-true, leb-true, ltb-true}
use Rattle.std.proofs.Math.ListN.{length-set}
use lib.Seq.{take-set-lt}
use lib.Count.{count_trailing_zeros}
use mir.Syntax.{w32}
use Rattle.msg_names.specs.declared.value.ClassRef.{ClassRef}
use Rattle.msg_tables.specs.declared.change.Change.{Change}
use Rattle.msg_buckets.specs.Word.{sel_of}
use Rattle.msg_buckets.specs.Capacity.{IsCapacity, fill_limit, capacities, plan_of}
use Rattle.msg_buckets.specs.Probing.{empty, probe_place}
use Rattle.msg_buckets.specs.Array.{find_in, occupied_in}
use Rattle.msg_buckets.proofs.EndLemmas.{empty_at}
use Rattle.msg_buckets.proofs.PutLemmas.{occupied-written, occupied_in-fresh, find_in-fresh}
use Rattle.msg_buckets.proofs.CapacityLemmas.{capacity_passes, capacity_bounds}
use Rattle.msg_tables.specs.History.{History}
use Rattle.msg_names.specs.ClassRef.{slot_of}
use Rattle.msg_names.proofs.ClassRefLemmas.{slot_of-inside}
use Rattle.msg_model.specs.declared.state.Standing.{Standing}
use Rattle.msg_model.specs.declared.state.Standing.TheVariants.{Free, Live, Retired}
use Rattle.msg_model.specs.State.{Layout, capacity, size}
use Rattle.msg_model.specs.Steps.{is_free, everyone}
use Rattle.msg_cache.specs.declared.view.SenderView.{SenderView}
use Rattle.msg_cache.specs.declared.view.KeeperView.{KeeperView}
use Rattle.msg_cache.specs.Layout.{SettingView, layout_of, header_at, base, stamp_at, probes}
use Rattle.msg_cache.specs.Rule.{TidyBy, named, first_keeper}
use Rattle.msg_cache.specs.Plays.{stored, retire, flushed, installed, committed, lent, given_out, taken_in}
use Rattle.msg_cache.proofs.LayoutLemmas.{one_place, stamp_no_bucket}
use Rattle.msg_cache.proofs.OpeningLemmas.{first_tidy}
use Rattle.msg_cache.proofs.ShownLemmas.{live_is}
use Rattle.msg_cache.specs.Keeping.{IsGroup, standing_of, array_words, header, lowest_free, looks, look_count, CollectsBy, Collects, or_least, remember, placement_in, placement_by_header, placement_of, filled, grown, FillsBy, Fills, InOrder}
use Rattle.msg_cache.specs.declared.answer.Filled.{Filled}
use Rattle.msg_cache.specs.declared.answer.Filled.TheVariants.{Grown, NoArray}
use Rattle.msg_cache.specs.declared.answer.Placement.TheVariants.{Take}
use Rattle.msg_cache.proofs.ClearingLemmas.{same_or}
use Rattle.msg_cache.specs.Uses.{ArrayUse, live, use_of, use_at, is_free_use}
use Rattle.msg_cache.proofs.SettledLemmas.{free_at, used_at}
use Rattle.msg_cache.proofs.SweepingLemmas.{array_same, array_zero, array_length, array_within, word_in, looks_rest, all_emptied_rest}

-- ---- capacities

pub group_at : (n : ℕ) → IsCapacity n → (2 ≤ trailing_zeros w32 n) × (trailing_zeros w32 n < 11) × (slice_index capacities (trailing_zeros w32 n - 2) ≡ n)
unfolding count_trailing_zeros
group_at n h =
    let p = capacity_passes (λ c. nat_le 2 (trailing_zeros w32 c) && (nat_lt (trailing_zeros w32 c) 11 && (slice_index capacities (trailing_zeros w32 c - 2) == c))) refl n h in
    let a = and_parts (nat_le 2 (trailing_zeros w32 n)) (nat_lt (trailing_zeros w32 n) 11 && (slice_index capacities (trailing_zeros w32 n - 2) == n)) p in
    let b = and_parts (nat_lt (trailing_zeros w32 n) 11) (slice_index capacities (trailing_zeros w32 n - 2) == n) a.1 in
    (leb-true 2 (trailing_zeros w32 n) a.0, ltb-true (trailing_zeros w32 n) 11 b.0, eqb-true (slice_index capacities (trailing_zeros w32 n - 2)) n b.1)

-- ---- the lowest free array

find_first : (p : ℕ → Bool) (s m i : ℕ) → i < m → p (s + i) ≡ true → ((b : ℕ) → b < i → p (s + b) ≡ false) → find p (range_with_len s m) ≡ Some (s + i)
find_first p s zero i lt here before = absurd (omega arith)
find_first p s (suc m) zero lt here before =
    let at : s + 0 ≡ s = omega arith in
    ap (λ b. cond b (Some s) (find p (range_with_len (s + 1) m))) (ap p (sym at) ∙ here) ∙ ap Some (sym at)
find_first p s (suc m) (suc i) lt here before =
    let at : s + 1 + i ≡ s + suc i = omega arith in
    let start : s ≡ s + 0 = omega arith in
    ap (λ b. cond b (Some s) (find p (range_with_len (s + 1) m))) (ap p start ∙ before 0 (omega arith))
    ∙ find_first p (s + 1) m i (omega arith) (ap p at ∙ here) (λ b lt'. ap p (let t : s + 1 + b ≡ s + suc b = omega arith in t) ∙ before (suc b) (omega arith))
    ∙ ap Some at

find_none : (p : ℕ → Bool) (s m : ℕ) → ((b : ℕ) → b < m → p (s + b) ≡ false) → find p (range_with_len s m) ≡ None
find_none p s zero none = refl
find_none p s (suc m) none =
    let start : s ≡ s + 0 = omega arith in
    ap (λ b. cond b (Some s) (find p (range_with_len (s + 1) m))) (ap p start ∙ none 0 (omega arith))
    ∙ find_none p (s + 1) m (λ b lt. ap p (let t : s + 1 + b ≡ s + suc b = omega arith in t) ∙ none (suc b) (omega arith))

module _ (z : Layout) (n : ℕ) (k : KeeperView) (from until : ℕ) (group : IsGroup z.capacities n from until) where
  -- an array that isn't in the group, or isn't free
  passed : (b : ℕ) → b < length z.capacities → (from ≤ b → b < until → is_free (standing_of k b) ≡ false) → (is_free (standing_of k b) && (capacity z b == n)) ≡ false
  passed b lt busy = ⊎_elim
      (λ (e : capacity z b ≡ n). let g = group.1 b lt e in ap (λ x. x && (capacity z b == n)) (busy g.0 g.1))
      (λ (ne : capacity z b ≢ n). ap (λ x. is_free (standing_of k b) && x) (ne_eqb (capacity z b) n ne) ∙ and_none (is_free (standing_of k b)))
      (same_or (capacity z b) n)
    where
      and_none : (x : Bool) → (x && false) ≡ false
      and_none true = refl
      and_none false = refl

  pub lowest_some : (a : ℕ) → from ≤ a → a < until → is_free (standing_of k a) ≡ true → ((b : ℕ) → from ≤ b → b < a → is_free (standing_of k b) ≡ false) → lowest_free z n k ≡ Some a
  lowest_some a low high free before =
      let lt : a < length z.capacities = omega (arith, group.0) in
      find_first (λ b. is_free (standing_of k b) && (capacity z b == n)) 0 (length z.capacities) a lt
      (ap (λ (b : ℕ). is_free (standing_of k b) && (capacity z b == n)) (let t : 0 + a ≡ a = omega arith in t) ∙ ap (λ x. x && (capacity z a == n)) free ∙ eq-eqb (capacity z a) n (group.2 a low high))
      (λ b less. ap (λ (i : ℕ). is_free (standing_of k i) && (capacity z i == n)) (let t : 0 + b ≡ b = omega arith in t) ∙ passed b (omega arith) (λ l h. before b l less))
      ∙ ap Some (let t : 0 + a ≡ a = omega arith in t)

  pub lowest_none : ((b : ℕ) → from ≤ b → b < until → is_free (standing_of k b) ≡ false) → lowest_free z n k ≡ None
  lowest_none busy =
      find_none (λ b. is_free (standing_of k b) && (capacity z b == n)) 0 (length z.capacities) (λ b lt. ap (λ (i : ℕ). is_free (standing_of k i) && (capacity z i == n)) (let t : 0 + b ≡ b = omega arith in t) ∙ passed b lt (busy b))

  -- what a search of the group found
  pub lowest_is : (uses : List ArrayUse) → uses ≡ map use_of k.standings → (o : Option ℕ) → IfNone o ((b : ℕ) → from ≤ b → b < until → is_free_use (use_at uses b) ≡ false)
      → IfSome o (λ a. (from ≤ a) × (a < until) × (is_free_use (use_at uses a) ≡ true) × ((b : ℕ) → from ≤ b → b < a → is_free_use (use_at uses b) ≡ false)) → o ≡ lowest_free z n k
  lowest_is uses are None none some = sym (lowest_none (λ b low high. free_at k.standings uses b false are (none b low high)))
  lowest_is uses are (Some a) none some = sym (lowest_some a some.0 some.1 (free_at k.standings uses a true are some.2) (λ b low high. free_at k.standings uses b false are (some.3 b low high)))

-- ---- a standing that is written over

set_other_free : (l : List Standing) (i b : ℕ) (s : Standing) → (s ≡ Free → ⊥) → slice_index_or (slice_set l i s) b Free ≡ Free → slice_index_or l b Free ≡ Free
set_other_free [] i b s ne e = e
set_other_free (x ∷ xs) zero zero s ne e = absurd (ne e)
set_other_free (x ∷ xs) zero (suc b) s ne e = e
set_other_free (x ∷ xs) (suc i) zero s ne e = e
set_other_free (x ∷ xs) (suc i) (suc b) s ne e = set_other_free xs i b s ne e

set_other_live : (l : List Standing) (i b : ℕ) (c : ClassRef) (s : Standing) → (s ≡ Live c → ⊥) → slice_index_or (slice_set l i s) b Free ≡ Live c → slice_index_or l b Free ≡ Live c
set_other_live [] i b c s ne e = e
set_other_live (x ∷ xs) zero zero c s ne e = absurd (ne e)
set_other_live (x ∷ xs) zero (suc b) c s ne e = e
set_other_live (x ∷ xs) (suc i) zero c s ne e = e
set_other_live (x ∷ xs) (suc i) (suc b) c s ne e = set_other_live xs i b c s ne e

retire_free : (c : ClassRef) (n : Option ℕ) (b : ℕ) (k : KeeperView) → slice_index_or (retire c n k) b Free ≡ Free → standing_of k b ≡ Free
retire_free c None b k e = e
retire_free c (Some a) b k e = set_other_free k.standings a b (Retired c (size k.history) (everyone (length k.given))) (λ u. not_it c (size k.history) (everyone (length k.given)) u) e
  where
    not_it : (c : ClassRef) (r : ℕ) (aw : List Bool) → Retired c r aw ≡ Free → ⊥
    not_it c r aw u = cc

retire_live : (c : ClassRef) (n : Option ℕ) (b : ℕ) (d : ClassRef) (k : KeeperView) → slice_index_or (retire c n k) b Free ≡ Live d → standing_of k b ≡ Live d
retire_live c None b d k e = e
retire_live c (Some a) b d k e = set_other_live k.standings a b d (Retired c (size k.history) (everyone (length k.given))) (λ u. not_it c (size k.history) d (everyone (length k.given)) u) e
  where
    not_it : (c : ClassRef) (r : ℕ) (d : ClassRef) (aw : List Bool) → Retired c r aw ≡ Live d → ⊥
    not_it c r d aw u = cc

-- ---- changes

-- the words of the arrays after a header store
pub header_before : (z : Layout) (c : ClassRef) (b : ℕ) → c.class < z.classes → header_at c < base z b
header_before z c b lt = let t = slot_of-inside c z.classes (2 * z.classes) refl lt in omega arith

headers_apart : (z : Layout) (ws : List ℕ) (c : ClassRef) (b w : ℕ) → c.class < z.classes → drop (base z b) (slice_set ws (header_at c) w) ≡ drop (base z b) ws
headers_apart z ws c b w lt = drop-set-lt (base z b) ws (header_at c) w (header_before z c b lt)

pub header_words : (z : Layout) (k : KeeperView) (c : ClassRef) (b w : ℕ) → c.class < z.classes → array_words z (record k { words = slice_set k.words (header_at c) w }) b ≡ array_words z k b
header_words z k c b w lt = ap (take (capacity z b)) (headers_apart z k.words c b w lt)

header_word : (z : Layout) (ws : List ℕ) (c : ClassRef) (b q w : ℕ) → c.class < z.classes → slice_index (slice_set ws (header_at c) w) (base z b + q) ≡ slice_index ws (base z b + q)
header_word z ws c b q w lt = get_or-set_other ws (header_at c) (base z b + q) w 0 (λ e. let t = header_before z c b lt in absurd (omega arith))

-- a header word that names an array, and an array that is live
pub header_live : (look : History → ClassRef → ℕ → ℕ) (key : SettingView) (k : KeeperView) → TidyBy look key k → (c : ClassRef) (a : ℕ) → c.class < class_total key.origin → header k c ≡ suc a → standing_of k a ≡ Live c
header_live look key k t c a lt e = t.sound.lawful.live_stands c a lt (live_is (layout_of key) k.words c lt ∙ ap named e)

pub live_array : (look : History → ClassRef → ℕ → ℕ) (key : SettingView) (k : KeeperView) → TidyBy look key k → (c : ClassRef) (a : ℕ) → standing_of k a ≡ Live c → a < length key.capacities
live_array look key k t c a e = t.sound.in_range.live_array c a e

module _ (look : History → ClassRef → ℕ → ℕ) (key : SettingView) (k : KeeperView) (rem has : List ℕ) (kept : InOrder look key k rem has) where
  pub live_below : (c : ClassRef) (a : ℕ) → standing_of k a ≡ Live c → a < length (layout_of key).capacities
  live_below c a e = live_array look key k kept.tidy c a e

  pub words_within : (a : ℕ) → a < length (layout_of key).capacities → base (layout_of key) a + capacity (layout_of key) a ≤ length k.words
  words_within a lt = array_within (layout_of key) k a kept.tidy.kept.words lt

  -- the place where a probe of the array ended
  pub place_in : (a p s : ℕ) → a < length (layout_of key).capacities → find_in (array_words (layout_of key) k a) s ≡ empty p
      → (p < capacity (layout_of key) a) × (slice_index k.words (base (layout_of key) a + p) ≡ 0)
  place_in a p s lt found =
      let z = layout_of key in
      let at = empty_at (array_words z k a) s p found in
      let less : p < capacity z a = omega (arith, at.1, array_length z k a (words_within a lt)) in
      (less, sym (word_in z k a p less) ∙ at.2)

  pub kept_filled : (c : ClassRef) (a p s w : ℕ) → standing_of k a ≡ Live c → find_in (array_words (layout_of key) k a) s ≡ empty p → occupied_in (array_words (layout_of key) k a) + 1 ≤ fill_limit (capacity (layout_of key) a)
      → sel_of w ≡ s → w ≢ 0 → TidyBy look key (filled (layout_of key) a p w k) → InOrder look key (filled (layout_of key) a p w k) rem (slice_set has a (slice_index has a + 1))
  kept_filled c a p s w alive found room sel some tidy =
      let z = layout_of key in
      let k' = filled z a p w k in
      let al = live_below c a alive in
      let here = place_in a p s al found in
      let put : array_words z k' a ≡ slice_set (array_words z k a) p w = ap (take (capacity z a)) (drop-set-add (base z a) k.words p w) ∙ take-set-lt (capacity z a) (drop (base z a) k.words) p w here.0 in
      let others : (b : ℕ) → b ≢ a → array_words z k' b ≡ array_words z k b = λ b ne. array_same z k k' b (length-set k.words (base z a + p) w) (λ q lt. get_or-set_other k.words (base z a + p) (base z b + q) w 0 (λ e. ne (one_place z b a q p lt here.0 e).0)) in record {
        tidy = tidy;
        cleared = λ b q free lt. get_or-set_other k.words (base z a + p) (base z b + q) w 0 (λ e. apart c (standing_of k b) free (ap (standing_of k) (one_place z b a q p lt here.0 e).0 ∙ alive)) ∙ kept.cleared b q free lt;
        counted = λ b bl. ⊎_elim
            (λ (e : b ≡ a). ap (slice_index (slice_set has a (slice_index has a + 1))) e ∙ get_or-set_same has a (slice_index has a + 1) 0 (omega (arith, kept.counts)) ∙ ap (λ (m : ℕ). m + 1) (kept.counted a al)
            ∙ sym (occupied-written (array_words z k a) s w p sel found some) ∙ ap occupied_in (sym put) ∙ ap (λ (x : ℕ). occupied_in (array_words z k' x)) (sym e))
            (λ (ne : b ≢ a). get_or-set_other has a b (slice_index has a + 1) 0 ne ∙ kept.counted b bl ∙ ap occupied_in (sym (others b ne)))
            (same_or b a);
        counts = length-set has a (slice_index has a + 1) ∙ kept.counts;
        within = λ d b e. ⊎_elim
            (λ (same : b ≡ a). let h : slice_index (slice_set has a (slice_index has a + 1)) a ≡ slice_index has a + 1 = get_or-set_same has a (slice_index has a + 1) 0 (omega (arith, kept.counts)) in
            let i : slice_index (slice_set has a (slice_index has a + 1)) b ≡ slice_index (slice_set has a (slice_index has a + 1)) a = ap (slice_index (slice_set has a (slice_index has a + 1))) same in
            let l : capacity z b ≡ capacity z a = ap (capacity z) same in let n = kept.counted a al in
            subst (λ (m : ℕ). slice_index (slice_set has a (slice_index has a + 1)) b ≤ fill_limit m) (sym l) (omega (arith, h, i, n, room)))
            (λ (ne : b ≢ a). let h = get_or-set_other has a b (slice_index has a + 1) 0 ne in omega (arith, h, kept.within d b e))
            (same_or b a);
        capacities = kept.capacities;
        classes = kept.classes;
      }
    where
      apart : (c : ClassRef) (s : Standing) → s ≡ Free → s ≡ Live c → ⊥
      apart c s e f = let u : Free ≡ Live c = sym e ∙ f in cc

  -- a free array has no entries
  pub free_array : (a : ℕ) → a < length (layout_of key).capacities → standing_of k a ≡ Free → array_words (layout_of key) k a ≡ replicate (capacity (layout_of key) a) 0
  free_array a lt free = array_zero (layout_of key) k a (words_within a lt) (λ p pl. kept.cleared a p free pl)

  pub kept_installed : (c : ClassRef) (a : ℕ) → c.class < class_total key.origin → a < length (layout_of key).capacities → standing_of k a ≡ Free → TidyBy look key (installed c a k) → InOrder look key (installed c a k) rem has
  kept_installed c a cl al free tidy =
      let z = layout_of key in
      let k' = installed c a k in
      let n = slice_index k.words (header_at c) in
      let same : (b : ℕ) → array_words z k' b ≡ array_words z k b = λ b. header_words z k c b (suc a) cl in record {
        tidy = tidy;
        cleared = λ b q e lt. header_word z k.words c b q (suc a) cl ∙ kept.cleared b q (retire_free c (named n) b k (set_other_free (retire c (named n) k) a b (Live c) (λ u. not_free c u) e)) lt;
        counted = λ b bl. kept.counted b bl ∙ ap occupied_in (sym (same b));
        counts = kept.counts;
        within = λ d b e. ⊎_elim
            (λ (eq : b ≡ a). let none : slice_index has a ≡ 0 = kept.counted a al ∙ ap occupied_in (free_array a al free) ∙ occupied_in-fresh (capacity z a) in
            let i : slice_index has b ≡ slice_index has a = ap (slice_index has) eq in omega arith)
            (λ (ne : b ≢ a). kept.within d b (retire_live c (named n) b d k (sym (get_or-set_other (retire c (named n) k) a b (Live c) Free ne) ∙ e)))
            (same_or b a);
        capacities = kept.capacities;
        classes = kept.classes;
      }
    where
      not_free : (c : ClassRef) → Live c ≡ Free → ⊥
      not_free c u = cc

  pub kept_flushed : ((a : ℕ) → a < length key.capacities → IsCapacity (capacity (layout_of key) a)) → (c : ClassRef) → c.class < class_total key.origin → TidyBy look key (flushed c k)
      → InOrder look key (flushed c k) (remember (layout_of key) c (header k c) rem) has
  kept_flushed sizes c cl tidy =
      let z = layout_of key in
      let n = slice_index k.words (header_at c) in record {
        tidy = tidy;
        cleared = λ b q e lt. header_word z k.words c b q 0 cl ∙ kept.cleared b q (retire_free c (named n) b k e) lt;
        counted = λ b bl. kept.counted b bl ∙ ap occupied_in (sym (header_words z k c b 0 cl));
        counts = kept.counts;
        within = λ d b e. kept.within d b (retire_live c (named n) b d k e);
        capacities = λ i. at n refl i;
        classes = long n ∙ kept.classes;
      }
    where
      long : (n : ℕ) → length (remember (layout_of key) c n rem) ≡ length rem
      long zero = refl
      long (suc a) = length-set rem (slot_of c) (capacity (layout_of key) a)

      some : (m : ℕ) → IsCapacity m → IsCapacity (or_least m)
      some m h = subst (λ (x : Bool). IsCapacity (cond x 4 m)) (sym (ne_eqb m 0 (λ e. absurd (omega (arith, (capacity_bounds m h).0))))) h

      at : (n : ℕ) → slice_index k.words (header_at c) ≡ n → (i : ℕ) → IsCapacity (or_least (slice_index (remember (layout_of key) c n rem) i))
      at zero e i = kept.capacities i
      at (suc a) e i = ⊎_elim
          (λ (eq : i ≡ slot_of c). let inner : slot_of c < length rem = let t = slot_of-inside c (class_total key.origin) (2 * class_total key.origin) refl cl in omega (arith, kept.classes) in
          let h : slice_index (slice_set rem (slot_of c) (capacity (layout_of key) a)) i ≡ capacity (layout_of key) a = ap (slice_index (slice_set rem (slot_of c) (capacity (layout_of key) a))) eq ∙ get_or-set_same rem (slot_of c) (capacity (layout_of key) a) 0 inner in
          subst (λ (m : ℕ). IsCapacity (or_least m)) (sym h) (some (capacity (layout_of key) a) (sizes a (live_array look key k kept.tidy c a (header_live look key k kept.tidy c a cl e)))))
          (λ (ne : i ≢ slot_of c). subst (λ (m : ℕ). IsCapacity (or_least m)) (sym (get_or-set_other rem (slot_of c) i (capacity (layout_of key) a) 0 ne)) (kept.capacities i))
          (same_or i (slot_of c))

-- ---- a collection

pub collects_by_rest : {z : Layout} {outs : List Bool} {k k' : KeeperView} → CollectsBy z outs k k' → k' ≡ record k { words = k'.words; standings = (looks (look_count z k) outs k).standings; stores = k'.stores; looked_at = (looks (look_count z k) outs k).looked_at }
collects_by_rest {z} {outs} {k} {k'} t =
    let j = looks (look_count z k) outs k in
    t.view ∙ all_emptied_rest z t.order j ∙ (λ i. record j { words = (sym t.view i).words; stores = (sym t.view i).stores }) ∙ ap (λ (x : KeeperView). record x { words = k'.words; stores = k'.stores }) (looks_rest (look_count z k) outs k)

pub collects_rest : {z : Layout} {k k' : KeeperView} {n : ℕ} → Collects z k k' n → k' ≡ record k { words = k'.words; standings = k'.standings; stores = k'.stores; looked_at = k'.looked_at }
collects_rest {z} {k} {k'} t =
    let is = collects_by_rest t.collects in
    is ∙ (λ i. record k { words = k'.words; standings = (sym is i).standings; stores = k'.stores; looked_at = (sym is i).looked_at })

-- the lowest free array doesn't depend on the clears
pub lowest_free-collects : (z : Layout) (n : ℕ) (outs : List Bool) (k k' : KeeperView) → CollectsBy z outs k k' → lowest_free z n k' ≡ lowest_free z n (looks (look_count z k) outs k)
lowest_free-collects z n outs k k' t = ap (λ (x : KeeperView). find (λ a. is_free (standing_of x a) && (capacity z a == n)) (range_with_len 0 (length z.capacities))) (collects_by_rest t)

-- ---- what a header word names

-- the header word of a class, read from the copies
pub header_read : (words l : List ℕ) (i n m : ℕ) → words ≡ l → n ≡ get_or words i n → length l ≡ m → i < m → n ≡ slice_index l i
header_read words l i n m is read long lt = read ∙ ap (λ (x : List ℕ). get_or x i n) is ∙ get_or_default l i n 0 (omega arith)

module _ (look : History → ClassRef → ℕ → ℕ) (key : SettingView) (k : KeeperView) (rem has : List ℕ) (kept : InOrder look key k rem has) where
  pub live_of : (c : ClassRef) (n : ℕ) → c.class < class_total key.origin → n ≡ header k c → n ≢ 0 → (standing_of k (n - 1) ≡ Live c) × (n - 1 < length (layout_of key).capacities) × (header k c ≡ suc (n - 1))
  live_of c n lt e some =
      let is : n ≡ suc (n - 1) = omega arith in
      let h : header k c ≡ suc (n - 1) = sym e ∙ is in
      let alive = header_live look key k kept.tidy c (n - 1) lt h in
      (alive, live_array look key k kept.tidy c (n - 1) alive, h)

  -- the array of a header word is noted as live
  pub live_used : (c : ClassRef) (n b : ℕ) (uses : List ArrayUse) → c.class < class_total key.origin → n ≡ header k c → n ≡ suc b → uses ≡ map use_of k.standings → use_at uses b ≡ live
  live_used c n b uses lt e is are =
      let at : n - 1 ≡ b = omega arith in
      ap (λ l. use_at l b) are ∙ used_at k.standings b ∙ ap (λ (x : ℕ). use_of (standing_of k x)) (sym at) ∙ ap use_of (live_of c n lt e (λ z. absurd (omega arith))).0

  pub header_small : (c : ClassRef) (n : ℕ) → c.class < class_total key.origin → n ≡ header k c → n ≤ length k.standings
  header_small c zero lt e = omega arith
  header_small c (suc a) lt e = let l = (live_of c (suc a) lt e (λ z. absurd (omega arith))).1 in let s = kept.tidy.kept.standings in omega arith

  -- where the live array's words lie among the copies
  pub live_words_are : (words copies : List ℕ) (b n a : ℕ) → words ≡ copies → copies ≡ k.words → b ≡ base (layout_of key) a → n ≡ capacity (layout_of key) a → take (b + n - b) (drop b words) ≡ array_words (layout_of key) k a
  live_words_are words copies b n a is are at size =
      let m : b + n - b ≡ capacity (layout_of key) a = omega arith in
      ap (λ (x : List ℕ). take (b + n - b) (drop b x)) (is ∙ are) ∙ ap (λ (x : ℕ). take x (drop b k.words)) m ∙ ap (λ (x : ℕ). take (capacity (layout_of key) a) (drop x k.words)) at

pub placement_by : (z : Layout) (rem : List ℕ) (k : KeeperView) (c : ClassRef) (s a : ℕ) (ws : List ℕ) → header k c ≡ suc a → ws ≡ array_words z k a → length ws ≡ capacity z a → placement_in a (find_in ws s) (plan_of (length ws) (occupied_in ws)) ≡ placement_of z rem k c s
placement_by z rem k c s a ws h is long =
    ap (λ (n : ℕ). placement_in a (find_in ws s) (plan_of n (occupied_in ws))) long
    ∙ ap (λ (x : List ℕ). placement_in a (find_in x s) (plan_of (capacity z a) (occupied_in x))) is
    ∙ ap (placement_by_header z rem k c s) (sym h)

-- an array that was installed has no entries
pub fresh_find : (look : History → ClassRef → ℕ → ℕ) (key : SettingView) (k k' : KeeperView) (rem has : List ℕ) → InOrder look key k rem has → (c : ClassRef) (a s : ℕ) → c.class < class_total key.origin → a < length (layout_of key).capacities → standing_of k a ≡ Free → 0 < capacity (layout_of key) a
    → k' ≡ installed c a k → (find_in (array_words (layout_of key) k' a) s ≡ empty (probe_place s (capacity (layout_of key) a) 0)) × (occupied_in (array_words (layout_of key) k' a) ≡ 0)
fresh_find look key k k' rem has kept c a s cl al free some is =
    let z = layout_of key in
    let ws : array_words z k' a ≡ replicate (capacity z a) 0 = ap (λ (x : KeeperView). array_words z x a) is ∙ header_words z k c a (suc a) cl ∙ free_array look key k rem has kept a al free in
    (ap (λ (x : List ℕ). find_in x s) ws ∙ find_in-fresh (capacity z a) s some, ap occupied_in ws ∙ occupied_in-fresh (capacity z a))

pub some_word : (w s : ℕ) → sel_of w ≡ s → 0 < s → w ≢ 0
some_word w s e lt zero_is = absurd (omega (arith, sym e ∙ ap sel_of zero_is))

-- ---- seats that are lent

module _ (look : History → ClassRef → ℕ → ℕ) (key : SettingView) (k : KeeperView) (rem has : List ℕ) (kept : InOrder look key k rem has) where
  pub kept_given : (n : ℕ) → TidyBy look key (given_out n k) → InOrder look key (given_out n k) rem has
  kept_given n tidy = record { tidy = tidy; cleared = kept.cleared; counted = kept.counted; counts = kept.counts; within = kept.within; capacities = kept.capacities; classes = kept.classes }

  pub kept_taken : (v : SenderView) → TidyBy look key (taken_in v k) → InOrder look key (taken_in v k) rem has
  kept_taken v tidy = record { tidy = tidy; cleared = kept.cleared; counted = kept.counted; counts = kept.counts; within = kept.within; capacities = kept.capacities; classes = kept.classes }

  pub kept_lent : TidyBy look key (lent k) → InOrder look key (lent k) rem has
  kept_lent tidy = record { tidy = tidy; cleared = kept.cleared; counted = kept.counted; counts = kept.counts; within = kept.within; capacities = kept.capacities; classes = kept.classes }

  pub kept_stamped : (c : ClassRef) (w : ℕ) → TidyBy look key (stored (stamp_at (layout_of key) c) w k) → InOrder look key (stored (stamp_at (layout_of key) c) w k) rem has
  kept_stamped c w tidy =
      let z = layout_of key in
      let i : ℕ = stamp_at z c in
      let j = stored i w k in
      let other : (a p : ℕ) → p < capacity z a → slice_index j.words (base z a + p) ≡ slice_index k.words (base z a + p) = λ a p lt. get_or-set_other k.words i (base z a + p) w 0 (λ e. stamp_no_bucket z c a p lt (sym e)) in record {
        tidy = tidy;
        cleared = λ a p e lt. other a p lt ∙ kept.cleared a p e lt;
        counted = λ a lt. kept.counted a lt ∙ ap occupied_in (sym (array_same z k j a (length-set k.words i w) (other a)));
        counts = kept.counts;
        within = kept.within;
        capacities = kept.capacities;
        classes = kept.classes;
      }

  pub kept_committed : (x : List Change) → TidyBy look key (lent (committed x k)) → InOrder look key (lent (committed x k)) rem has
  kept_committed x tidy =
      let z = layout_of key in
      let w : ℕ = size k.history + 1 in record {
        tidy = tidy;
        cleared = λ a p e lt. get_or-set_other k.words 0 (base z a + p) w 0 (λ i. omega arith) ∙ kept.cleared a p e lt;
        counted = λ a lt. kept.counted a lt ∙ ap (λ (l : List ℕ). occupied_in (take (capacity z a) l)) (sym (drop-set-lt (base z a) k.words 0 w (omega arith)));
        counts = kept.counts;
        within = kept.within;
        capacities = kept.capacities;
        classes = kept.classes;
      }

-- ---- a fill after a collection

module _ (z : Layout) (rem : List ℕ) (c : ClassRef) (s i n m : ℕ) (k j k' : KeeperView) (way : placement_of z rem k c s ≡ Take n) (none : lowest_free z n k ≡ None) (t : Collects z k j m) where
  -- if none was free at entry
  after : (answer : Filled) → MatchOption (lowest_free z n (looks (look_count z k) t.outs k)) ((answer ≡ NoArray) × (k' ≡ j)) (λ a. (answer ≡ Grown) × (k' ≡ grown z c s i a j)) → Fills z rem c s i k k' answer
  after answer ends = subst (FillsBy z c s i k k' answer) (sym way)
      (subst (λ (o : Option ℕ). MatchOption o ((outs : List Bool) × (j : KeeperView) × CollectsBy z outs k j × MatchOption (lowest_free z n (looks (look_count z k) outs k)) ((answer ≡ NoArray) × (k' ≡ j)) (λ a. (answer ≡ Grown) × (k' ≡ grown z c s i a j))) (λ a. (answer ≡ Grown) × (k' ≡ grown z c s i a k))) (sym none)
      (t.outs, j, t.collects, ends))

  pub fills_grown : (a : ℕ) → lowest_free z n j ≡ Some a → k' ≡ grown z c s i a j → Fills z rem c s i k k' Grown
  fills_grown a found is = after Grown (subst (λ (o : Option ℕ). MatchOption o ((Grown ≡ NoArray) × (k' ≡ j)) (λ b. (Grown ≡ Grown) × (k' ≡ grown z c s i b j))) (sym found ∙ lowest_free-collects z n t.outs k j t.collects) (refl, is))

  pub fills_none : lowest_free z n j ≡ None → k' ≡ j → Fills z rem c s i k k' NoArray
  fills_none found is = after NoArray (subst (λ (o : Option ℕ). MatchOption o ((NoArray ≡ NoArray) × (k' ≡ j)) (λ b. (NoArray ≡ Grown) × (k' ≡ grown z c s i b j))) (sym found ∙ lowest_free-collects z n t.outs k j t.collects) (refl, is))

-- ---- the first view

pub same_everywhere : (n i x : ℕ) → slice_index (replicate n 0) i ≡ 0
same_everywhere zero i x = refl
same_everywhere (suc n) zero x = refl
same_everywhere (suc n) (suc i) x = same_everywhere n i x

all_zero : (n b m : ℕ) → (i : ℕ) × (take m (drop b (replicate n zero)) ≡ replicate i zero)
all_zero zero zero zero = (0, refl)
all_zero zero zero (suc m) = (0, refl)
all_zero zero (suc b) zero = (0, refl)
all_zero zero (suc b) (suc m) = (0, refl)
all_zero (suc n) zero zero = (0, refl)
all_zero (suc n) zero (suc m) = let t = all_zero n zero m in (suc t.0, ap (λ (l : List ℕ). zero ∷ l) t.1)
all_zero (suc n) (suc b) m = all_zero n b m

no_words : (n b m : ℕ) → occupied_in (take m (drop b (replicate n 0))) ≡ 0
no_words n b m = let t = all_zero n b m in ap occupied_in t.1 ∙ occupied_in-fresh t.0

no_live : (n a : ℕ) (c : ClassRef) → slice_index_or (replicate n Free) a Free ≡ Live c → ⊥
no_live zero a c e = cc
no_live (suc n) zero c e = cc
no_live (suc n) (suc a) c e = no_live n a c e

pub kept_first : (look : History → ClassRef → ℕ → ℕ) (key : SettingView) → IsSound key.origin → 0 < key.senders → InOrder look key (first_keeper key) (replicate (2 * class_total key.origin) 0) (replicate (length key.capacities) 0)
kept_first look key sound_image some_sender =
    let z = layout_of key in
    let n = length key.capacities in record {
      tidy = first_tidy look key sound_image some_sender;
      cleared = λ a p e lt. same_everywhere (probes z) (base z a + p) 0;
      counted = λ a lt. same_everywhere n a 0 ∙ sym (no_words (probes z) (base z a) (capacity z a));
      counts = length-replicate n 0;
      within = λ c a e. absurd (no_live n a c e);
      capacities = λ i. subst (λ (m : ℕ). IsCapacity (or_least m)) (sym (same_everywhere (2 * class_total key.origin) i 0)) refl;
      classes = length-replicate (2 * class_total key.origin) 0;
    }
