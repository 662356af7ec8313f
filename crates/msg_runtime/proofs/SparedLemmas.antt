-- What flushes and commits leave of caches.
use Rattle.std.proofs.Common.{◌≡◌, ◌≢◌, ℕ, ◌+◌, ◌<◌, List, [], ◌∷◌, ◌++◌, length, length-set, Bool, true, false, None, cond, get_or-set_other, refl, sym, ap, ◌∙◌, subst, take}
use Rattle.std.specs.Prelude.{if◌then◌else◌, slice_index_or}
use Rattle.std.proofs.lemmas.List.{take_more}
use Rattle.msg_names.proofs.TestLemmas.{neither}
use Rattle.msg_names.specs.declared.value.ClassRef.{ClassRef}
use Rattle.msg_tables.specs.declared.change.Change.{Change}
use Rattle.msg_tables.specs.declared.entry.Entry.{Entry}
use Rattle.msg_tables.specs.Log.{Log}
use Rattle.msg_tables.specs.Making.{is_told}
use Rattle.msg_tables.proofs.AffectedAllLemmas.{told-append}
use Rattle.msg_model.specs.State.{Layout, size}
use Rattle.msg_model.proofs.PointLemmas.{at_class_other}
use Rattle.msg_cache.specs.declared.keeper.Keeper.{Keeper}
use Rattle.msg_cache.specs.declared.keeper.TheConstants.{CLOSED}
use Rattle.msg_cache.specs.declared.view.KeeperView.{KeeperView}
use Rattle.msg_cache.specs.Layout.{header_at, stamp_at, probes}
use Rattle.msg_cache.specs.Ours.{Chills, closed, is_closed}
use Rattle.msg_cache.specs.Plays.{committed, flushed, lent, stored}
use Rattle.msg_cache.specs.Rule.{live_in}
use Rattle.msg_cache.specs.Views.{ArenaView, classes, layout}
use Rattle.msg_cache.proofs.LayoutLemmas.{stamp_no_count, stamp_no_header, stamp_same}
use Rattle.msg_cache.proofs.ShownLemmas.{live_set, live_stamp, live_version, word_header, word_stamp, word_version}
use Rattle.msg_runtime.specs.Parts.{IsKeeperOf, keeper_view}
use Rattle.msg_runtime.specs.Spared.{IsSpared}

pub spared-same : (z : Layout) (k : KeeperView) (c : ClassRef) → IsSpared z k k c
spared-same z k c = record { array = refl; words = λ a live. refl; stamp = refl }

pub spared-on : (z : Layout) (k j l : KeeperView) (c : ClassRef) → IsSpared z k j c → IsSpared z j l c → IsSpared z k l c
spared-on z k j l c one two = record {
  array = two.array ∙ one.array;
  words = λ a live. two.words a (one.array ∙ live) ∙ one.words a live;
  stamp = two.stamp ∙ one.stamp;
}

module _ (z : Layout) (k : KeeperView) (c d : ClassRef) (ne : d ≢ c) where
  -- a close spares the others
  closed-spares : IsSpared z k (closed z c k) d
  closed-spares = at (is_closed z k c)
    where
      at : (b : Bool) → IsSpared z k (if b then k else stored (stamp_at z c) CLOSED k) d
      at true = spared-same z k d
      at false = record {
        array = ap (λ f. f d) (live_stamp z k.words c CLOSED);
        words = λ a live. ap (λ f. f a) (word_stamp z k.words c CLOSED);
        stamp = get_or-set_other k.words (stamp_at z c) (stamp_at z d) CLOSED 0 (λ e. ne (stamp_same z d c e));
      }

  -- and so does a flush
  flushed-spares : c.class < z.classes → length k.words ≡ probes z → (b : Bool) → IsSpared z k (cond b (flushed c k) k) d
  flushed-spares lt len false = spared-same z k d
  flushed-spares lt len true = record {
    array = ap (λ f. f d) (live_set z k.words c 0 lt len) ∙ at_class_other (live_in z k.words) c None d ne;
    words = λ a live. ap (λ f. f a) (word_header z k.words c 0 lt);
    stamp = get_or-set_other k.words (header_at c) (stamp_at z d) 0 0 (stamp_no_header z d c lt);
  }

closed-length : (z : Layout) (c : ClassRef) (k : KeeperView) → length (closed z c k).words ≡ length k.words
closed-length z c k = at (is_closed z k c)
  where
    at : (b : Bool) → length (if b then k else stored (stamp_at z c) CLOSED k).words ≡ length k.words
    at true = refl
    at false = length-set k.words (stamp_at z c) CLOSED

pub chilled-spares : (a : ArenaView) (k k' : Keeper) (c d : ClassRef) → IsKeeperOf a k → c.class < classes a → Chills a c k k' → d ≢ c → IsSpared (layout a) (keeper_view k) (keeper_view k') d
chilled-spares a k k' c d of lt chills ne =
    let z = layout a in
    let was = keeper_view k in
    let j : KeeperView = closed z c was in
    subst (λ l. IsSpared z was l d) (sym chills.1)
    (spared-on z was j (cond chills.0 (flushed c j) j) d (closed-spares z was c d ne) (flushed-spares z j c d ne lt (closed-length z c was ∙ of.1.tidy.kept.words) chills.0))

-- a commit spares all
pub committed-spares : (z : Layout) (xs : List Change) (k : KeeperView) (c : ClassRef) → IsSpared z k (lent (committed xs k)) c
committed-spares z xs k c =
    let n : ℕ = size k.history + 1 in
    record {
      array = ap (λ f. f c) (live_version z k.words n);
      words = λ a live. ap (λ f. f a) (word_version z k.words n);
      stamp = get_or-set_other k.words 0 (stamp_at z c) n 0 (stamp_no_count z c);
    }

-- ---- of what entries tell

-- what two parts don't tell of, neither does
pub untold-both : (h : Log) (xs ys : List Entry) (c : ClassRef) → is_told h (xs ++ ys) c ≡ false → (is_told h xs c ≡ false) × (is_told h ys c ≡ false)
untold-both h xs ys c e = neither (is_told h xs c) (is_told h ys c) (sym (told-append h xs ys c) ∙ e)

pub untold-next : (h : Log) (es : List Entry) (i : ℕ) (e : Entry) (c : ClassRef) → i < length es → e ≡ slice_index_or es i e → is_told h (take (i + 1) es) c ≡ false
    → (is_told h (take i es) c ≡ false) × (is_told h (e ∷ []) c ≡ false)
untold-next h es i e c inside is untold =
    untold-both h (take i es) (e ∷ []) c (subst (λ xs. is_told h xs c ≡ false) (take_more es i e inside ∙ ap (λ x. take i es ++ x ∷ []) (sym is)) untold)
