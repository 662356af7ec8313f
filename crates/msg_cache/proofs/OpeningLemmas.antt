-- The rule holds when the table is made, and the state that is shown is the machine's before the
-- first event.
use Rattle.std.proofs.Common.{◌≡◌, ℕ, zero, suc, ◌+◌, ◌<◌, ◌≤◌, List, [], ◌∷◌, length, take, Bool, true, false, true≢false, None, cond, refl, sym, ap, ◌∙◌, subst, arith}
use Rattle.msg_tables.specs.Origin.{class_total}
use Rattle.std.specs.Prelude.{slice_index, slice_index_or, replicate, nat_lt}
use Rattle.std.proofs.lemmas.List.{length-replicate}
use mathlib.Core.Option.{some, some-injective, some-ne-none}
use lib.ListN.{get_elem?}
use Rattle.msg_names.specs.declared.value.ClassRef.{ClassRef}
use Rattle.msg_tables.specs.History.{History, empty}
use Rattle.msg_model.specs.declared.state.Standing.TheVariants.{Free}
use Rattle.msg_model.specs.declared.state.Whereabouts.TheVariants.{Out}
use Rattle.msg_model.specs.Runs.{opening}
use Rattle.msg_model.specs.State.{state_from, capacity, Sound}
use Rattle.msg_model.proofs.RunLemmas.{sound_opening}
use Rattle.msg_tables.specs.Origin.{IsSound}
use Rattle.msg_cache.specs.declared.view.View.{View}
use Rattle.msg_cache.specs.declared.view.View.TheVariants.{Keeper}
use Rattle.msg_cache.specs.Layout.{SettingView, layout_of, total, header_at, base, probes, probe_at, word_count}
use Rattle.msg_cache.specs.Rule.{named, live_in, word_in, shown, RuledBy, TidyBy, shown_by, first_keeper, Fits}
use Rattle.msg_cache.proofs.AllowedKeeper.{tidy_of}
use Rattle.msg_tables.proofs.BeginsLemmas.{begins_refl}
use Rattle.msg_cache.proofs.PastLemmas.{accepted_empty}

same_everywhere : {A : Type 0} (n i : ℕ) (x : A) → slice_index_or (replicate n x) i x ≡ x
same_everywhere zero i x = refl
same_everywhere (suc n) zero x = refl
same_everywhere (suc n) (suc i) x = same_everywhere n i x

-- the first keeper's view shows the machine before the first event
shown_first : (key : SettingView) → shown (layout_of key) (first_keeper key) (λ n. Out) ≡ opening key.origin
shown_first key = λ j. state_from (empty key.origin) (λ c. live c j) (λ a p. word a p j) (λ a. same_everywhere (length key.capacities) a Free j) (λ n. Out)
  where
    n : ℕ
    n = probes (layout_of key)

    live : (c : ClassRef) → live_in (layout_of key) (replicate (probes (layout_of key)) 0) c ≡ None
    live c = step (nat_lt c.class (class_total key.origin))
      where
        step : (b : Bool) → cond b (named (slice_index (replicate (probes (layout_of key)) 0) (header_at c))) None ≡ None
        step true = ap named (same_everywhere (probes (layout_of key)) (header_at c) 0)
        step false = refl

    word : (a p : ℕ) → word_in (layout_of key) (replicate (probes (layout_of key)) 0) a p ≡ 0
    word a p = step (nat_lt p (capacity (layout_of key) a))
      where
        step : (b : Bool) → cond b (slice_index (replicate (probes (layout_of key)) 0) (base (layout_of key) a + p)) 0 ≡ 0
        step true = same_everywhere (probes (layout_of key)) (base (layout_of key) a + p) 0
        step false = refl

pub opens : (look : History → ClassRef → ℕ → ℕ) (key : SettingView) (n : ℕ) → IsSound key.origin → 0 < key.senders → n ≡ word_count (layout_of key)
    → (r : RuledBy look key (replicate n 0) (Keeper (first_keeper key) ∷ [])) × (shown_by look (layout_of key) key.origin r ≡ opening key.origin)
opens look key n sound_image some_sender count =
    let z = layout_of key in (
      record {
        keeper = first_keeper key;
        chair = 0;
        away = 0;
        seat = λ _. 0;
        whereabouts = λ _. Out;
        kept = record {
          words = length-replicate (probes z) 0;
          standings = length-replicate (length z.capacities) Free;
          given = length-replicate z.senders false;
          version = same_everywhere (probes z) 0 0;
          stamps = λ c lt. omega arith;
          begins = begins_refl (empty key.origin);
          accepted = accepted_empty key.origin sound_image;
          told = begins_refl (empty key.origin);
          home = λ g e. absurd (cc);
          never = λ _. refl;
          some_sender = some_sender;
        };
        copies = record { copied = λ i lt. same_everywhere n i 0 ∙ sym (same_everywhere (probes z) i 0); probed = λ i lt. same_everywhere n (probe_at z i) 0; count = length-replicate n 0 ∙ count };
        sound = subst (Sound look z) (sym (shown_first key)) (sound_opening look z some_sender key.origin);
        outside = λ i e. refl;
        views_fit = λ j v e. one j v e;
        chair_is = refl;
        sits = λ i e. absurd (true≢false (sym e ∙ same_everywhere z.senders i false));
      },
      shown_first key,
    )
  where
    one : (j : ℕ) (v : View) → get_elem? (Keeper (first_keeper key) ∷ []) j ≡ some v → Fits (first_keeper key) 0 0 (λ _. 0) (λ _. Out) j v
    one zero v e = subst (Fits (first_keeper key) 0 0 (λ _. 0) (λ _. Out) 0) (some-injective _ _ e) (refl, refl)
    one (suc j) v e = absurd (some-ne-none v (sym e))

-- ---- sums of capacities, one more at a time

pub total_more : (l : List ℕ) (i : ℕ) → i < length l → total (take (suc i) l) ≡ total (take i l) + slice_index l i
total_more [] i lt = absurd (omega arith)
total_more (x ∷ xs) zero lt = omega arith
total_more (x ∷ xs) (suc i) lt = let t = total_more xs i (omega arith) in omega arith

pub total_part : (l : List ℕ) (i : ℕ) → total (take i l) ≤ total l
total_part [] zero = omega arith
total_part [] (suc i) = omega arith
total_part (x ∷ xs) zero = omega arith
total_part (x ∷ xs) (suc i) = let t = total_part xs i in omega arith

-- the first keeper's view is sound by itself
pub first_tidy : (look : History → ClassRef → ℕ → ℕ) (key : SettingView) → IsSound key.origin → 0 < key.senders → TidyBy look key (first_keeper key)
first_tidy look key sound_image some_sender =
    let r = (opens look key (word_count (layout_of key)) sound_image some_sender refl).0 in
    subst (TidyBy look key) (r.views_fit 0 (Keeper (first_keeper key)) refl).1 (tidy_of look (layout_of key) key.origin _ _ r)
