-- Notes of what arrays are for, as the marks of free arrays, the queue and the cursors say them.
use Rattle.std.proofs.Common.{◌≡◌, ◌≢◌, ℕ, zero, suc, ◌+◌, ◌-◌, ◌<◌, ◌≤◌, List, [], ◌∷◌, ◌++◌, map, length, take, replicate, Bool, true, false, not, ◌&&◌, ◌==◌, true≢false, refl, sym, ap, ◌∙◌, subst, inl, inr, ⊎_elim, arith, eq-eqb, ne_eqb, length-append}
use Rattle.std.specs.Prelude.{slice_index, slice_index_or, slice_set, nat_lt, if◌then◌else◌}
use Rattle.std.specs.List.{range_with_len, list_any, filter}
use Rattle.std.proofs.lemmas.Bool.{cases_lt, cases_eq, lt-ltb, le-ltb, le-leb, lt-leb}
use Rattle.std.proofs.lemmas.List.{get_or-set_other, get_or-set_same, get_or_past, length-replicate, get_or-replicate, get_or_append_left, get_or_push, get_or-map, get_or-take, length-map, length-take-le}
use Rattle.std.proofs.lemmas.List.Elements.{filter_agree, All-from_get_or}
use Rattle.std.proofs.lemmas.List.Folds.{list_any_at, list_any_none}
use Rattle.std.proofs.lemmas.List.Sums.{fails_before_first}
use Rattle.std.specs.List.Sorted.{IsPermutation}
use Rattle.msg_model.specs.View.{standing_at}
use Rattle.std.proofs.lemmas.List.FromFn.{fill_by_all, get_or-map-range_with_len, length-map-range_with_len}
use Rattle.std.proofs.Math.ListN.{length-set}
use Rattle.msg_model.specs.State.{awaits}
use Rattle.msg_model.specs.Steps.{everyone}
use Rattle.msg_model.specs.declared.state.Standing.{Standing}
use Rattle.msg_model.specs.declared.state.Standing.TheVariants.{Free, Live, Retired}
use Rattle.msg_tables.specs.declared.limits.TheConstants.{MOST_SENDERS}
use Rattle.msg_cache.specs.Keeping.{looked_by}
use Rattle.msg_cache.specs.Uses.{ArrayUse, free, live, waiting, use_of, use_at, is_free_use, is_waiting, newly_freed}
use Rattle.msg_cache.specs.Standings.{awaited_at, place_of, use_by, use_for, uses}
use Rattle.msg_cache.proofs.AwaitedLemmas.{awaited_is, nobody_left, rest_left}
use Rattle.msg_cache.proofs.ClearingLemmas.{minus, free_if, looked_by_is, looked_by_free, looked_by_live, some_awaited}
use Rattle.msg_cache.proofs.QueueLemmas.{Differ, place_found, place_here, place_none, none_of, place_last, place_before, place_past, place_rest, in_order}

-- ---- the note of one array

module _ (end ready senders : ℕ) (cursors : List ℕ) (place : ℕ) where
  abbrev after_end : Bool → Bool → ArrayUse
  after_end past early = if past then live else if early then free else waiting (awaited_at senders cursors (place - ready))

  pub by_live : end ≤ place → use_by end ready senders cursors place ≡ live
  by_live past = ap (λ b. after_end b (nat_lt place ready)) (le-leb end place past)

  pub by_ready : place < end → place < ready → use_by end ready senders cursors place ≡ free
  by_ready before early = (λ i. after_end (lt-leb end place before i) (lt-ltb place ready early i))

  pub by_waiting : place < end → ready ≤ place → use_by end ready senders cursors place ≡ waiting (awaited_at senders cursors (place - ready))
  by_waiting before late = (λ i. after_end (lt-leb end place before i) (le-ltb place ready late i))

module _ (marks : List Bool) (queue : List ℕ) (ready senders : ℕ) (cursors : List ℕ) where
  abbrev the_use : ℕ → ArrayUse
  the_use a = use_for marks queue ready senders cursors a

  pub marked : (a : ℕ) → slice_index_or marks a true ≡ true → the_use a ≡ free
  marked a e = ap (λ b. if b then free else use_by (length queue) ready senders cursors (place_of queue a)) e

  pub unmarked : (a : ℕ) → slice_index_or marks a true ≡ false → the_use a ≡ use_by (length queue) ready senders cursors (place_of queue a)
  unmarked a e = ap (λ b. if b then free else use_by (length queue) ready senders cursors (place_of queue a)) e

  pub uses_length : length (uses marks queue ready senders cursors) ≡ length marks
  uses_length = length-map-range_with_len the_use 0 (length marks)

  -- also past the last array
  pub uses_at : (a : ℕ) → use_at (uses marks queue ready senders cursors) a ≡ the_use a
  uses_at a = ⊎_elim
      (λ (lt : a < length marks). get_or-map-range_with_len the_use 0 (length marks) a a free lt (omega arith))
      (λ (le : length marks ≤ a). get_or_past (uses marks queue ready senders cursors) a free (omega (arith, uses_length)) ∙ sym (marked a (get_or_past marks a true le)))
      (cases_lt a (length marks))

  -- they are these
  pub are_uses : (l : List ArrayUse) → length l ≡ length marks → ((a : ℕ) → a < length marks → use_at l a ≡ the_use a) → l ≡ uses marks queue ready senders cursors
  are_uses l long each = fill_by_all the_use l (length marks) free long each

-- what a queue has isn't marked as free
abbrev pub Unmarked : List Bool → List ℕ → Type 0
Unmarked marks queue = (p : ℕ) → p < length queue → slice_index_or marks (slice_index queue p) true ≡ false

pub unmarked_inside : (marks : List Bool) (queue : List ℕ) → Unmarked marks queue → (p : ℕ) → p < length queue → slice_index queue p < length marks
unmarked_inside marks queue apart p pl = ⊎_elim
    (λ (lt : slice_index queue p < length marks). lt)
    (λ (le : length marks ≤ slice_index queue p). absurd (true≢false (sym (get_or_past marks (slice_index queue p) true le) ∙ apart p pl)))
    (cases_lt (slice_index queue p) (length marks))

-- ---- one array changes

-- from free to live
module _ (marks : List Bool) (queue : List ℕ) (senders : ℕ) (cursors : List ℕ) (apart : Unmarked marks queue) (a : ℕ) (lt : a < length marks) where
  pub free_marked : use_for marks queue 0 senders cursors a ≡ free → slice_index_or marks a true ≡ true
  free_marked is = by (slice_index_or marks a true) refl
    where
      by : (b : Bool) → slice_index_or marks a true ≡ b → b ≡ true
      by true e = refl
      by false e = ⊎_elim
          (λ (before : place_of queue a < length queue). let u : free ≡ waiting (awaited_at senders cursors (place_of queue a - 0)) = sym is ∙ unmarked marks queue 0 senders cursors a e ∙ by_waiting (length queue) 0 senders cursors (place_of queue a) before (omega arith) in absurd (cc))
          (λ (past : length queue ≤ place_of queue a). let u : free ≡ live = sym is ∙ unmarked marks queue 0 senders cursors a e ∙ by_live (length queue) 0 senders cursors (place_of queue a) past in absurd (cc))
          (cases_lt (place_of queue a) (length queue))

  pub uses_installed : use_for marks queue 0 senders cursors a ≡ free → uses (slice_set marks a false) queue 0 senders cursors ≡ slice_set (uses marks queue 0 senders cursors) a live
  uses_installed is =
      let m = free_marked is in
      let old = uses marks queue 0 senders cursors in
      let out = place_none queue a (λ p pl e. true≢false (sym m ∙ ap (λ x. slice_index_or marks x true) (sym e) ∙ apart p pl)) in
      sym (are_uses (slice_set marks a false) queue 0 senders cursors (slice_set old a live) (length-set old a live ∙ uses_length marks queue 0 senders cursors ∙ sym (length-set marks a false)) (λ b bl. ⊎_elim
      (λ (e : b ≡ a). ap (use_at (slice_set old a live)) e ∙ get_or-set_same old a live free (omega (arith, uses_length marks queue 0 senders cursors))
      ∙ sym (ap (use_for (slice_set marks a false) queue 0 senders cursors) e ∙ unmarked (slice_set marks a false) queue 0 senders cursors a (get_or-set_same marks a false true lt) ∙ by_live (length queue) 0 senders cursors (place_of queue a) (omega (arith, out))))
      (λ (ne : b ≢ a). get_or-set_other old a b live free ne ∙ uses_at marks queue 0 senders cursors b ∙ ap (λ t. if t then free else use_by (length queue) 0 senders cursors (place_of queue b)) (sym (get_or-set_other marks a b false true ne)))
      (cases_eq b a)))

  pub unmarked_installed : Unmarked (slice_set marks a false) queue
  unmarked_installed p pl = ⊎_elim
      (λ (e : slice_index queue p ≡ a). ap (λ x. slice_index_or (slice_set marks a false) x true) e ∙ get_or-set_same marks a false true lt)
      (λ (ne : slice_index queue p ≢ a). get_or-set_other marks a (slice_index queue p) false true ne ∙ apart p pl)
      (cases_eq (slice_index queue p) a)

-- from live to retired
module _ (marks : List Bool) (queue : List ℕ) (senders : ℕ) (cursors : List ℕ) (apart : Unmarked marks queue) (a : ℕ) (is : use_for marks queue 0 senders cursors a ≡ live) where
  pub live_unmarked : slice_index_or marks a true ≡ false
  live_unmarked = by (slice_index_or marks a true) refl
    where
      by : (b : Bool) → slice_index_or marks a true ≡ b → b ≡ false
      by true e = absurd (let u : live ≡ free = sym is ∙ marked marks queue 0 senders cursors a e in cc)
      by false e = refl

  pub live_out : (p : ℕ) → p < length queue → slice_index queue p ≢ a
  live_out = ⊎_elim
      (λ (before : place_of queue a < length queue). let u : live ≡ waiting (awaited_at senders cursors (place_of queue a - 0)) = sym is ∙ unmarked marks queue 0 senders cursors a live_unmarked ∙ by_waiting (length queue) 0 senders cursors (place_of queue a) before (omega arith) in absurd (cc))
      (λ (past : length queue ≤ place_of queue a). λ p pl. none_of queue a p past pl)
      (cases_lt (place_of queue a) (length queue))

  pub uses_retired : a < length marks → awaited_at senders cursors (length queue - 0) ≡ everyone senders
      → uses marks (queue ++ a ∷ []) 0 senders cursors ≡ slice_set (uses marks queue 0 senders cursors) a (waiting (everyone senders))
  uses_retired lt all =
      let old = uses marks queue 0 senders cursors in
      let last = place_last queue a live_out in
      let long = length-append queue (a ∷ []) in
      sym (are_uses marks (queue ++ a ∷ []) 0 senders cursors (slice_set old a (waiting (everyone senders))) (length-set old a (waiting (everyone senders)) ∙ uses_length marks queue 0 senders cursors) (λ b bl. ⊎_elim
      (λ (e : b ≡ a). ap (use_at (slice_set old a (waiting (everyone senders)))) e ∙ get_or-set_same old a (waiting (everyone senders)) free (omega (arith, uses_length marks queue 0 senders cursors)) ∙ ap waiting (sym all) ∙ ap (λ p. waiting (awaited_at senders cursors (p - 0))) (sym last)
      ∙ sym (ap (use_for marks (queue ++ a ∷ []) 0 senders cursors) e ∙ unmarked marks (queue ++ a ∷ []) 0 senders cursors a live_unmarked ∙ by_waiting (length (queue ++ a ∷ [])) 0 senders cursors (place_of (queue ++ a ∷ []) a) (omega arith) (omega arith)))
      (λ (ne : b ≢ a). get_or-set_other old a b (waiting (everyone senders)) free ne ∙ uses_at marks queue 0 senders cursors b ∙ ap (λ n. if slice_index_or marks b true then free else n) (same b ne))
      (cases_eq b a)))
    where
      same : (b : ℕ) → b ≢ a → use_by (length queue) 0 senders cursors (place_of queue b) ≡ use_by (length (queue ++ a ∷ [])) 0 senders cursors (place_of (queue ++ a ∷ []) b)
      same b ne = ⊎_elim
          (λ (before : place_of queue b < length queue).
          let stays = place_before queue a b before in
          by_waiting (length queue) 0 senders cursors (place_of queue b) before (omega arith) ∙ ap (λ p. waiting (awaited_at senders cursors (p - 0))) (sym stays)
          ∙ sym (by_waiting (length (queue ++ a ∷ [])) 0 senders cursors (place_of (queue ++ a ∷ []) b) (omega (arith, length-append queue (a ∷ []))) (omega arith)))
          (λ (past : length queue ≤ place_of queue b).
          let goes = place_past queue a b ne past in
          by_live (length queue) 0 senders cursors (place_of queue b) past ∙ sym (by_live (length (queue ++ a ∷ [])) 0 senders cursors (place_of (queue ++ a ∷ []) b) (omega arith)))
          (cases_lt (place_of queue b) (length queue))

  pub unmarked_retired : Unmarked marks (queue ++ a ∷ [])
  unmarked_retired p pl = ⊎_elim
      (λ (l : p < length queue). ap (λ x. slice_index_or marks x true) (get_or_append_left queue (a ∷ []) 0 p l) ∙ apart p l)
      (λ (l : length queue ≤ p). ap (λ x. slice_index_or marks x true) (get_or_push queue a 0 p (omega (arith, length-append queue (a ∷ [])))) ∙ live_unmarked)
      (cases_lt p (length queue))

  pub differ_retired : Differ queue → Differ (queue ++ a ∷ [])
  differ_retired differ p q less ql = ⊎_elim
      (λ (l : q < length queue). λ e. differ p q less l (sym (get_or_append_left queue (a ∷ []) 0 p (omega arith)) ∙ e ∙ get_or_append_left queue (a ∷ []) 0 q l))
      (λ (l : length queue ≤ q). λ e. live_out p (omega (arith, length-append queue (a ∷ []))) (sym (get_or_append_left queue (a ∷ []) 0 p (omega (arith, length-append queue (a ∷ [])))) ∙ e ∙ get_or_push queue a 0 q (omega (arith, length-append queue (a ∷ [])))))
      (cases_lt q (length queue))

-- from the queue to those that are marked as free
module _ (marks : List Bool) (a : ℕ) (queue : List ℕ) (ready senders : ℕ) (cursors : List ℕ) (apart : Unmarked marks (a ∷ queue)) (differ : Differ (a ∷ queue)) where
  pub first_inside : a < length marks
  first_inside = ⊎_elim (λ (lt : a < length marks). lt) (λ (le : length marks ≤ a). absurd (true≢false (sym (get_or_past marks a true le) ∙ apart 0 (omega arith)))) (cases_lt a (length marks))

  pub first_out : (p : ℕ) → p < length queue → slice_index queue p ≢ a
  first_out p pl e = differ 0 (suc p) (omega arith) (omega arith) (sym e)

  pub first_free_use : use_for marks (a ∷ queue) (suc ready) senders cursors a ≡ free
  first_free_use =
      let here = place_here (a ∷ queue) 0 differ (omega arith) in
      unmarked marks (a ∷ queue) (suc ready) senders cursors a (apart 0 (omega arith)) ∙ by_ready (length (a ∷ queue)) (suc ready) senders cursors (place_of (a ∷ queue) a) (omega arith) (omega arith)

  pub uses_taken : uses (slice_set marks a true) queue ready senders cursors ≡ uses marks (a ∷ queue) (suc ready) senders cursors
  uses_taken =
      let old = uses marks (a ∷ queue) (suc ready) senders cursors in
      sym (are_uses (slice_set marks a true) queue ready senders cursors old (uses_length marks (a ∷ queue) (suc ready) senders cursors ∙ sym (length-set marks a true)) (λ b bl. uses_at marks (a ∷ queue) (suc ready) senders cursors b ∙ ⊎_elim
      (λ (e : b ≡ a). ap (use_for marks (a ∷ queue) (suc ready) senders cursors) e ∙ first_free_use
      ∙ sym (ap (use_for (slice_set marks a true) queue ready senders cursors) e ∙ marked (slice_set marks a true) queue ready senders cursors a (get_or-set_same marks a true true first_inside)))
      (λ (ne : b ≢ a).
      (λ i. if sym (get_or-set_other marks a b true true ne) i then free else same b ne i))
      (cases_eq b a)))
    where
      same : (b : ℕ) → b ≢ a → use_by (length (a ∷ queue)) (suc ready) senders cursors (place_of (a ∷ queue) b) ≡ use_by (length queue) ready senders cursors (place_of queue b)
      same b ne =
          let rest = place_rest a b queue ne in ⊎_elim
          (λ (past : length queue ≤ place_of queue b). by_live (length (a ∷ queue)) (suc ready) senders cursors (place_of (a ∷ queue) b) (omega arith) ∙ sym (by_live (length queue) ready senders cursors (place_of queue b) past))
          (λ (before : place_of queue b < length queue). ⊎_elim
          (λ (early : place_of queue b < ready). by_ready (length (a ∷ queue)) (suc ready) senders cursors (place_of (a ∷ queue) b) (omega arith) (omega arith) ∙ sym (by_ready (length queue) ready senders cursors (place_of queue b) before early))
          (λ (late : ready ≤ place_of queue b).
          let same_place : place_of (a ∷ queue) b - suc ready ≡ place_of queue b - ready = omega arith in
          by_waiting (length (a ∷ queue)) (suc ready) senders cursors (place_of (a ∷ queue) b) (omega arith) (omega arith) ∙ ap (λ p. waiting (awaited_at senders cursors p)) same_place
          ∙ sym (by_waiting (length queue) ready senders cursors (place_of queue b) before late))
          (cases_lt (place_of queue b) ready))
          (⊎_elim (λ (l : place_of queue b < length queue). inr l) (λ (l : length queue ≤ place_of queue b). inl l) (cases_lt (place_of queue b) (length queue)))

  pub unmarked_taken : Unmarked (slice_set marks a true) queue
  unmarked_taken p pl = get_or-set_other marks a (slice_index queue p) true true (first_out p pl) ∙ apart (suc p) (omega arith)

  pub differ_taken : Differ queue
  differ_taken p q less ql = differ (suc p) (suc q) (omega arith) (omega arith)

-- ---- senders were seen out

module _ (marks : List Bool) (queue : List ℕ) (senders : ℕ) (before after : List ℕ) (passed : ℕ) (outs : List Bool) (few : senders ≤ MOST_SENDERS) (apart : Unmarked marks queue)
    (moved : (n : ℕ) → n < senders → slice_index after n + passed ≡ (if awaits outs n then length queue else slice_index before n))
    (all : (n : ℕ) → n < senders → passed ≤ slice_index after n + passed)
    (some : (n : ℕ) × (n < senders) × (slice_index after n + passed ≡ passed))
    (ends : passed ≤ length queue) where
  -- the note of one array
  pub use_seen : (b : ℕ) (s : Standing) → ((aw : List Bool) → use_of s ≡ waiting aw → (n : ℕ) × (awaits aw n ≡ true)) → use_for marks queue 0 senders before b ≡ use_of s → use_for marks queue passed senders after b ≡ use_of (looked_by senders outs s)
  use_seen b s awaits_some is = by (slice_index_or marks b true) refl
    where
      place : ℕ
      place = place_of queue b

      by : (t : Bool) → slice_index_or marks b true ≡ t → use_for marks queue passed senders after b ≡ use_of (looked_by senders outs s)
      by true e =
          let was : free ≡ use_of s = sym (marked marks queue 0 senders before b e) ∙ is in
          marked marks queue passed senders after b e ∙ sym (still_free s was)
        where
          still_free : (s : Standing) → free ≡ use_of s → use_of (looked_by senders outs s) ≡ free
          still_free Free u = ap use_of (looked_by_free senders outs)
          still_free (Live c) u = absurd (cc)
          still_free (Retired c r aw) u = absurd (cc)
      by false e = ⊎_elim
          (λ (past : length queue ≤ place_of queue b).
          let was : live ≡ use_of s = sym (unmarked marks queue 0 senders before b e ∙ by_live (length queue) 0 senders before (place_of queue b) past) ∙ is in
          unmarked marks queue passed senders after b e ∙ by_live (length queue) passed senders after (place_of queue b) past ∙ sym (still_live s was))
          (λ (here : place_of queue b < length queue).
          let was : waiting (awaited_at senders before (place_of queue b - 0)) ≡ use_of s = sym (unmarked marks queue 0 senders before b e ∙ by_waiting (length queue) 0 senders before (place_of queue b) here (omega arith)) ∙ is in
          let same : place_of queue b - 0 ≡ place_of queue b = omega arith in
          unmarked marks queue passed senders after b e ∙ sym (fewer here s (ap (λ p. waiting (awaited_at senders before p)) (sym same) ∙ was) awaits_some))
          (⊎_elim (λ (l : place_of queue b < length queue). inr l) (λ (l : length queue ≤ place_of queue b). inl l) (cases_lt (place_of queue b) (length queue)))
        where
          still_live : (s : Standing) → live ≡ use_of s → use_of (looked_by senders outs s) ≡ live
          still_live Free u = absurd (cc)
          still_live (Live c) u = ap use_of (looked_by_live senders outs c)
          still_live (Retired c r aw) u = absurd (cc)

          fewer : place_of queue b < length queue → (s : Standing) → waiting (awaited_at senders before (place_of queue b)) ≡ use_of s → ((aw : List Bool) → use_of s ≡ waiting aw → (n : ℕ) × (awaits aw n ≡ true))
              → use_of (looked_by senders outs s) ≡ use_by (length queue) passed senders after (place_of queue b)
          fewer here Free u awaits_some = absurd (cc)
          fewer here (Live c) u awaits_some = absurd (cc)
          fewer here (Retired c r aw) u awaits_some =
              let same : aw ≡ awaited_at senders before (place_of queue b) = cc in
              let one = awaits_some aw refl in
              ap use_of (looked_by_is senders outs aw c r (some_awaited aw one.0 one.1))
              ∙ ap (λ l. use_of (free_if (list_any (λ t. t) (minus senders outs l)) (Retired c r (minus senders outs l)))) same
              ∙ ⊎_elim
              (λ (early : place_of queue b < passed).
              ap (λ t. use_of (free_if t (Retired c r (minus senders outs (awaited_at senders before (place_of queue b)))))) (nobody_left senders outs before after (length queue) passed (place_of queue b) few here moved (λ n l. let t = all n l in omega arith))
              ∙ sym (by_ready (length queue) passed senders after (place_of queue b) here early))
              (λ (late : passed ≤ place_of queue b).
              let rest = rest_left senders outs before after (length queue) passed (place_of queue b) few here moved late in
              ap (λ l. use_of (free_if (list_any (λ t. t) l) (Retired c r l))) rest
              ∙ ap (λ t. use_of (free_if t (Retired c r (awaited_at senders after (place_of queue b - passed))))) (some_awaited (awaited_at senders after (place_of queue b - passed)) some.0
              (awaited_is senders after (place_of queue b - passed) some.0 few ∙ (λ i. lt-ltb some.0 senders some.1 i && le-leb (slice_index after some.0) (place_of queue b - passed) (omega (arith, some.2)) i)))
              ∙ sym (by_waiting (length queue) passed senders after (place_of queue b) here late))
              (cases_lt (place_of queue b) passed)

  -- of all
  pub uses_seen : (l : List Standing) → uses marks queue 0 senders before ≡ map use_of l → ((a : ℕ) (aw : List Bool) → use_at (uses marks queue 0 senders before) a ≡ waiting aw → (n : ℕ) × (awaits aw n ≡ true))
      → uses marks queue passed senders after ≡ map use_of (map (looked_by senders outs) l)
  uses_seen l are awaits_some =
      let f = looked_by senders outs in
      let long : length l ≡ length marks = sym (length-map l use_of) ∙ ap (λ (x : List ArrayUse). length x) (sym are) ∙ uses_length marks queue 0 senders before in
      sym (are_uses marks queue passed senders after (map use_of (map f l)) (length-map (map f l) use_of ∙ length-map l f ∙ long) (λ a lt.
      let here : a < length l = omega arith in
      let was : use_at (uses marks queue 0 senders before) a ≡ use_of (standing_at l a) = ap (λ x. use_at x a) are ∙ get_or-map use_of l a Free free here in
      get_or-map use_of (map f l) a Free free (omega (arith, length-map l f)) ∙ ap use_of (get_or-map f l a Free Free here)
      ∙ sym (use_seen a (standing_at l a) (λ aw e. awaits_some a aw (was ∙ e)) (sym (uses_at marks queue 0 senders before a) ∙ was))))

  -- those that all have passed are free then
  pub newly_seen : Differ queue → IsPermutation (take passed queue) (newly_freed (uses marks queue 0 senders before) (uses marks queue passed senders after))
  newly_seen differ =
      let old = uses marks queue 0 senders before in
      let new = uses marks queue passed senders after in
      let size = length-take-le passed queue ends in
      let at = λ (p : ℕ) (l : p < length (take passed queue)). get_or-take passed queue p 0 (omega (arith, size)) in
      let inside : (p : ℕ) → p < length (take passed queue) → slice_index (take passed queue) p < length marks = λ p l. subst (λ x. x < length marks) (sym (at p l)) (unmarked_inside marks queue apart p (omega (arith, size))) in
      let sorted = in_order (take passed queue) (length marks) (λ p q less l e. differ p q less (omega (arith, size)) (sym (at p (omega arith)) ∙ e ∙ at q l)) inside in
      subst (IsPermutation (take passed queue)) (ap (filter (λ b. list_any (λ x. x == b) (take passed queue))) (ap (range_with_len 0) (sym (uses_length marks queue 0 senders before)))
      ∙ filter_agree (λ b. list_any (λ x. x == b) (take passed queue)) (λ b. is_free_use (use_at new b) && not (is_free_use (use_at old b))) (λ b. any_first b ∙ sym (newly b)) (range_with_len 0 (length old)))
      sorted
    where
      any_first : (b : ℕ) → list_any (λ x. x == b) (take passed queue) ≡ nat_lt (place_of queue b) passed
      any_first b = ⊎_elim
          (λ (l : place_of queue b < passed).
          list_any_at (λ x. x == b) (take passed queue) (place_of queue b) 0 (omega (arith, length-take-le passed queue ends)) (ap (λ x. x == b) (get_or-take passed queue (place_of queue b) 0 l) ∙ eq-eqb (slice_index queue (place_of queue b)) b (place_found queue b (omega arith)))
          ∙ sym (lt-ltb (place_of queue b) passed l))
          (λ (l : passed ≤ place_of queue b).
          list_any_none (λ x. x == b) (take passed queue) (All-from_get_or (λ x. (x == b) ≡ false) (take passed queue) 0 (λ p pl. let q : p < passed = omega (arith, length-take-le passed queue ends) in
          ap (λ x. x == b) (get_or-take passed queue p 0 q) ∙ fails_before_first (λ x. x == b) queue p 0 (omega arith)))
          ∙ sym (le-ltb (place_of queue b) passed l))
          (cases_lt (place_of queue b) passed)

      newly : (b : ℕ) → (is_free_use (use_at (uses marks queue passed senders after) b) && not (is_free_use (use_at (uses marks queue 0 senders before) b))) ≡ nat_lt (place_of queue b) passed
      newly b =
          (λ i. is_free_use (uses_at marks queue passed senders after b i) && not (is_free_use (uses_at marks queue 0 senders before b i))) ∙ by (slice_index_or marks b true) refl
        where
          by : (t : Bool) → slice_index_or marks b true ≡ t → (is_free_use (use_for marks queue passed senders after b) && not (is_free_use (use_for marks queue 0 senders before b))) ≡ nat_lt (place_of queue b) passed
          by true e =
              let out = place_none queue b (λ p l u. true≢false (sym e ∙ ap (λ x. slice_index_or marks x true) (sym u) ∙ apart p l)) in
              (λ i. is_free_use (marked marks queue passed senders after b e i) && not (is_free_use (marked marks queue 0 senders before b e i))) ∙ sym (le-ltb (place_of queue b) passed (omega arith))
          by false e = ⊎_elim
              (λ (past : length queue ≤ place_of queue b).
              ap (λ n. is_free_use n && not (is_free_use (use_for marks queue 0 senders before b))) (unmarked marks queue passed senders after b e ∙ by_live (length queue) passed senders after (place_of queue b) past) ∙ sym (le-ltb (place_of queue b) passed (omega arith)))
              (λ (here : place_of queue b < length queue).
              ap (λ n. is_free_use (use_for marks queue passed senders after b) && not (is_free_use n)) (unmarked marks queue 0 senders before b e ∙ by_waiting (length queue) 0 senders before (place_of queue b) here (omega arith))
              ∙ ⊎_elim
              (λ (early : place_of queue b < passed). ap (λ n. is_free_use n && true) (unmarked marks queue passed senders after b e ∙ by_ready (length queue) passed senders after (place_of queue b) here early) ∙ sym (lt-ltb (place_of queue b) passed early))
              (λ (late : passed ≤ place_of queue b). ap (λ n. is_free_use n && true) (unmarked marks queue passed senders after b e ∙ by_waiting (length queue) passed senders after (place_of queue b) here late) ∙ sym (le-ltb (place_of queue b) passed late))
              (cases_lt (place_of queue b) passed))
              (⊎_elim (λ (l : place_of queue b < length queue). inr l) (λ (l : length queue ≤ place_of queue b). inl l) (cases_lt (place_of queue b) (length queue)))

-- ---- all are free

pub all_zero : (n i : ℕ) → slice_index (replicate n 0) i ≡ 0
all_zero zero i = refl
all_zero (suc n) zero = refl
all_zero (suc n) (suc i) = all_zero n i

pub uses_first : (n senders : ℕ) (cursors : List ℕ) → uses (replicate n true) [] 0 senders cursors ≡ replicate n free
uses_first n senders cursors = sym (are_uses (replicate n true) [] 0 senders cursors (replicate n free) (length-replicate n free ∙ sym (length-replicate n true)) (λ a lt.
    let here : a < n = omega (arith, length-replicate n true) in
    get_or-replicate n a free free here ∙ sym (marked (replicate n true) [] 0 senders cursors a (get_or-replicate n a true true here))))

-- none is ready
pub none_ready : (m : ℕ) (queue : List ℕ) → take m queue ≡ [] → m ≤ length queue → m ≡ 0
none_ready m queue e le = omega (arith, length-take-le m queue le, ap (λ (l : List ℕ). length l) e)

-- what isn't marked isn't free, while none is ready
pub unmarked_busy : (marks : List Bool) (queue : List ℕ) (senders : ℕ) (cursors : List ℕ) (a : ℕ) → slice_index_or marks a true ≡ false → is_free_use (use_for marks queue 0 senders cursors a) ≡ false
unmarked_busy marks queue senders cursors a e = ap is_free_use (unmarked marks queue 0 senders cursors a e) ∙ ⊎_elim
    (λ (here : place_of queue a < length queue). ap is_free_use (by_waiting (length queue) 0 senders cursors (place_of queue a) here (omega arith)))
    (λ (past : length queue ≤ place_of queue a). ap is_free_use (by_live (length queue) 0 senders cursors (place_of queue a) past))
    (cases_lt (place_of queue a) (length queue))

-- an array waits if the queue has one, while none is ready
pub some_waits : (marks : List Bool) (queue : List ℕ) (senders : ℕ) (cursors : List ℕ) → Unmarked marks queue → Differ queue → list_any is_waiting (uses marks queue 0 senders cursors) ≡ not (length queue == 0)
some_waits marks [] senders cursors apart differ =
    list_any_none is_waiting (uses marks [] 0 senders cursors) (All-from_get_or (λ u. is_waiting u ≡ false) (uses marks [] 0 senders cursors) free (λ a lt. ap is_waiting (uses_at marks [] 0 senders cursors a) ∙ none a (slice_index_or marks a true) refl))
  where
    none : (a : ℕ) (b : Bool) → slice_index_or marks a true ≡ b → is_waiting (use_for marks [] 0 senders cursors a) ≡ false
    none a true e = ap is_waiting (marked marks [] 0 senders cursors a e)
    none a false e = ap is_waiting (unmarked marks [] 0 senders cursors a e ∙ by_live 0 0 senders cursors (place_of [] a) (omega arith))
some_waits marks (q ∷ queue) senders cursors apart differ =
    let all : List ℕ = q ∷ queue in
    let here = place_here all 0 differ (omega arith) in
    let waits : use_at (uses marks all 0 senders cursors) q ≡ waiting (awaited_at senders cursors (place_of all q - 0)) =
    uses_at marks all 0 senders cursors q ∙ unmarked marks all 0 senders cursors q (apart 0 (omega arith)) ∙ by_waiting (length all) 0 senders cursors (place_of all q) (omega (arith, here)) (omega arith) in
    list_any_at is_waiting (uses marks all 0 senders cursors) q free (omega (arith, uses_length marks all 0 senders cursors, unmarked_inside marks all apart 0 (omega arith))) (ap is_waiting waits) ∙ ap not (sym (ne_eqb (suc (length queue)) 0 (λ e. absurd (omega arith))))
