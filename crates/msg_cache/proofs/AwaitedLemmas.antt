-- The senders that an array awaits.
use Rattle.std.proofs.Common.{◌≡◌, ◌≢◌, ℕ, zero, suc, ◌+◌, ◌-◌, ◌<◌, ◌≤◌, List, [], ◌∷◌, ◌++◌, length, replicate, Bool, true, false, not, ◌&&◌, ◌||◌, refl, sym, ap, ◌∙◌, ⊎_elim, arith}
use Rattle.std.specs.Prelude.{slice_index, slice_set, nat_lt, nat_le, if◌then◌else◌}
use Rattle.std.specs.List.{list_any}
use Rattle.std.proofs.lemmas.Bool.{cases_lt, lt-ltb, le-ltb, le-leb, lt-leb}
use Rattle.std.proofs.lemmas.List.{get_or-set_other, ext_get_or, length-replicate, get_or_past}
use Rattle.std.proofs.lemmas.List.FromFn.{get_or-map-range_with_len, length-map-range_with_len}
use Rattle.std.proofs.Math.ListN.{length-set}
use Rattle.msg_tables.specs.declared.limits.TheConstants.{MOST_SENDERS}
use Rattle.msg_model.specs.State.{awaits}
use Rattle.msg_model.specs.Steps.{everyone}
use Rattle.msg_cache.specs.Standings.{awaited_at}
use Rattle.msg_cache.proofs.ClearingLemmas.{minus, same_or}

-- ---- sets of senders, after looks

gone : (l : List Bool) (n : ℕ) → awaits (slice_set l n false) n ≡ false
gone [] n = refl
gone (x ∷ xs) zero = refl
gone (x ∷ xs) (suc n) = gone xs n

pub minus_length : (n : ℕ) (outs aw : List Bool) → length (minus n outs aw) ≡ length aw
minus_length zero outs aw = refl
minus_length (suc n) outs aw = at (awaits outs n) (minus n outs aw) (minus_length n outs aw)
  where
    at : (b : Bool) (left : List Bool) → length left ≡ length aw → length (if b then slice_set left n false else left) ≡ length aw
    at true left e = length-set left n false ∙ e
    at false left e = e

-- a sender number that was not looked at
pub minus_above : (n i : ℕ) (outs aw : List Bool) → n ≤ i → awaits (minus n outs aw) i ≡ awaits aw i
minus_above zero i outs aw le = refl
minus_above (suc n) i outs aw le = at (awaits outs n) (minus n outs aw) (minus_above n i outs aw (omega arith))
  where
    at : (b : Bool) (left : List Bool) → awaits left i ≡ awaits aw i → awaits (if b then slice_set left n false else left) i ≡ awaits aw i
    at true left e = get_or-set_other left n i false false (λ e. omega arith) ∙ e
    at false left e = e

-- one that was
pub minus_below : (n i : ℕ) (outs aw : List Bool) → i < n → awaits (minus n outs aw) i ≡ (awaits aw i && not (awaits outs i))
minus_below zero i outs aw lt = absurd (omega arith)
minus_below (suc n) i outs aw lt = ⊎_elim (λ (e : i ≡ n). here (awaits outs n) refl e) (λ (ne : i ≢ n). there (awaits outs n) (minus n outs aw) (minus_below n i outs aw (omega arith)) ne) (same_or i n)
  where
    none : (b : Bool) → (b && false) ≡ false
    none true = refl
    none false = refl

    all : (b : Bool) → (b && true) ≡ b
    all true = refl
    all false = refl

    here : (b : Bool) → awaits outs n ≡ b → i ≡ n → awaits (if b then slice_set (minus n outs aw) n false else minus n outs aw) i ≡ (awaits aw i && not (awaits outs i))
    here true is e = ap (awaits (slice_set (minus n outs aw) n false)) e ∙ gone (minus n outs aw) n ∙ sym (none (awaits aw i)) ∙ ap (λ b. awaits aw i && not b) (sym is ∙ ap (awaits outs) (sym e))
    here false is e = minus_above n i outs aw (omega arith) ∙ sym (all (awaits aw i)) ∙ ap (λ b. awaits aw i && not b) (sym is ∙ ap (awaits outs) (sym e))

    there : (b : Bool) (left : List Bool) → awaits left i ≡ (awaits aw i && not (awaits outs i)) → i ≢ n → awaits (if b then slice_set left n false else left) i ≡ (awaits aw i && not (awaits outs i))
    there true left e ne = get_or-set_other left n i false false ne ∙ e
    there false left e ne = e

-- ---- whom a place of the queue awaits

module _ (senders : ℕ) (cursors : List ℕ) (place : ℕ) where
  pub awaited_length : length (awaited_at senders cursors place) ≡ MOST_SENDERS
  unfolding awaited_at
  awaited_length = length-map-range_with_len (λ n. nat_lt n senders && nat_le (slice_index cursors n) place) 0 MOST_SENDERS

  pub awaited_is : (n : ℕ) → senders ≤ MOST_SENDERS → awaits (awaited_at senders cursors place) n ≡ (nat_lt n senders && nat_le (slice_index cursors n) place)
  unfolding awaited_at
  awaited_is n few = ⊎_elim
      (λ (lt : n < MOST_SENDERS). get_or-map-range_with_len (λ m. nat_lt m senders && nat_le (slice_index cursors m) place) 0 MOST_SENDERS n n false lt (omega arith))
      (λ (le : MOST_SENDERS ≤ n). get_or_past (awaited_at senders cursors place) n false (omega (arith, awaited_length)) ∙ sym (ap (λ b. b && nat_le (slice_index cursors n) place) (le-ltb n senders (omega arith))))
      (cases_lt n MOST_SENDERS)

-- ---- all senders

everyone_length : (k m : ℕ) → length (replicate k true ++ replicate m false) ≡ k + m
everyone_length zero m = length-replicate m false ∙ omega arith
everyone_length (suc k) m = omega (arith, everyone_length k m)

everyone_in : (k m n : ℕ) → n < k → awaits (replicate k true ++ replicate m false) n ≡ true
everyone_in zero m n lt = absurd (omega arith)
everyone_in (suc k) m zero lt = refl
everyone_in (suc k) m (suc n) lt = everyone_in k m n (omega arith)

pub nobody : (m n : ℕ) → awaits (replicate m false) n ≡ false
nobody zero n = refl
nobody (suc m) zero = refl
nobody (suc m) (suc n) = nobody m n

everyone_out : (k m n : ℕ) → k ≤ n → awaits (replicate k true ++ replicate m false) n ≡ false
everyone_out zero m n le = nobody m n
everyone_out (suc k) m zero le = absurd (omega arith)
everyone_out (suc k) m (suc n) le = everyone_out k m n (omega arith)

-- nobody has passed the place
pub all_awaited : (senders : ℕ) (cursors : List ℕ) (place : ℕ) → senders ≤ MOST_SENDERS → ((n : ℕ) → n < senders → slice_index cursors n ≤ place) → awaited_at senders cursors place ≡ everyone senders
all_awaited senders cursors place few behind = ext_get_or false (awaited_at senders cursors place) (everyone senders) (awaited_length senders cursors place ∙ sym (everyone_length senders (MOST_SENDERS - senders) ∙ omega arith)) (λ n lt.
    awaited_is senders cursors place n few ∙ ⊎_elim
    (λ (l : n < senders). (λ i. lt-ltb n senders l i && le-leb (slice_index cursors n) place (behind n l) i) ∙ sym (everyone_in senders (MOST_SENDERS - senders) n l))
    (λ (g : senders ≤ n). ap (λ b. b && nat_le (slice_index cursors n) place) (le-ltb n senders g) ∙ sym (everyone_out senders (MOST_SENDERS - senders) n g))
    (cases_lt n senders))

-- ---- senders were seen out

-- what is left of a set of which nobody stays
pub none_left : (l : List Bool) → ((n : ℕ) → awaits l n ≡ false) → list_any (λ b. b) l ≡ false
none_left [] none = refl
none_left (x ∷ xs) none = ap (λ b. b || list_any (λ b. b) xs) (none 0) ∙ none_left xs (λ n. none (suc n))

module _ (senders : ℕ) (outs : List Bool) (before after : List ℕ) (end passed : ℕ) (place : ℕ) (few : senders ≤ MOST_SENDERS) (within : place < end)
    (moved : (n : ℕ) → n < senders → slice_index after n + passed ≡ (if awaits outs n then end else slice_index before n)) where
  -- whom the place awaits then
  pub left_is : (n : ℕ) → awaits (minus senders outs (awaited_at senders before place)) n ≡ (nat_lt n senders && nat_le (slice_index after n + passed) place)
  left_is n = ⊎_elim
      (λ (l : n < senders). minus_below senders n outs (awaited_at senders before place) l ∙ ap (λ b. b && not (awaits outs n)) (awaited_is senders before place n few) ∙ below l (awaits outs n) refl)
      (λ (g : senders ≤ n). minus_above senders n outs (awaited_at senders before place) g ∙ awaited_is senders before place n few
      ∙ ap (λ b. b && nat_le (slice_index before n) place) (le-ltb n senders g) ∙ sym (ap (λ b. b && nat_le (slice_index after n + passed) place) (le-ltb n senders g)))
      (cases_lt n senders)
    where
      none : (b : Bool) → (b && false) ≡ false
      none true = refl
      none false = refl

      all : (b : Bool) → (b && true) ≡ b
      all true = refl
      all false = refl

      below : n < senders → (out : Bool) → awaits outs n ≡ out → ((nat_lt n senders && nat_le (slice_index before n) place) && not out) ≡ (nat_lt n senders && nat_le (slice_index after n + passed) place)
      below l true e =
          let here : slice_index after n + passed ≡ end = moved n l ∙ ap (λ b. if b then end else slice_index before n) e in
          none (nat_lt n senders && nat_le (slice_index before n) place) ∙ sym (ap (λ b. nat_lt n senders && b) (lt-leb (slice_index after n + passed) place (omega arith)) ∙ none (nat_lt n senders))
      below l false e =
          let here : slice_index after n + passed ≡ slice_index before n = moved n l ∙ ap (λ b. if b then end else slice_index before n) e in
          all (nat_lt n senders && nat_le (slice_index before n) place) ∙ ap (λ m. nat_lt n senders && nat_le m place) (sym here)

  -- nobody, if all have passed it
  pub nobody_left : ((n : ℕ) → n < senders → place < slice_index after n + passed) → list_any (λ b. b) (minus senders outs (awaited_at senders before place)) ≡ false
  nobody_left all = none_left (minus senders outs (awaited_at senders before place)) (λ n. left_is n ∙ ⊎_elim
      (λ (l : n < senders). ap (λ b. nat_lt n senders && b) (lt-leb (slice_index after n + passed) place (all n l)) ∙ none (nat_lt n senders))
      (λ (g : senders ≤ n). ap (λ b. b && nat_le (slice_index after n + passed) place) (le-ltb n senders g))
      (cases_lt n senders))
    where
      none : (b : Bool) → (b && false) ≡ false
      none true = refl
      none false = refl

  -- else those that its new place awaits
  pub rest_left : passed ≤ place → minus senders outs (awaited_at senders before place) ≡ awaited_at senders after (place - passed)
  rest_left late = ext_get_or false (minus senders outs (awaited_at senders before place)) (awaited_at senders after (place - passed)) (minus_length senders outs (awaited_at senders before place) ∙ awaited_length senders before place ∙ sym (awaited_length senders after (place - passed)))
      (λ n lt. left_is n ∙ ap (λ b. nat_lt n senders && b) (shift n) ∙ sym (awaited_is senders after (place - passed) n few))
    where
      shift : (n : ℕ) → nat_le (slice_index after n + passed) place ≡ nat_le (slice_index after n) (place - passed)
      shift n = ⊎_elim
          (λ (l : place < slice_index after n + passed). lt-leb (slice_index after n + passed) place l ∙ sym (lt-leb (slice_index after n) (place - passed) (omega arith)))
          (λ (l : slice_index after n + passed ≤ place). le-leb (slice_index after n + passed) place l ∙ sym (le-leb (slice_index after n) (place - passed) (omega arith)))
          (cases_lt place (slice_index after n + passed))
