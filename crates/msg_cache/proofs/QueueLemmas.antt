-- Places in a queue whose numbers differ.
use Rattle.std.proofs.Common.{◌≡◌, ◌≢◌, ℕ, zero, suc, ◌+◌, ◌<◌, ◌≤◌, List, [], ◌∷◌, ◌++◌, length, get_or, Bool, true, false, not, ◌==◌, ◌||◌, true≢false, cond, refl, sym, ap, ◌∙◌, subst, ⊎_elim, arith, eq-eqb, ne_eqb, length-append}
use Rattle.std.specs.Prelude.{slice_index}
use Rattle.std.specs.List.{list_any, range_with_len, filter}
use Rattle.std.specs.List.Sorted.{IsPermutation}
use Rattle.std.proofs.lemmas.Bool.{cases_lt, eqb-true}
use Rattle.std.proofs.lemmas.List.{get_or_append_left, get_or_push, get_or_default}
use Rattle.std.proofs.lemmas.List.Sorted.{IsPermutation-middle, IsPermutation-refl, IsPermutation-cons, IsPermutation-trans}
use Rattle.std.proofs.lemmas.List.Sums.{position_or_len_is, passes_at_first, fails_before_first}
use Rattle.std.proofs.lemmas.List.Folds.{Any-from_list_any}
use Rattle.std.proofs.lemmas.Map.Keys.{IsDistinct-from_apart}
use Rattle.std.proofs.lemmas.Map.Steps.{length-le_from_distinct_below}
use Rattle.std.proofs.Common.{eqb}
use Rattle.msg_cache.specs.Standings.{place_of}
use Rattle.msg_cache.proofs.ClearingLemmas.{same_or}

-- numbers none of which occurs twice
abbrev pub Differ : List ℕ → Type 0
Differ queue = (p q : ℕ) → p < q → q < length queue → slice_index queue p ≢ slice_index queue q

module _ (queue : List ℕ) where
  pub place_found : (a : ℕ) → place_of queue a < length queue → slice_index queue (place_of queue a) ≡ a
  place_found a lt = eqb-true (slice_index queue (place_of queue a)) a (passes_at_first (λ b. b == a) queue 0 lt)

  pub place_here : (p : ℕ) → Differ queue → p < length queue → place_of queue (slice_index queue p) ≡ p
  place_here p differ lt = position_or_len_is (λ b. b == slice_index queue p) queue p 0 (omega arith) (λ k less. ne_eqb (slice_index queue k) (slice_index queue p) (differ k p less lt)) (λ l. eq-eqb (slice_index queue p) (slice_index queue p) refl)

  -- one that isn't in the queue
  pub place_none : (a : ℕ) → ((p : ℕ) → p < length queue → slice_index queue p ≢ a) → place_of queue a ≡ length queue
  place_none a none = position_or_len_is (λ b. b == a) queue (length queue) 0 (omega arith) (λ k less. ne_eqb (slice_index queue k) a (none k less)) (λ l. absurd (omega arith))

  pub none_of : (a p : ℕ) → length queue ≤ place_of queue a → p < length queue → slice_index queue p ≢ a
  none_of a p le lt e = true≢false (sym (eq-eqb (slice_index queue p) a e) ∙ fails_before_first (λ b. b == a) queue p 0 (omega arith))

  -- at its end
  pub place_last : (a : ℕ) → ((p : ℕ) → p < length queue → slice_index queue p ≢ a) → place_of (queue ++ a ∷ []) a ≡ length queue
  place_last a none = position_or_len_is (λ b. b == a) (queue ++ a ∷ []) (length queue) 0 (omega (arith, length-append queue (a ∷ [])))
      (λ k less. ap (λ x. x == a) (get_or_append_left queue (a ∷ []) 0 k less) ∙ ne_eqb (slice_index queue k) a (none k less))
      (λ l. ap (λ x. x == a) (get_or_push queue a 0 (length queue) refl) ∙ eq-eqb a a refl)

  -- a place before the end stays where one more comes
  pub place_before : (a b : ℕ) → place_of queue b < length queue → place_of (queue ++ a ∷ []) b ≡ place_of queue b
  place_before a b lt = position_or_len_is (λ x. x == b) (queue ++ a ∷ []) (place_of queue b) 0 (omega (arith, length-append queue (a ∷ [])))
      (λ k less. ap (λ x. x == b) (get_or_append_left queue (a ∷ []) 0 k (omega arith)) ∙ fails_before_first (λ x. x == b) queue k 0 less)
      (λ l. ap (λ x. x == b) (get_or_append_left queue (a ∷ []) 0 (place_of queue b) lt) ∙ passes_at_first (λ x. x == b) queue 0 lt)

  pub place_past : (a b : ℕ) → b ≢ a → length queue ≤ place_of queue b → place_of (queue ++ a ∷ []) b ≡ length (queue ++ a ∷ [])
  place_past a b ne le = position_or_len_is (λ x. x == b) (queue ++ a ∷ []) (length (queue ++ a ∷ [])) 0 (omega arith)
      (λ k less. ⊎_elim
      (λ (l : k < length queue). ap (λ x. x == b) (get_or_append_left queue (a ∷ []) 0 k l) ∙ ne_eqb (slice_index queue k) b (none_of b k le l))
      (λ (l : length queue ≤ k). ap (λ x. x == b) (get_or_push queue a 0 k (omega (arith, length-append queue (a ∷ [])))) ∙ ne_eqb a b (λ e. ne (sym e)))
      (cases_lt k (length queue)))
      (λ l. absurd (omega arith))

-- after the first has left
pub place_rest : (a b : ℕ) (queue : List ℕ) → b ≢ a → place_of (a ∷ queue) b ≡ suc (place_of queue b)
place_rest a b queue ne =
    let next : 1 + place_of queue b ≡ suc (place_of queue b) = omega arith in
    ap (λ t. cond (not t) (1 + place_of queue b) 0) (ne_eqb a b (λ e. ne (sym e))) ∙ next

-- numbers below n that differ are at most n
pub few : (xs : List ℕ) (n : ℕ) → Differ xs → ((p : ℕ) → p < length xs → slice_index xs p < n) → length xs ≤ n
few xs n differ below = length-le_from_distinct_below xs n
    (IsDistinct-from_apart eqb xs (λ p q d less lt. ne_eqb (get_or xs p d) (get_or xs q d) (λ e. differ p q less lt (sym (get_or_default xs p d 0 (omega arith)) ∙ e ∙ get_or_default xs q d 0 lt))))
    (λ q is. let t = Any-from_list_any (eqb q) xs is in
    let here : q ≡ get_or xs t.0 t.1 = eqb-true q t.1 t.4 ∙ sym t.3 in
    let at = below t.0 t.2 in omega (arith, here, at, get_or_default xs t.0 t.1 0 t.2))

-- ---- the numbers in their order

-- tests that agree on the numbers of a range
filter_alike : (p q : ℕ → Bool) (a n : ℕ) → ((b : ℕ) → a ≤ b → p b ≡ q b) → filter p (range_with_len a n) ≡ filter q (range_with_len a n)
filter_alike p q a zero same = refl
filter_alike p q a (suc n) same =
    let rest = filter_alike p q (a + 1) n (λ b l. same b (omega arith)) in
    λ i. cond (same a (omega arith) i) (a ∷ rest i) (rest i)

-- one more number
filter_one : (p : ℕ → Bool) (x a n : ℕ) → a ≤ x → x < a + n → p x ≡ false → IsPermutation (x ∷ filter p (range_with_len a n)) (filter (λ b. x == b || p b) (range_with_len a n))
filter_one p x a zero low high out = absurd (omega arith)
filter_one p x a (suc n) low high out = ⊎_elim
    (λ (e : x ≡ a).
    let q : ℕ → Bool = λ b. x == b || p b in
    let same = filter_alike p q (a + 1) n (λ b l. ap (λ t. t || p b) (sym (ne_eqb x b (λ f. absurd (omega arith))))) in
    let first : x ∷ filter p (range_with_len a (suc n)) ≡ filter q (range_with_len a (suc n)) =
    ap (λ t. x ∷ cond t (a ∷ filter p (range_with_len (a + 1) n)) (filter p (range_with_len (a + 1) n))) (ap p (sym e) ∙ out)
    ∙ (λ i. e i ∷ same i)
    ∙ ap (λ t. cond (t || p a) (a ∷ filter q (range_with_len (a + 1) n)) (filter q (range_with_len (a + 1) n))) (sym (eq-eqb x a e)) in
    subst (IsPermutation (x ∷ filter p (range_with_len a (suc n)))) first (IsPermutation-refl (x ∷ filter p (range_with_len a (suc n)))))
    (λ (ne : x ≢ a).
    let F = filter p (range_with_len (a + 1) n) in
    let G = filter (λ b. x == b || p b) (range_with_len (a + 1) n) in
    subst (λ t. IsPermutation (x ∷ cond (p a) (a ∷ F) F) (cond (t || p a) (a ∷ G) G)) (sym (ne_eqb x a ne)) (by (p a) F G (filter_one p x (a + 1) n (omega arith) (omega arith) out)))
    (same_or x a)
  where
    by : (t : Bool) (F G : List ℕ) → IsPermutation (x ∷ F) G → IsPermutation (x ∷ cond t (a ∷ F) F) (cond t (a ∷ G) G)
    by true F G h = IsPermutation-trans (x ∷ a ∷ F) (a ∷ x ∷ F) (a ∷ G) (IsPermutation-middle (x ∷ []) a F) (IsPermutation-cons a (x ∷ F) G h)
    by false F G h = h

-- numbers that differ are those numbers in their order
pub in_order : (xs : List ℕ) (n : ℕ) → Differ xs → ((p : ℕ) → p < length xs → slice_index xs p < n) → IsPermutation xs (filter (λ b. list_any (λ x. x == b) xs) (range_with_len 0 n))
in_order [] n differ below = subst (IsPermutation []) (sym (nothing 0 n)) (IsPermutation-refl [])
  where
    nothing : (a n : ℕ) → filter (λ b. false) (range_with_len a n) ≡ []
    nothing a zero = refl
    nothing a (suc n) = nothing (a + 1) n
in_order (x ∷ xs) n differ below =
    let rest = in_order xs n (λ p q l h. differ (suc p) (suc q) (omega arith) (omega arith)) (λ p l. below (suc p) (omega arith)) in
    let out : list_any (λ y. y == x) xs ≡ false = none xs (λ p l e. differ 0 (suc p) (omega arith) (omega arith) (sym e)) in
    IsPermutation-trans (x ∷ xs) (x ∷ filter (λ b. list_any (λ y. y == b) xs) (range_with_len 0 n)) (filter (λ b. list_any (λ y. y == b) (x ∷ xs)) (range_with_len 0 n))
    (IsPermutation-cons x xs (filter (λ b. list_any (λ y. y == b) xs) (range_with_len 0 n)) rest)
    (filter_one (λ b. list_any (λ y. y == b) xs) x 0 n (omega arith) (let t = below 0 (omega arith) in omega arith) out)
  where
    none : (ys : List ℕ) → ((p : ℕ) → p < length ys → slice_index ys p ≢ x) → list_any (λ y. y == x) ys ≡ false
    none [] apart = refl
    none (y ∷ ys) apart = ap (λ t. t || list_any (λ z. z == x) ys) (ne_eqb y x (apart 0 (omega arith))) ∙ none ys (λ p l. apart (suc p) (omega arith))
