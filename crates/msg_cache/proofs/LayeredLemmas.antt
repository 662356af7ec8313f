-- A set of numbers in layers: what is over a set says of each of its words whether it has some.
use Rattle.std.proofs.Common.{◌≡◌, ◌≢◌, ℕ, ◌+◌, ◌*◌, ◌/◌, ◌<◌, ◌≤◌, List, length, replicate, Bool, true, false, true≢false, sym, ap, ◌∙◌, ⊎_elim, arith}
use Rattle.std.specs.Prelude.{slice_index_or, slice_set}
use Rattle.std.proofs.lemmas.Bool.{cases_lt, cases_eq}
use Rattle.std.proofs.lemmas.List.{get_or_past, get_or-set_other, get_or-set_same, length-replicate, get_or-replicate}
use Rattle.std.proofs.Math.ListN.{length-set}
use Rattle.msg_cache.specs.BitSet.{HasNone, IsFirst}
use Rattle.msg_cache.specs.LayeredSet.{IsSummary}

true_not : {A : Type 0} (b : Bool) → b ≡ true → b ≡ false → A
true_not b e f = absurd (true≢false (sym e ∙ f))

-- what is true is inside
inside_true : (flags : List Bool) (a : ℕ) → slice_index_or flags a false ≡ true → a < length flags
inside_true flags a e = ⊎_elim (λ (l : a < length flags). l) (λ (g : length flags ≤ a). true_not (slice_index_or flags a false) e (get_or_past flags a false g)) (cases_lt a (length flags))

-- ---- a search goes on in the words over it

module _ (flags over : List Bool) (from : ℕ) (is : IsSummary flags over) (here : HasNone flags from (64 * (from / 64 + 1))) where
  pub over_none : HasNone over (from / 64 + 1) (length over) → HasNone flags from (length flags)
  over_none none a low high = ⊎_elim
      (λ (l : a < 64 * (from / 64 + 1)). here a low l)
      (λ (g : 64 * (from / 64 + 1) ≤ a). is.none (a / 64) (none (a / 64) (omega (arith, g)) (omega (arith, high, is.room))) a (omega arith) (omega arith))
      (cases_lt a (64 * (from / 64 + 1)))

  pub over_first : (word found : ℕ) → IsFirst over (from / 64 + 1) word → IsFirst flags (64 * word) found → IsFirst flags from found
  over_first word found w f = record {
    low = omega (arith, w.low, f.low);
    inside = f.inside;
    is = f.is;
    none = λ a low high. ⊎_elim
        (λ (l : a < 64 * (from / 64 + 1)). here a low l)
        (λ (g : 64 * (from / 64 + 1) ≤ a). ⊎_elim
        (λ (l : a < 64 * word). is.none (a / 64) (w.none (a / 64) (omega (arith, g)) (omega (arith, l))) a (omega arith) (omega arith))
        (λ (g : 64 * word ≤ a). f.none a g high)
        (cases_lt a (64 * word)))
        (cases_lt a (64 * (from / 64 + 1)));
  }

-- ---- all of both

pub summary_all : (n m : ℕ) → n ≤ 64 * m → 64 * m < n + 64 → IsSummary (replicate n true) (replicate m true)
summary_all n m room tight = record {
  room = omega (arith, room, length-replicate n true, length-replicate m true);
  tight = omega (arith, tight, length-replicate n true, length-replicate m true);
  none = λ k e a low high. ⊎_elim
      (λ (l : k < m). true_not (slice_index_or (replicate m true) k false) (get_or-replicate m k true false l) e)
      (λ (g : m ≤ k). get_or_past (replicate n true) a false (omega (arith, g, low, room, length-replicate n true)))
      (cases_lt k m);
  some = λ k e.
      let l : k < m = omega (arith, inside_true (replicate m true) k e, length-replicate m true) in
      (64 * k, omega arith, get_or-replicate n (64 * k) true false (omega (arith, l, tight)));
}

-- ---- a number comes in, or goes out

module _ (flags over : List Bool) (n : ℕ) (is : IsSummary flags over) (inside : n < length flags) where
  pub summary_in : IsSummary (slice_set flags n true) (slice_set over (n / 64) true)
  summary_in = record {
    room = omega (arith, is.room, length-set flags n true, length-set over (n / 64) true);
    tight = omega (arith, is.tight, length-set flags n true, length-set over (n / 64) true);
    none = λ k e a low high. ⊎_elim
        (λ (same : k ≡ n / 64). true_not (slice_index_or (slice_set over (n / 64) true) k false)
        (ap (λ i. slice_index_or (slice_set over (n / 64) true) i false) same ∙ get_or-set_same over (n / 64) true false (omega (arith, inside, is.room))) e)
        (λ (ne : k ≢ n / 64). get_or-set_other flags n a true false (λ f. ne (omega (arith, f, low, high))) ∙ is.none k (sym (get_or-set_other over (n / 64) k true false ne) ∙ e) a low high)
        (cases_eq k (n / 64));
    some = λ k e. ⊎_elim
        (λ (same : k ≡ n / 64). (n, sym same, get_or-set_same flags n true false inside))
        (λ (ne : k ≢ n / 64).
        let w = is.some k (sym (get_or-set_other over (n / 64) k true false ne) ∙ e) in
        (w.0, w.1, get_or-set_other flags n w.0 true false (λ f. ne (sym w.1 ∙ ap (λ i. i / 64) f)) ∙ w.2))
        (cases_eq k (n / 64));
  }

  -- others of its word stay
  pub summary_left : (a : ℕ) → a / 64 ≡ n / 64 → slice_index_or (slice_set flags n false) a false ≡ true → IsSummary (slice_set flags n false) over
  summary_left a word left = record {
    room = omega (arith, is.room, length-set flags n false);
    tight = omega (arith, is.tight, length-set flags n false);
    none = λ k e b low high. ⊎_elim
        (λ (same : b ≡ n). ap (λ i. slice_index_or (slice_set flags n false) i false) same ∙ get_or-set_same flags n false false inside)
        (λ (ne : b ≢ n). get_or-set_other flags n b false false ne ∙ is.none k e b low high)
        (cases_eq b n);
    some = λ k e. ⊎_elim
        (λ (same : k ≡ n / 64). (a, word ∙ sym same, left))
        (λ (ne : k ≢ n / 64).
        let w = is.some k e in
        (w.0, w.1, get_or-set_other flags n w.0 false false (λ f. ne (sym w.1 ∙ ap (λ i. i / 64) f)) ∙ w.2))
        (cases_eq k (n / 64));
  }

  -- it was the last of its word
  pub summary_last : HasNone (slice_set flags n false) (64 * (n / 64)) (64 * (n / 64 + 1)) → IsSummary (slice_set flags n false) (slice_set over (n / 64) false)
  summary_last none = record {
    room = omega (arith, is.room, length-set flags n false, length-set over (n / 64) false);
    tight = omega (arith, is.tight, length-set flags n false, length-set over (n / 64) false);
    none = λ k e b low high. ⊎_elim
        (λ (same : k ≡ n / 64). none b (omega (arith, same, low)) (omega (arith, same, high)))
        (λ (ne : k ≢ n / 64). get_or-set_other flags n b false false (λ f. ne (omega (arith, f, low, high))) ∙ is.none k (sym (get_or-set_other over (n / 64) k false false ne) ∙ e) b low high)
        (cases_eq k (n / 64));
    some = λ k e. ⊎_elim
        (λ (same : k ≡ n / 64). true_not (slice_index_or (slice_set over (n / 64) false) k false) e
        (ap (λ i. slice_index_or (slice_set over (n / 64) false) i false) same ∙ get_or-set_same over (n / 64) false false (omega (arith, inside, is.room))))
        (λ (ne : k ≢ n / 64).
        let w = is.some k (sym (get_or-set_other over (n / 64) k false false ne) ∙ e) in
        (w.0, w.1, get_or-set_other flags n w.0 false false (λ f. ne (sym w.1 ∙ ap (λ i. i / 64) f)) ∙ w.2))
        (cases_eq k (n / 64));
  }
