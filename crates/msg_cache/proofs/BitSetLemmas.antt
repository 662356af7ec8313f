-- A set of numbers, bit by bit.
use Rattle.std.proofs.Common.{◌≡◌, ◌≢◌, ℕ, ◌+◌, ◌-◌, ◌*◌, ◌/◌, ◌%◌, ◌^◌, ◌<◌, ◌≤◌, List, length, replicate, Bool, true, false, ◌==◌, sym, ap, ◌∙◌, ⊎_elim, arith, w64}
use Rattle.std.specs.Prelude.{slice_index, slice_index_or, slice_set}
use Rattle.std.specs.Int.{bit_at, trailing_zeros}
use Rattle.std.proofs.lemmas.Bool.{cases_lt, cases_eq}
use Rattle.std.proofs.lemmas.List.{get_or_past, get_or-set_other, get_or-set_same, length-replicate, get_or-replicate}
use Rattle.std.proofs.lemmas.List.FromFn.{fill_by_all, get_or-map-range_with_len, length-map-range_with_len}
use Rattle.std.proofs.lemmas.Nat.{shr-shr}
use Rattle.std.proofs.lemmas.Nat.Bits.{bit_at-zero, bit_at_ones, bit_at-trailing_zeros, bit_at_above}
use Rattle.std.proofs.Math.ListN.{length-set}
use Rattle.msg_cache.specs.BitSet.{bit_of, members}

module _ (words : List ℕ) (limit : ℕ) where
  pub members_length : length (members words limit) ≡ limit
  members_length = length-map-range_with_len (λ a. bit_of words a == 1) 0 limit

  pub member_is : (a : ℕ) (d : Bool) → a < limit → slice_index_or (members words limit) a d ≡ (bit_of words a == 1)
  member_is a d lt = get_or-map-range_with_len (λ b. bit_of words b == 1) 0 limit a a d lt (omega arith)

  pub member_past : (a : ℕ) → limit ≤ a → slice_index_or (members words limit) a false ≡ false
  member_past a le = get_or_past (members words limit) a false (omega (arith, members_length))

  -- a bit that is 0 is no member's
  pub member_not : (a : ℕ) → bit_of words a ≡ 0 → slice_index_or (members words limit) a false ≡ false
  member_not a e = ⊎_elim (λ (lt : a < limit). member_is a false lt ∙ ap (λ b. b == 1) e) (λ (le : limit ≤ a). member_past a le) (cases_lt a limit)

  pub are_members : (l : List Bool) → length l ≡ limit → ((a : ℕ) → a < limit → slice_index_or l a false ≡ (bit_of words a == 1)) → l ≡ members words limit
  are_members l long each = fill_by_all (λ a. bit_of words a == 1) l limit false long each

-- all bits are 1
pub all_members : (n limit : ℕ) → limit ≤ 64 * n → members (replicate n (2 ^ 64 - 1)) limit ≡ replicate limit true
all_members n limit room = sym (are_members (replicate n (2 ^ 64 - 1)) limit (replicate limit true) (length-replicate limit true) (λ a lt.
    get_or-replicate limit a true false lt
    ∙ sym (ap (λ b. b == 1) (ap (λ w. bit_at w (a % 64)) (get_or-replicate n (a / 64) (2 ^ 64 - 1) 0 (omega arith)) ∙ bit_at_ones 64 (a % 64) (omega arith)))))

-- one word is written over, so that one number comes in or goes out
module _ (words : List ℕ) (limit a w b : ℕ) (inside : a < limit) (room : limit ≤ 64 * length words)
    (here : bit_at w (a % 64) ≡ b) (others : (i : ℕ) → i < 64 → i ≢ a % 64 → bit_at w i ≡ bit_at (slice_index words (a / 64)) i) where
  bit_written : (c : ℕ) → c ≢ a → bit_of (slice_set words (a / 64) w) c ≡ bit_of words c
  bit_written c ne = ⊎_elim
      (λ (e : c / 64 ≡ a / 64).
      ap (λ x. bit_at x (c % 64)) (ap (slice_index (slice_set words (a / 64) w)) e ∙ get_or-set_same words (a / 64) w 0 (omega arith)) ∙ others (c % 64) (omega arith) (λ f. ne (omega arith)) ∙ ap (λ q. bit_at (slice_index words q) (c % 64)) (sym e))
      (λ (apart : c / 64 ≢ a / 64). ap (λ x. bit_at x (c % 64)) (get_or-set_other words (a / 64) (c / 64) w 0 apart))
      (cases_eq (c / 64) (a / 64))

  pub members_written : members (slice_set words (a / 64) w) limit ≡ slice_set (members words limit) a (b == 1)
  members_written =
      let old = members words limit in
      sym (are_members (slice_set words (a / 64) w) limit (slice_set old a (b == 1)) (length-set old a (b == 1) ∙ members_length words limit) (λ c lt. ⊎_elim
      (λ (e : c ≡ a). ap (λ x. slice_index_or (slice_set old a (b == 1)) x false) e ∙ get_or-set_same old a (b == 1) false (omega (arith, members_length words limit))
      ∙ ap (λ x. x == 1) (sym here ∙ ap (λ x. bit_at x (a % 64)) (sym (get_or-set_same words (a / 64) w 0 (omega arith)))) ∙ ap (λ x. bit_of (slice_set words (a / 64) w) x == 1) (sym e))
      (λ (ne : c ≢ a). get_or-set_other old a c (b == 1) false ne ∙ member_is words limit c false lt ∙ ap (λ x. x == 1) (sym (bit_written c ne)))
      (cases_eq c a)))

-- ---- a search within a word

shifted : (w s i : ℕ) → bit_at (w / 2 ^ s) i ≡ bit_at w (s + i)
shifted w s i = ap (λ x. x % 2) (shr-shr w s i)

module _ (words : List ℕ) (from rest : ℕ) (is : rest ≡ slice_index words (from / 64) / 2 ^ (from % 64)) where
  -- a bit of the word, from that number on
  bit_on : (a : ℕ) → from ≤ a → a < 64 * (from / 64 + 1) → bit_of words a ≡ bit_at rest (a - from)
  bit_on a low high =
      let word : a / 64 ≡ from / 64 = omega arith in
      let place : a % 64 ≡ from % 64 + (a - from) = omega arith in
      (λ i. bit_at (slice_index words (word i)) (place i)) ∙ sym (shifted (slice_index words (from / 64)) (from % 64) (a - from)) ∙ ap (λ x. bit_at x (a - from)) (sym is)

  pub none_on : rest ≡ 0 → (a : ℕ) → from ≤ a → a < 64 * (from / 64 + 1) → bit_of words a ≡ 0
  none_on e a low high = bit_on a low high ∙ ap (λ x. bit_at x (a - from)) e ∙ bit_at-zero (a - from)

  pub lowest_on : rest ≢ 0 → slice_index words (from / 64) < 2 ^ 64 → rest < 2 ^ 64
      → (from + trailing_zeros w64 rest < 64 * (from / 64 + 1)) × (bit_of words (from + trailing_zeros w64 rest) ≡ 1) × ((a : ℕ) → from ≤ a → a < from + trailing_zeros w64 rest → bit_of words a ≡ 0)
  lowest_on some fits less =
      let t = bit_at-trailing_zeros w64 rest (omega arith) less in
      let n = trailing_zeros w64 rest in
      let end : from % 64 + n < 64 = ⊎_elim
      (λ (l : from % 64 + n < 64). l)
      (λ (g : 64 ≤ from % 64 + n). absurd (let z = bit_at_above (slice_index words (from / 64)) 64 (from % 64 + n) fits g in let one = t.1 in
      let same = shifted (slice_index words (from / 64)) (from % 64) n in let r = ap (λ x. bit_at x n) is in omega (arith, z, one, same, r)))
      (cases_lt (from % 64 + n) 64) in
      let high : from + n < 64 * (from / 64 + 1) = omega arith in
      let back : from + n - from ≡ n = omega arith in (
        high,
        bit_on (from + n) (omega arith) high ∙ ap (bit_at rest) back ∙ t.1,
        λ a low l. bit_on a low (omega arith) ∙ t.2 (a - from) (omega arith),
      )
