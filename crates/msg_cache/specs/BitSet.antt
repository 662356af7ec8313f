-- The contracts' view of a set of numbers.
use Rattle.std.specs.Prelude.{◌≡◌, ℕ, ◌*◌, ◌^◌, ◌/◌, ◌%◌, ◌==◌, ◌<◌, ◌≤◌, List, Bool, true, false, length, map, slice_index, slice_index_or}
use Rattle.std.specs.Int.{bit_at}
use Rattle.std.specs.List.{range_with_len}
use Rattle.msg_cache.specs.declared.bit_set.BitSet.TheInside.{Inside}

-- the bit of a number
abbrev pub bit_of : List ℕ → ℕ → ℕ
bit_of words a = bit_at (slice_index words (a / 64)) (a % 64)

-- of each number below the limit, whether the set has it
abbrev pub members : List ℕ → ℕ → List Bool
members words limit = map (λ a. bit_of words a == 1) (range_with_len 0 limit)

-- a set is the list of its flags
abbrev pub set_view : Inside → List Bool
set_view s = members s.words.items s.limit

-- there is a bit for each number
pub record IsBitSet (s : Inside) : Type 0 where
  pub room : s.limit ≤ 64 * length s.words.items
  pub few : s.limit < 2 ^ 32

-- no number of the set from one up to another
abbrev pub HasNone : List Bool → ℕ → ℕ → Type 0
HasNone flags from until = (a : ℕ) → from ≤ a → a < until → slice_index_or flags a false ≡ false

-- some number of the set is in this word
abbrev pub HasSomeInWord : List Bool → ℕ → Type 0
HasSomeInWord flags word = (a : ℕ) × (a / 64 ≡ word) × (slice_index_or flags a false ≡ true)

-- the lowest number of the set from one on
pub record IsFirst (flags : List Bool) (from found : ℕ) : Type 0 where
  pub low : from ≤ found
  pub inside : found < length flags
  pub is : slice_index_or flags found false ≡ true
  pub none : HasNone flags from found
