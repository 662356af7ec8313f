-- Rows in buckets, in which every row is linked to the one before it.
use Rattle.std.specs.Prelude.{◌≡◌, ◌<◌, ◌≤◌, ◌≢◌, ◌+◌, ◌-◌, ◌*◌, ◌/◌, ℕ, List, length, slice_index_or, bit_and}

-- the bucket of a selector's number, among this number of buckets
abbrev pub bucket_of : ℕ → ℕ → ℕ
bucket_of count s = bit_and (s + s * 2654435769 / 137438953472) (count - 1)

-- the bucket of the row at a place
abbrev pub bucket_at : ℕ → List (ℕ × ℕ) → ℕ → ℕ
bucket_at count rows i = bucket_of count (slice_index_or rows i (0, 0)).0

-- `link` is 1 more than the place of the last of the first k rows that is in the bucket b, or 0 if
-- none is
pub record IsLast (count : ℕ) (rows : List (ℕ × ℕ)) (b k link : ℕ) : Type 0 where
  pub within : link ≤ k
  pub there : (i : ℕ) → link ≡ i + 1 → bucket_at count rows i ≡ b
  pub last : (j : ℕ) → link ≤ j → j < k → bucket_at count rows j ≢ b

-- among the first k rows each bucket has its last row, and each row the one before it in its bucket
pub record AreLinked (rows : List (ℕ × ℕ)) (k : ℕ) (older newest : List ℕ) : Type 0 where
  pub buckets : (b : ℕ) → b < length newest → IsLast (length newest) rows b k (slice_index_or newest b 0)
  pub before : (i : ℕ) → i < k → IsLast (length newest) rows (bucket_at (length newest) rows i) i (slice_index_or older i 0)
