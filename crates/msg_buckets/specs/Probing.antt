-- The order of a probe, and what it finds in the words that it reads.
use Rattle.std.specs.Prelude.{ℕ, ◌+◌, ◌%◌, List, map, find, Bool, ◌==◌, ◌||◌, if◌then◌else◌, Option, Some, None}
use Rattle.std.specs.List.{range_with_len}
use Rattle.msg_buckets.specs.Word.{sel_of, imp_of}

-- the place that a probe of the selector visits after k others: it begins at the selector's own
-- place, and goes round. A capacity is a power of two, so this is the mask `& (capacity - 1)`.
abbrev pub probe_place : ℕ → ℕ → ℕ → ℕ
probe_place sel capacity k = (sel + k) % capacity

-- the places of an array in the order in which a probe of the selector visits them
abbrev pub probe_places : ℕ → ℕ → List ℕ
probe_places sel capacity = map (probe_place sel capacity) (range_with_len 0 capacity)

-- a word at which a probe of the selector ends: an empty bucket, or one that has the selector
abbrev pub ends : ℕ → ℕ → Bool
ends sel word = word == 0 || sel_of word == sel

-- the first of the places that were read, each with its word, at which a probe of the selector ends
abbrev pub end_of : ℕ → List (ℕ × ℕ) → Option (ℕ × ℕ)
end_of sel reads = find (λ read. ends sel read.1) reads

-- what a probe finds: an implementation, an empty bucket at a place, or neither in the whole array
pub data Found : Type 0 where
  hit : ℕ → Found
  empty : ℕ → Found
  wrapped : Found

-- what a probe that ended there has found
abbrev pub found_at : Option (ℕ × ℕ) → Found
found_at None = wrapped
found_at (Some read) = if read.1 == 0 then empty read.0 else hit (imp_of read.1)

-- the implementation of a hit
abbrev pub hit_of : Found → Option ℕ
hit_of (hit imp) = Some imp
hit_of (empty place) = None
hit_of wrapped = None
