-- Arrays of buckets.
use Rattle.std.specs.Prelude.{◌≡◌, ◌≢◌, ℕ, List, length, map, count_by, slice_index, slice_set, ◌==◌, not, Option, Some}
use Rattle.msg_names.specs.Number.{imp_number}
use Rattle.msg_buckets.specs.declared.array.Probe.{Probe}
use Rattle.msg_buckets.specs.declared.array.Probe.TheVariants.{Hit, Empty, Wrapped}
use Rattle.msg_buckets.specs.declared.array.Placed.{Placed}
use Rattle.msg_buckets.specs.declared.array.Placed.TheVariants.{Present, At, Full}
use Rattle.msg_buckets.specs.Word.{sel_of, word_of}
use Rattle.msg_buckets.specs.Probing.{probe_places, end_of, Found, hit, empty, wrapped, found_at, hit_of}

-- a place of an array, with its word
abbrev pub read_at : List ℕ → ℕ → ℕ × ℕ
read_at words place = (place, slice_index words place)

-- what a probe of the selector that goes all round the array reads
unfoldable pub reads_of : List ℕ → ℕ → List (ℕ × ℕ)
reads_of words sel = map (read_at words) (probe_places sel (length words))

-- what a probe of the selector finds in the array
unfoldable pub find_in : List ℕ → ℕ → Found
find_in words sel = found_at (end_of sel (reads_of words sel))

-- the implementation that a probe of the selector hits, if it hits one
abbrev pub hit_in : List ℕ → ℕ → Option ℕ
hit_in words sel = hit_of (find_in words sel)

-- the result of a probe of the program
abbrev pub found_of : Probe → Found
found_of (Hit imp) = hit (imp_number imp)
found_of (Empty place) = empty place
found_of Wrapped = wrapped

-- a fact about the place of the empty bucket, if the result is one
abbrev pub IfEmpty : Probe → (ℕ → Type 0) → Type 0
IfEmpty (Hit imp) P = Unit {0}
IfEmpty (Empty place) P = P place
IfEmpty Wrapped P = Unit {0}

-- a fact that holds if the probe wrapped
abbrev pub OnWrapped : Probe → Type 0 → Type 0
OnWrapped (Hit imp) P = Unit {0}
OnWrapped (Empty place) P = Unit {0}
OnWrapped Wrapped P = P

-- a fact that holds if an entry was put
abbrev pub OnAt : Placed → Type 0 → Type 0
OnAt Present P = Unit {0}
OnAt (At place) P = P
OnAt Full P = Unit {0}

-- what is done with an entry, by what the probe of its selector found
abbrev pub placed_of : Found → Placed
placed_of (hit imp) = Present
placed_of (empty place) = At place
placed_of wrapped = Full

-- the words after an entry was put, by what the probe of its selector found
abbrev pub words_after : Found → ℕ → List ℕ → List ℕ
words_after (hit imp) word words = words
words_after (empty place) word words = slice_set words place word
words_after wrapped word words = words

-- the array after an entry was put into it
abbrev pub put_in : List ℕ → ℕ → ℕ → List ℕ
put_in words sel imp = words_after (find_in words sel) (word_of sel imp) words

-- the number of entries of an array
abbrev pub occupied_in : List ℕ → ℕ
occupied_in words = count_by (λ word. not (word == 0)) words

-- a probe of the selector ends at this place of the array
abbrev pub EndsAt : List ℕ → ℕ → ℕ → Type 0
EndsAt words sel place = end_of sel (reads_of words sel) ≡ Some (read_at words place)

-- each entry is where a probe of its selector ends: none is hidden after an empty bucket or after
-- another entry of its selector
pub record IsReachable (words : List ℕ) : Type 0 where
  pub reached : (place : ℕ) → slice_index words place ≢ 0 → EndsAt words (sel_of (slice_index words place)) place
