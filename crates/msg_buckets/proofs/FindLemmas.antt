-- A probe of an array, after some steps.
use Rattle.std.proofs.Common.{◌≡◌, ◌≢◌, ℕ, ◌+◌, ◌<◌, ◌≤◌, [], ◌∷◌, ◌++◌, List, length, take, drop, get_or, Some, None, refl, sym, ap, ◌∙◌, arith}
use Rattle.std.specs.Prelude.{slice_index}
use Rattle.std.proofs.lemmas.List.{length-map, take_all, take_more, take-append-drop}
use Rattle.std.proofs.lemmas.List.Folds.{find-append}
use Rattle.std.proofs.lemmas.List.FromFn.{length-map-range_with_len, get_or-map-range_with_len}
use Rattle.std.proofs.Math.ListN.{get_or-map}
use Rattle.msg_buckets.specs.Word.{sel_of, imp_of}
use Rattle.msg_buckets.specs.Probing.{probe_place, probe_places, ends, end_of, hit, empty, wrapped, found_at}
use Rattle.msg_buckets.specs.Array.{read_at, reads_of, find_in}
use Rattle.msg_buckets.proofs.EndLemmas.{read_ends, read_passes, same_ends, free_ends, other_passes, found_at-same, found_at-free}

pub length-reads_of : (words : List ℕ) (sel : ℕ) → length (reads_of words sel) ≡ length words
unfolding reads_of
length-reads_of words sel = length-map (probe_places sel (length words)) (read_at words) ∙ length-map-range_with_len (probe_place sel (length words)) 0 (length words)

pub get_or-reads_of : (words : List ℕ) (sel k : ℕ) → k < length words → get_or (reads_of words sel) k (read_at words 0) ≡ read_at words (probe_place sel (length words) k)
unfolding reads_of
get_or-reads_of words sel k h =
    let place = get_or-map-range_with_len (probe_place sel (length words)) 0 (length words) k k 0 h (omega arith) in
    get_or-map (read_at words) (probe_places sel (length words)) k 0 ∙ ap (read_at words) place

-- what k steps read
abbrev pub reads_before : List ℕ → ℕ → ℕ → List (ℕ × ℕ)
reads_before words sel k = take k (reads_of words sel)

-- a probe that has ended stays ended
ended : (words : List ℕ) (sel k : ℕ) (read : ℕ × ℕ) → end_of sel (reads_before words sel k) ≡ Some read → find_in words sel ≡ found_at (Some read)
unfolding find_in
ended words sel k read e =
    ap (λ reads. found_at (end_of sel reads)) (sym (take-append-drop k (reads_of words sel))) ∙ ap found_at (find-append (λ r. ends sel r.1) (reads_before words sel k) (drop k (reads_of words sel))) ∙ rw e refl

-- a probe that didn't end in the whole array has wrapped
pub find_in-wrapped : (words : List ℕ) (sel k : ℕ) → end_of sel (reads_before words sel k) ≡ None → length words ≤ k → find_in words sel ≡ wrapped
unfolding find_in
find_in-wrapped words sel k none all =
    let whole : reads_before words sel k ≡ reads_of words sel = take_all k (reads_of words sel) (omega (arith, length-reads_of words sel)) in
    rw (← whole, none) refl

-- the step after k words that didn't end the probe
module _ (words : List ℕ) (sel k place : ℕ) (none : end_of sel (reads_before words sel k) ≡ None) (here : k < length words) (at : place ≡ probe_place sel (length words) k) where
  next_read : reads_before words sel (k + 1) ≡ reads_before words sel k ++ read_at words place ∷ []
  next_read =
      let within : k < length (reads_of words sel) = omega (arith, length-reads_of words sel) in
      take_more (reads_of words sel) k (read_at words 0) within ∙ ap (λ read. reads_before words sel k ++ read ∷ []) (get_or-reads_of words sel k here ∙ ap (read_at words) (sym at))

  pub find_in-hit : 0 < sel → sel_of (slice_index words place) ≡ sel → find_in words sel ≡ hit (imp_of (slice_index words place))
  find_in-hit positive same =
      ended words sel (k + 1) (read_at words place) (rw next_read (read_ends sel (reads_before words sel k) (read_at words place) none (same_ends sel (slice_index words place) same))) ∙ found_at-same sel place (slice_index words place) positive same

  pub find_in-empty : slice_index words place ≡ 0 → find_in words sel ≡ empty place
  find_in-empty free =
      ended words sel (k + 1) (read_at words place) (rw next_read (read_ends sel (reads_before words sel k) (read_at words place) none (free_ends sel (slice_index words place) free))) ∙ found_at-free place (slice_index words place) free

  pub none_yet : slice_index words place ≢ 0 → sel_of (slice_index words place) ≢ sel → end_of sel (reads_before words sel (k + 1)) ≡ None
  none_yet some other = rw next_read (read_passes sel (reads_before words sel k) (read_at words place) none (other_passes sel (slice_index words place) some other))
