-- An array without an empty bucket.
use Rattle.std.proofs.Common.{◌≡◌, ◌≢◌, ℕ, suc, ◌<◌, List, [], ◌∷◌, length, false, cond, not, None, refl, ◌∙◌, arith}
use Rattle.std.specs.Prelude.{slice_index, ◌==◌}
use Rattle.std.proofs.lemmas.Bool.{ne_eqb, both_ways}
use Rattle.std.proofs.lemmas.List.Sums.{sum_by-cons}
use Rattle.msg_buckets.specs.Probing.{ends, end_of, wrapped}
use Rattle.msg_buckets.specs.Array.{read_at, reads_of, find_in, occupied_in}
use Rattle.msg_buckets.proofs.PlaceLemmas.{step_of_place}
use Rattle.msg_buckets.proofs.EndLemmas.{none_ends, found_wrapped}
use Rattle.msg_buckets.proofs.FindLemmas.{length-reads_of, get_or-reads_of}

-- if no word is 0, each word counts
all_count : (words : List ℕ) → ((place : ℕ) → place < length words → slice_index words place ≢ 0) → occupied_in words ≡ length words
all_count [] h = refl
all_count (w ∷ ws) h =
    let rest : occupied_in ws ≡ length ws = all_count ws (λ place less. h (suc place) (omega arith)) in
    let here : (w == 0) ≡ false = ne_eqb w 0 (h 0 (omega arith)) in
    sum_by-cons (λ word. cond (not (word == 0)) 1 0) w ws ∙ rw here (omega arith)

-- a probe that doesn't end has passed each place
passed_place : (words : List ℕ) (sel place : ℕ) → end_of sel (reads_of words sel) ≡ None → place < length words → ends sel (slice_index words place) ≡ false
passed_place words sel place none less =
    let k = step_of_place sel (length words) place less in
    let passed = none_ends sel (reads_of words sel) none k.0 (read_at words 0) (omega (arith, length-reads_of words sel, k.1)) in
    rw (get_or-reads_of words sel k.0 k.1, k.2) at passed

pub wrapped_is_full : (words : List ℕ) (sel : ℕ) → find_in words sel ≡ wrapped → occupied_in words ≡ length words
unfolding find_in
wrapped_is_full words sel e =
    let none = found_wrapped (end_of sel (reads_of words sel)) e in
    all_count words (λ place less free. both_ways (ends sel (slice_index words place)) (passed_place words sel place none less) (rw free refl))
