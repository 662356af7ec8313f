-- Where a probe ends among the words that it reads.
use Rattle.std.proofs.Common.{◌≡◌, ◌≢◌, ℕ, zero, suc, ◌+◌, ◌<◌, Bool, true, false, cond, List, [], ◌∷◌, ◌++◌, length, map, get_or, Option, Some, None, refl, sym, ap, ◌∙◌, arith, inl, inr}
use Rattle.std.specs.Prelude.{slice_index, ◌==◌}
use Rattle.std.specs.List.{range_with_len}
use Rattle.std.proofs.lemmas.Bool.{eqb-true, eqb-false, eq-eqb, ne_eqb, or_left, or_right, or_from, or_cases, both_ways}
use Rattle.std.proofs.lemmas.List.Folds.{find-append}
use Rattle.std.proofs.lemmas.Nat.{mod_below}
use Rattle.std.proofs.lemmas.Option.{same_Some}
use Rattle.msg_buckets.specs.Word.{sel_of, imp_of}
use Rattle.msg_buckets.specs.Probing.{probe_place, ends, end_of, Found, hit, empty, wrapped, found_at, hit_of}
use Rattle.msg_buckets.specs.Array.{read_at, reads_of, find_in, hit_in, EndsAt}

-- which words end a probe, and what it finds there
pub same_ends : (sel word : ℕ) → sel_of word ≡ sel → ends sel word ≡ true
same_ends sel word same = or_right (word == 0) (sel_of word == sel) (eq-eqb (sel_of word) sel same)

pub free_ends : (sel word : ℕ) → word ≡ 0 → ends sel word ≡ true
free_ends sel word free = or_left (word == 0) (sel_of word == sel) (eq-eqb word 0 free)

pub other_passes : (sel word : ℕ) → word ≢ 0 → sel_of word ≢ sel → ends sel word ≡ false
other_passes sel word some other = or_from (word == 0) (sel_of word == sel) (ne_eqb word 0 some) (ne_eqb (sel_of word) sel other)

pub found_at-same : (sel place word : ℕ) → 0 < sel → sel_of word ≡ sel → found_at (Some (place, word)) ≡ hit (imp_of word)
found_at-same sel place word positive same =
    let some : word ≢ 0 = λ free. absurd (omega (arith, same, ap sel_of free)) in
    rw (ne_eqb word 0 some) refl

pub found_at-free : (place word : ℕ) → word ≡ 0 → found_at (Some (place, word)) ≡ empty place
found_at-free place word free = rw free refl

-- one more word, read after words none of which ended the probe
module _ (sel : ℕ) (reads : List (ℕ × ℕ)) (read : ℕ × ℕ) (none : end_of sel reads ≡ None) where
  pub read_ends : ends sel read.1 ≡ true → end_of sel (reads ++ read ∷ []) ≡ Some read
  read_ends is = find-append (λ r. ends sel r.1) reads (read ∷ []) ∙ rw (none, is) refl

  pub read_passes : ends sel read.1 ≡ false → end_of sel (reads ++ read ∷ []) ≡ None
  read_passes is = find-append (λ r. ends sel r.1) reads (read ∷ []) ∙ rw (none, is) refl

-- a probe ends at one of the places that it reads, and the word there ends it
end_at : (sel : ℕ) (words : List ℕ) (f : ℕ → ℕ) (ks : List ℕ) (read : ℕ × ℕ) → end_of sel (map (read_at words) (map f ks)) ≡ Some read → (k : ℕ) × (read ≡ read_at words (f k)) × (ends sel read.1 ≡ true)
end_at sel words f [] read e = cc
end_at sel words f (k ∷ ks) read e = at_test (ends sel (slice_index words (f k))) refl (end_at sel words f ks read) e
  where
    at_test : (b : Bool) → ends sel (slice_index words (f k)) ≡ b → (end_of sel (map (read_at words) (map f ks)) ≡ Some read → (j : ℕ) × (read ≡ read_at words (f j)) × (ends sel read.1 ≡ true))
        → cond b (Some (read_at words (f k))) (end_of sel (map (read_at words) (map f ks))) ≡ Some read → (j : ℕ) × (read ≡ read_at words (f j)) × (ends sel read.1 ≡ true)
    at_test true is rest e = let same : read_at words (f k) ≡ read = same_Some (read_at words (f k)) read e in (k, sym same, rw (← same) is)
    at_test false is rest e = rest e

pub end_of-reads_of : (words : List ℕ) (sel : ℕ) (read : ℕ × ℕ) → end_of sel (reads_of words sel) ≡ Some read → (read ≡ read_at words read.0) × (read.0 < length words) × (ends sel read.1 ≡ true)
unfolding reads_of
end_of-reads_of [] sel read e = cc
end_of-reads_of (w ∷ ws) sel read e =
    let words : List ℕ = w ∷ ws in
    let at = end_at sel words (probe_place sel (length words)) (range_with_len 0 (length words)) read e in
    let same : read.0 ≡ probe_place sel (length words) at.0 = ap (λ (r : ℕ × ℕ). r.0) at.1 in
    (at.1 ∙ ap (read_at words) (sym same), rw same (mod_below (sel + at.0) (length words) (omega arith)), at.2)

-- if a probe doesn't end, no word ends it
pub none_ends : (sel : ℕ) (reads : List (ℕ × ℕ)) → end_of sel reads ≡ None → (k : ℕ) (d : ℕ × ℕ) → k < length reads → ends sel (get_or reads k d).1 ≡ false
none_ends sel [] e k d h = absurd (omega arith)
none_ends sel (x ∷ xs) e zero d h = at_test (ends sel x.1) e
  where
    at_test : (b : Bool) → cond b (Some x) (end_of sel xs) ≡ None → b ≡ false
    at_test true e = cc
    at_test false e = refl
none_ends sel (x ∷ xs) e (suc k) d h = none_ends sel xs (at_test (ends sel x.1) e) k d (omega arith)
  where
    at_test : (b : Bool) → cond b (Some x) (end_of sel xs) ≡ None → end_of sel xs ≡ None
    at_test true e = cc
    at_test false e = e

-- an end stays the end if the array changes only at an empty bucket
module _ (sel p q : ℕ) (old new : List ℕ) (free : slice_index old p ≡ 0) (others : (r : ℕ) → r ≢ p → slice_index new r ≡ slice_index old r) (still : ends sel (slice_index new q) ≡ true) where
  pub end_stays : (places : List ℕ) → end_of sel (map (read_at old) places) ≡ Some (read_at old q) → end_of sel (map (read_at new) places) ≡ Some (read_at new q)
  end_stays [] e = cc
  end_stays (r ∷ rs) e = at_test (ends sel (slice_index old r)) refl (end_stays rs) e
    where
      at_test : (b : Bool) → ends sel (slice_index old r) ≡ b → (end_of sel (map (read_at old) rs) ≡ Some (read_at old q) → end_of sel (map (read_at new) rs) ≡ Some (read_at new q)) → cond b (Some (read_at old r)) (end_of sel (map (read_at old) rs)) ≡ Some (read_at old q)
          → cond (ends sel (slice_index new r)) (Some (read_at new r)) (end_of sel (map (read_at new) rs)) ≡ Some (read_at new q)
      at_test true is rest e = let same : r ≡ q = ap (λ (x : ℕ × ℕ). x.0) (same_Some (read_at old r) (read_at old q) e) in rw (same, still) refl
      at_test false is rest e =
          let other : r ≢ p = λ same. both_ways (ends sel (slice_index old r)) is (rw (same, free) refl) in
          rw (others r other, is) (rest e)

-- what was found determines where the probe ended
found_empty : (o : Option (ℕ × ℕ)) (place : ℕ) → found_at o ≡ empty place → o ≡ Some (place, 0)
found_empty None place e = cc
found_empty (Some read) place e = at_test (read.1 == 0) refl e
  where
    at_test : (b : Bool) → (read.1 == 0) ≡ b → cond b (empty read.0) (hit (imp_of read.1)) ≡ empty place → Some read ≡ Some (place, 0)
    at_test true is e =
        let free : read.1 ≡ 0 = eqb-true read.1 0 is in
        let at : read.0 ≡ place = cc in
        ap (λ p. Some (p, read.1)) at ∙ ap (λ w. Some (place, w)) free
    at_test false is e = cc

found_hit : (o : Option (ℕ × ℕ)) (imp : ℕ) → found_at o ≡ hit imp → (read : ℕ × ℕ) × (o ≡ Some read) × (read.1 ≢ 0) × (imp_of read.1 ≡ imp)
found_hit None imp e = cc
found_hit (Some read) imp e = at_test (read.1 == 0) refl e
  where
    at_test : (b : Bool) → (read.1 == 0) ≡ b → cond b (empty read.0) (hit (imp_of read.1)) ≡ hit imp → (r : ℕ × ℕ) × (Some read ≡ Some r) × (r.1 ≢ 0) × (imp_of r.1 ≡ imp)
    at_test true is e = cc
    at_test false is e = (read, refl, eqb-false read.1 0 is, cc)

pub found_wrapped : (o : Option (ℕ × ℕ)) → found_at o ≡ wrapped → o ≡ None
found_wrapped None e = refl
found_wrapped (Some read) e = at_test (read.1 == 0) e
  where
    at_test : (b : Bool) → cond b (empty read.0) (hit (imp_of read.1)) ≡ wrapped → Some read ≡ None
    at_test true e = cc
    at_test false e = cc

-- a probe that finds an empty bucket ends there
pub empty_at : (words : List ℕ) (sel place : ℕ) → find_in words sel ≡ empty place → EndsAt words sel place × (place < length words) × (slice_index words place ≡ 0)
unfolding find_in
empty_at words sel place found =
    let is : end_of sel (reads_of words sel) ≡ Some (place, 0) = found_empty (end_of sel (reads_of words sel)) place found in
    let end = end_of-reads_of words sel (place, 0) is in
    let free : slice_index words place ≡ 0 = sym (ap (λ (r : ℕ × ℕ). r.1) end.0) in
    (is ∙ ap Some end.0, end.1, free)

-- an entry of the selector, with this implementation
abbrev pub HasEntry : List ℕ → ℕ → ℕ → Type 0
HasEntry words sel imp = (place : ℕ) × (slice_index words place ≢ 0) × (sel_of (slice_index words place) ≡ sel) × (imp_of (slice_index words place) ≡ imp)

-- a probe hits an entry of its selector
pub hit_entry : (words : List ℕ) (sel imp : ℕ) → hit_in words sel ≡ Some imp → HasEntry words sel imp
unfolding find_in
hit_entry words sel imp e =
    let read = found_hit (end_of sel (reads_of words sel)) imp (hit_of_some (found_at (end_of sel (reads_of words sel))) imp e) in
    let end = end_of-reads_of words sel read.0 read.1 in
    let word : read.0.1 ≡ slice_index words read.0.0 = ap (λ (r : ℕ × ℕ). r.1) end.0 in
    let has : sel_of read.0.1 ≡ sel = elim (or_cases (read.0.1 == 0) (sel_of read.0.1 == sel) end.2) [
      | inl free ↦ absurd (read.2 (eqb-true read.0.1 0 free))
      | inr same ↦ eqb-true (sel_of read.0.1) sel same
    ] in
    (read.0.0, λ free. read.2 (word ∙ free), ap sel_of (sym word) ∙ has, ap imp_of (sym word) ∙ read.3)
  where
    hit_of_some : (f : Found) (i : ℕ) → hit_of f ≡ Some i → f ≡ hit i
    hit_of_some (hit j) i e = ap hit (same_Some j i e)
    hit_of_some (empty p) i e = cc
    hit_of_some wrapped i e = cc
