-- What the laws say of arrays.
use Rattle.std.proofs.Common.{◌≡◌, ◌≢◌, ℕ, ◌+◌, ◌^◌, ◌<◌, List, [], ◌∷◌, ◌++◌, length, Bool, true, false, cond, Some, None, inl, inr, refl, sym, ap, ◌∙◌, arith}
use Rattle.std.specs.Prelude.{slice_index, nat_le, replicate, Contains, ◌↔◌}
use Rattle.std.proofs.lemmas.Bool.{leb-true, cases_lt}
use Rattle.std.proofs.lemmas.Grind.{get_or_default_zero}
use Rattle.std.proofs.lemmas.List.{get_or_past}
use Rattle.msg_buckets.specs.declared.capacity.Plan.TheVariants.{Use, Take}
use Rattle.msg_buckets.specs.Word.{sel_of, imp_of, word_of}
use Rattle.msg_buckets.specs.Capacity.{fill_limit, next_capacity, plan_of}
use Rattle.msg_buckets.specs.Probing.{probe_place, end_of, Found, hit, empty, wrapped, found_at}
use Rattle.msg_buckets.specs.Array.{find_in, hit_in, put_in, words_after, occupied_in, IsReachable}
use Rattle.msg_buckets.proofs.WordLemmas.{sel_of-word_of, imp_of-word_of, word_of-parts}
use Rattle.msg_buckets.proofs.EndLemmas.{hit_entry, read_ends, read_passes, same_ends, free_ends, other_passes, found_at-same, found_at-free}
use Rattle.msg_buckets.proofs.PutLemmas.{entry_hit, find_in-written, reachable-written, hit_in-written, occupied-written, fresh_reachable, find_in-fresh, hit_in-fresh, occupied_in-fresh}
use Rattle.msg_buckets.proofs.FullLemmas.{wrapped_is_full}

-- one more word of a probe
module _ (sel : ℕ) (reads : List (ℕ × ℕ)) (place word : ℕ) (none : end_of sel reads ≡ None) where
  pub read_hit : 0 < sel → sel_of word ≡ sel → found_at (end_of sel (reads ++ (place, word) ∷ [])) ≡ hit (imp_of word)
  read_hit positive same = ap found_at (read_ends sel reads (place, word) none (same_ends sel word same)) ∙ found_at-same sel place word positive same

  pub read_empty : word ≡ 0 → found_at (end_of sel (reads ++ (place, word) ∷ [])) ≡ empty place
  read_empty free = ap found_at (read_ends sel reads (place, word) none (free_ends sel word free)) ∙ found_at-free place word free

  pub read_other : word ≢ 0 → sel_of word ≢ sel → end_of sel (reads ++ (place, word) ∷ []) ≡ None
  read_other some other = read_passes sel reads (place, word) none (other_passes sel word some other)

-- an array after an entry was put
module _ (words : List ℕ) (sel imp : ℕ) (low : imp < 2 ^ 32) where
  pub find_in-put_in : (place : ℕ) → 0 < sel → find_in words sel ≡ empty place → find_in (put_in words sel imp) sel ≡ hit imp
  find_in-put_in place positive found = rw found (find_in-written words sel (word_of sel imp) place (sel_of-word_of sel imp low) found positive ∙ ap hit (imp_of-word_of sel imp low))

  pub reachable-put_in : IsReachable words → IsReachable (put_in words sel imp)
  reachable-put_in reachable = at_found (find_in words sel) refl
    where
      at_found : (f : Found) → find_in words sel ≡ f → IsReachable (words_after f (word_of sel imp) words)
      at_found (hit i) e = reachable
      at_found (empty place) e = reachable-written words sel (word_of sel imp) place (sel_of-word_of sel imp low) e reachable
      at_found wrapped e = reachable

  pub hit_in-put_in : (other : ℕ) → IsReachable words → other ≢ sel → hit_in (put_in words sel imp) other ≡ hit_in words other
  hit_in-put_in other reachable differs = at_found (find_in words sel) refl
    where
      at_found : (f : Found) → find_in words sel ≡ f → hit_in (words_after f (word_of sel imp) words) other ≡ hit_in words other
      at_found (hit i) e = refl
      at_found (empty place) e = hit_in-written words sel (word_of sel imp) place (sel_of-word_of sel imp low) e reachable other differs
      at_found wrapped e = refl

  pub occupied_in-put_in : (place : ℕ) → 0 < sel → find_in words sel ≡ empty place → occupied_in (put_in words sel imp) ≡ occupied_in words + 1
  occupied_in-put_in place positive found =
      let some : word_of sel imp ≢ 0 = λ none. absurd (omega arith) in
      rw found (occupied-written words sel (word_of sel imp) place (sel_of-word_of sel imp low) found some)

pub plan_has_room : (words : List ℕ) (sel : ℕ) → plan_of (length words) (occupied_in words) ≡ Use → find_in words sel ≢ wrapped
plan_has_room words sel plan none = at_test (nat_le (occupied_in words + 1) (fill_limit (length words))) refl plan
  where
    at_test : (b : Bool) → nat_le (occupied_in words + 1) (fill_limit (length words)) ≡ b → cond b Use (Take (next_capacity (length words))) ≡ Use → ⊥
    at_test true is e = let full = wrapped_is_full words sel none in let less = leb-true (occupied_in words + 1) (fill_limit (length words)) is in omega arith
    at_test false is e = cc

pub hit_is_entry : (words : List ℕ) (sel imp : ℕ) → IsReachable words → 0 < sel → imp < 2 ^ 32 → (hit_in words sel ≡ Some imp) ↔ Contains words (word_of sel imp)
hit_is_entry words sel imp reachable positive low = (stands, hits)
  where
    stands : hit_in words sel ≡ Some imp → Contains words (word_of sel imp)
    stands e =
        let h = hit_entry words sel imp e in
        let word : slice_index words h.0 ≡ word_of sel imp = sym (word_of-parts (slice_index words h.0)) ∙ rw (h.2, h.3) refl in
        elim (cases_lt h.0 (length words)) [
          | inl within ↦ (h.0, within, get_or_default_zero words h.0 (word_of sel imp) within ∙ word)
          | inr past ↦ absurd (h.1 (get_or_past words h.0 0 past))
        ]

    hits : Contains words (word_of sel imp) → hit_in words sel ≡ Some imp
    hits c =
        let word : slice_index words c.0 ≡ word_of sel imp = sym (get_or_default_zero words c.0 (word_of sel imp) c.1) ∙ c.2 in
        let some : word_of sel imp ≢ 0 = λ none. absurd (omega arith) in
        entry_hit words sel imp reachable (c.0, λ free. some (sym word ∙ free), ap sel_of word ∙ sel_of-word_of sel imp low, ap imp_of word ∙ imp_of-word_of sel imp low)

-- an array that was empty, with one entry
module _ (capacity sel imp : ℕ) (low : imp < 2 ^ 32) where
  pub find_in-taken : 0 < capacity → 0 < sel → find_in (put_in (replicate capacity 0) sel imp) sel ≡ hit imp
  find_in-taken some positive = find_in-put_in (replicate capacity 0) sel imp low (probe_place sel capacity 0) positive (find_in-fresh capacity sel some)

  pub occupied_in-taken : 0 < capacity → 0 < sel → occupied_in (put_in (replicate capacity 0) sel imp) ≡ 1
  occupied_in-taken some positive =
      let one = occupied_in-put_in (replicate capacity 0) sel imp low (probe_place sel capacity 0) positive (find_in-fresh capacity sel some) in
      omega (arith, one, occupied_in-fresh capacity)

  pub hit_in-taken : (other : ℕ) → other ≢ sel → hit_in (put_in (replicate capacity 0) sel imp) other ≡ None
  hit_in-taken other differs = hit_in-put_in (replicate capacity 0) sel imp low other (fresh_reachable capacity) differs ∙ hit_in-fresh capacity other
