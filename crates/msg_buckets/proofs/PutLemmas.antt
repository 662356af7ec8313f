-- An entry put into an array.
use Rattle.std.proofs.Common.{◌≡◌, ◌≢◌, ℕ, ◌+◌, ◌<◌, inl, inr, List, length, cond, not, Option, Some, None, refl, sym, ap, ◌∙◌, subst, arith, get_or-set_other, get_or-set_same, length-set}
use Rattle.std.specs.Prelude.{slice_index, slice_set, ◌==◌, replicate}
use Rattle.std.proofs.lemmas.Bool.{cases_eq, cases_lt, ne_eqb}
use Rattle.std.proofs.lemmas.List.{get_or-replicate, get_or_past, length-replicate}
use Rattle.std.proofs.lemmas.List.Sums.{sum_by-set}
use Rattle.std.proofs.lemmas.List.Folds.{sum_by-replicate}
use Rattle.msg_buckets.specs.Word.{sel_of, imp_of}
use Rattle.msg_buckets.specs.Probing.{probe_place, probe_places, hit, empty}
use Rattle.msg_buckets.specs.Array.{reads_of, find_in, hit_in, IsReachable, EndsAt, occupied_in}
use Rattle.msg_buckets.proofs.EndLemmas.{same_ends, end_stays, empty_at, HasEntry, hit_entry}
use Rattle.msg_buckets.proofs.FindLemmas.{find_in-empty}

-- if each entry is reachable, an entry of the array is hit
pub entry_hit : (words : List ℕ) (sel imp : ℕ) → IsReachable words → HasEntry words sel imp → hit_in words sel ≡ Some imp
unfolding find_in
entry_hit words sel imp reachable has =
    let end : EndsAt words sel has.0 = subst (λ s. EndsAt words s has.0) has.2 (reachable.reached has.0 has.1) in
    rw (end, ne_eqb (slice_index words has.0) 0 has.1) (ap Some has.3)

same_hit : (a b : Option ℕ) → ((i : ℕ) → a ≡ Some i → b ≡ Some i) → ((i : ℕ) → b ≡ Some i → a ≡ Some i) → a ≡ b
same_hit None None f g = refl
same_hit None (Some y) f g = g y refl
same_hit (Some x) b f g = sym (f x refl)

-- what a word adds to the count of entries
abbrev one_if_entry : ℕ → ℕ
one_if_entry word = cond (not (word == 0)) 1 0

-- an array in which a word of the selector replaces the empty bucket that its probe found
module _ (words : List ℕ) (sel word place : ℕ) (has : sel_of word ≡ sel) (found : find_in words sel ≡ empty place) where
  abbrev new : List ℕ
  new = slice_set words place word

  new_at : slice_index new place ≡ word
  new_at = let within = (empty_at words sel place found).1 in rw get_or-set_same

  new_not : (r : ℕ) → r ≢ place → slice_index new r ≡ slice_index words r
  new_not r other = rw get_or-set_other

  stays : (t q : ℕ) → sel_of (slice_index new q) ≡ t → EndsAt words t q → EndsAt new t q
  unfolding reads_of
  stays t q is end =
      rw length-set (end_stays t place q words new (empty_at words sel place found).2 new_not (same_ends t (slice_index new q) is) (probe_places t (length words)) end)

  ends_at_place : EndsAt new sel place
  ends_at_place = stays sel place (ap sel_of new_at ∙ has) (empty_at words sel place found).0

  pub find_in-written : 0 < sel → find_in (slice_set words place word) sel ≡ hit (imp_of word)
  unfolding find_in
  find_in-written positive =
      let some : word ≢ 0 = λ none. absurd (omega (arith, has, ap sel_of none)) in
      rw (ends_at_place, new_at, ne_eqb word 0 some) refl

  new_reached : (q : ℕ) → slice_index new q ≢ 0 → IsReachable words → EndsAt new (sel_of (slice_index new q)) q
  new_reached q some reachable =
      elim (cases_eq q place) [
        | inl same ↦
            let is : sel_of (slice_index new q) ≡ sel = ap (λ r. sel_of (slice_index new r)) same ∙ ap sel_of new_at ∙ has in
            subst (λ s. EndsAt new s q) (sym is) (subst (λ r. EndsAt new sel r) (sym same) ends_at_place)
        | inr other ↦
            let was = reachable.reached q (λ free. some (new_not q other ∙ free)) in
            stays (sel_of (slice_index new q)) q refl (subst (λ w. EndsAt words (sel_of w) q) (sym (new_not q other)) was)
      ]

  pub reachable-written : IsReachable words → IsReachable (slice_set words place word)
  reachable-written reachable = record { reached = λ q some. new_reached q some reachable }

  no_more : (t imp : ℕ) → t ≢ sel → HasEntry new t imp → HasEntry words t imp
  no_more t imp other h =
      let same = new_not h.0 (λ at. other (sym h.2 ∙ ap (λ r. sel_of (slice_index new r)) at ∙ ap sel_of new_at ∙ has)) in
      (h.0, λ free. h.1 (same ∙ free), ap sel_of (sym same) ∙ h.2, ap imp_of (sym same) ∙ h.3)

  no_less : (t imp : ℕ) → HasEntry words t imp → HasEntry new t imp
  no_less t imp h =
      let same = new_not h.0 (λ at. h.1 (ap (slice_index words) at ∙ (empty_at words sel place found).2)) in
      (h.0, λ free. h.1 (sym same ∙ free), ap sel_of same ∙ h.2, ap imp_of same ∙ h.3)

  pub hit_in-written : IsReachable words → (t : ℕ) → t ≢ sel → hit_in (slice_set words place word) t ≡ hit_in words t
  hit_in-written reachable t other =
      same_hit (hit_in new t) (hit_in words t)
      (λ imp e. entry_hit words t imp reachable (no_more t imp other (hit_entry new t imp e)))
      (λ imp e. entry_hit new t imp (reachable-written reachable) (no_less t imp (hit_entry words t imp e)))

  pub occupied-written : word ≢ 0 → occupied_in (slice_set words place word) ≡ occupied_in words + 1
  occupied-written some =
      let at = empty_at words sel place found in
      let was : one_if_entry (slice_index words place) ≡ 0 = rw at.2 refl in
      let is : one_if_entry word ≡ 1 = rw (ne_eqb word 0 some) refl in
      omega (arith, sum_by-set one_if_entry words place word 0 at.1, was, is)

-- an empty array
fresh_free : (n place : ℕ) → slice_index (replicate n 0) place ≡ 0
fresh_free n place =
    elim (cases_lt place n) [
      | inl within ↦ get_or-replicate n place 0 0 within
      | inr past ↦ get_or_past (replicate n 0) place 0 (omega (arith, length-replicate {A = ℕ} n 0))
    ]

pub fresh_reachable : (n : ℕ) → IsReachable (replicate n 0)
fresh_reachable n = record { reached = λ place some. absurd (some (fresh_free n place)) }

pub find_in-fresh : (n sel : ℕ) → 0 < n → find_in (replicate n 0) sel ≡ empty (probe_place sel n 0)
find_in-fresh n sel h =
    let size = length-replicate {A = ℕ} n 0 in
    find_in-empty (replicate n 0) sel 0 (probe_place sel n 0) refl (omega (arith, size)) (ap (λ m. probe_place sel m 0) (sym size)) (fresh_free n (probe_place sel n 0))

pub hit_in-fresh : (n sel : ℕ) → hit_in (replicate n 0) sel ≡ None
hit_in-fresh n sel = same_hit (hit_in (replicate n 0) sel) None (λ imp e. let h = hit_entry (replicate n 0) sel imp e in absurd (h.1 (fresh_free n h.0))) (λ imp e. cc)

pub occupied_in-fresh : (n : ℕ) → occupied_in (replicate n 0) ≡ 0
occupied_in-fresh n = sum_by-replicate one_if_entry n 0 ∙ omega arith
