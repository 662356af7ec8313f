-- A note that is written spares the other one at its place.
use Rattle.std.proofs.Common.{◌≡◌, ◌≢◌, ◌<◌, ◌+◌, zero, suc, ℕ, List, [], ◌∷◌, ◌⊎◌, inl, inr, ◌^◌, length, refl, sym, ap, ap₂, ◌∙◌, arith, set}
use Rattle.std.proofs.lemmas.Bool.{cases_eq, eqb-true, lt-ltb}
use Rattle.std.proofs.lemmas.Option.{same_Some}
use Rattle.std.specs.Prelude.{◌==◌, ◌&&◌, ◌||◌, Bool, true, false, Option, Some, None, if◌then◌else◌, nat_le, nat_lt, option_and_then, slice_get}
use Rattle.std.specs.Option.{option_or}
use Rattle.msg_reader.specs.declared.note.Note.{Note}
use Rattle.msg_reader.specs.declared.notes.Notes.{Notes}
use Rattle.msg_reader.specs.Key.{IsSealOf, key_of, mark_of, place_of}
use Rattle.msg_reader.specs.Notes.{LiesThere, found_by, found_in, is_free_for, recalled}
use Rattle.msg_reader.proofs.KeyLemmas.{mark_few}
use Rattle.msg_reader.proofs.NoteLemmas.{apart}

set-here : {X : Type 0} (xs : List X) (i : ℕ) (w : X) → i < length xs → slice_get (set xs i w) i ≡ Some w
set-here [] i w h = absurd (omega arith)
set-here (x ∷ xs) zero w h = refl
set-here (x ∷ xs) (suc i) w h = set-here xs i w (omega arith)

pub set-elsewhere : {X : Type 0} (xs : List X) (i j : ℕ) (w : X) → j ≢ i → slice_get (set xs i w) j ≡ slice_get xs j
set-elsewhere [] i j w h = refl
set-elsewhere (x ∷ xs) zero zero w h = absurd (h refl)
set-elsewhere (x ∷ xs) zero (suc j) w h = refl
set-elsewhere (x ∷ xs) (suc i) zero w h = refl
set-elsewhere (x ∷ xs) (suc i) (suc j) w h = set-elsewhere xs i j w (λ e. h (ap suc e))

-- a blank note, or one of a lookup, says nothing of another
says-none : (o : Note) (slot sel since next other : ℕ) → is_free_for o slot sel ≡ true → key_of next other ≢ key_of slot sel → found_by o since next other ≡ None
says-none o slot sel since next other free ne = apart o since next other (by (o.seal == 0) refl free)
  where
    by : (b : Bool) → (o.seal == 0) ≡ b → (b || (o.seal + mark_of o.imp == key_of slot sel)) ≡ true → o.seal + mark_of o.imp ≢ key_of next other
    by true blank e = λ same. omega (arith, eqb-true o.seal 0 blank, same, (mark_few o.imp).1)
    by false full e = λ same. ne (sym same ∙ eqb-true _ _ e)

-- a note that says nothing of another lookup is put in place of one that doesn't either
put-in-place : (ns : List Note) (p : ℕ) (n o : Note) (since slot sel : ℕ) → slice_get ns p ≡ Some o → p < length ns → found_by n since slot sel ≡ None → found_by o since slot sel ≡ None
    → found_in (set ns p n) since slot sel ≡ found_in ns since slot sel
put-in-place ns p n o since slot sel at inside is was = by (cases_eq (place_of slot sel) p)
  where
    found : Option Note → Option ℕ
    found = option_and_then (λ k. found_by k since slot sel)

    by : (place_of slot sel ≡ p) ⊎ (place_of slot sel ≡ p → ⊥) → found_in (set ns p n) since slot sel ≡ found_in ns since slot sel
    by (inl e) =
        ap (λ q. found (slice_get (set ns p n) q)) e ∙ ap found (set-here ns p n inside) ∙ is
        ∙ sym (ap (λ q. found (slice_get ns q)) e ∙ ap found at ∙ was)
    by (inr ne) = ap found (set-elsewhere ns p (place_of slot sel) n ne)

-- what is recalled of these first and second notes
abbrev pub recalled_by : List Note → List Note → ℕ → ℕ → ℕ → Option ℕ
recalled_by first second since slot sel = if nat_lt slot (2 ^ 26) then option_or (found_in first since slot sel) (found_in second since slot sel) else None

module _ (m : Notes) (slot sel imp : ℕ) (n first second : Note) (p : ℕ) (seal : IsSealOf n.seal slot sel imp) (same : n.imp ≡ imp) where
  says : (since next other : ℕ) → key_of next other ≢ key_of slot sel → found_by n since next other ≡ None
  says since next other ne = apart n since next other (λ e. ne (sym e ∙ ap (λ i. n.seal + mark_of i) same ∙ seal))

  -- where one of both notes at its place is free, the second is put out only if it is
  pub second-spares : slice_get m.first p ≡ Some first → slice_get m.second p ≡ Some second → p < length m.second → is_free_for first slot sel ≡ false
      → (k : Note) → LiesThere m p k → is_free_for k slot sel ≡ true → (since next other : ℕ) → key_of next other ≢ key_of slot sel
      → recalled_by m.first (set m.second p n) since next other ≡ recalled m since next other
  second-spares at-first at-second inside taken k there free since next other ne =
      ap (λ o. if nat_lt next (2 ^ 26) then option_or (found_in m.first since next other) o else None)
      (put-in-place m.second p n second since next other at-second inside (says since next other ne) (says-none second slot sel since next other (is-free there) ne))
    where
      is-free : LiesThere m p k → is_free_for second slot sel ≡ true
      is-free (inl at) = let clash = sym taken ∙ ap (λ x. is_free_for x slot sel) (same_Some first k (sym at-first ∙ at)) ∙ free in cc
      is-free (inr at) = ap (λ x. is_free_for x slot sel) (same_Some second k (sym at-second ∙ at)) ∙ free

  -- and so is the first
  pub first-spares : slice_get m.first p ≡ Some first → slice_get m.second p ≡ Some second → p < length m.first → (is_free_for second slot sel ≡ true → is_free_for first slot sel ≡ true)
      → (k : Note) → LiesThere m p k → is_free_for k slot sel ≡ true → (since next other : ℕ) → key_of next other ≢ key_of slot sel
      → recalled_by (set m.first p n) m.second since next other ≡ recalled m since next other
  first-spares at-first at-second inside both k there free since next other ne =
      ap (λ o. if nat_lt next (2 ^ 26) then option_or o (found_in m.second since next other) else None)
      (put-in-place m.first p n first since next other at-first inside (says since next other ne) (says-none first slot sel since next other (is-free there) ne))
    where
      is-free : LiesThere m p k → is_free_for first slot sel ≡ true
      is-free (inl at) = ap (λ x. is_free_for x slot sel) (same_Some first k (sym at-first ∙ at)) ∙ free
      is-free (inr at) = both (ap (λ x. is_free_for x slot sel) (same_Some second k (sym at-second ∙ at)) ∙ free)

-- a note of another lookup says nothing of this one
taken-none : (o : Note) (since slot sel : ℕ) → is_free_for o slot sel ≡ false → found_by o since slot sel ≡ None
taken-none o since slot sel = by (o.seal == 0) (o.seal + mark_of o.imp == key_of slot sel)
  where
    by : (b c : Bool) → (b || c) ≡ false → (if c && nat_le since o.count then Some o.imp else None) ≡ None
    by true c e = cc
    by false true e = cc
    by false false e = refl

module _ (m : Notes) (slot sel since p imp : ℕ) (n first second : Note) (short : slot < 2 ^ 26) (at : p ≡ place_of slot sel) (has : found_by n since slot sel ≡ Some imp) where
  abbrev found : Option Note → Option ℕ
  found = option_and_then (λ k. found_by k since slot sel)

  put : (ns : List Note) → p < length ns → found_in (set ns p n) since slot sel ≡ Some imp
  put ns inside = ap found (ap (slice_get (set ns p n)) (sym at) ∙ set-here ns p n inside) ∙ has

  -- what is noted second is recalled
  pub kept-second : slice_get m.first p ≡ Some first → p < length m.second → is_free_for first slot sel ≡ false → recalled_by m.first (set m.second p n) since slot sel ≡ Some imp
  kept-second at-first inside taken =
      let none : found_in m.first since slot sel ≡ None = ap found (ap (slice_get m.first) (sym at) ∙ at-first) ∙ taken-none first since slot sel taken in
      ap (λ b. if b then option_or (found_in m.first since slot sel) (found_in (set m.second p n) since slot sel) else None) (lt-ltb slot (2 ^ 26) short)
      ∙ ap₂ option_or none (put m.second inside)

  -- and so is what is noted first
  pub kept-first : p < length m.first → recalled_by (set m.first p n) m.second since slot sel ≡ Some imp
  kept-first inside =
      ap (λ b. if b then option_or (found_in (set m.first p n) since slot sel) (found_in m.second since slot sel) else None) (lt-ltb slot (2 ^ 26) short)
      ∙ ap (λ o. option_or o (found_in m.second since slot sel)) (put m.first inside)
