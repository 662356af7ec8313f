-- A journal's way back has a change for each entry, the last first.
use Rattle.std.proofs.Common.{◌≡◌, ◌<◌, ◌-◌, ℕ, zero, suc, List, [], ◌∷◌, ◌++◌, length, length-append, slice_get, Some, refl, sym, ap, ◌∙◌, arith}
use Rattle.std.specs.Prelude.{slice_index_or}
use Rattle.std.proofs.lemmas.Bool.{cases_lt}
use Rattle.std.proofs.Common.{◌⊎◌, inl, inr, ◌≤◌}
use Rattle.msg_tables.specs.declared.entry.Entry.{Entry}
use Rattle.msg_tables.specs.Journal.{undo_entry, undo_journal}

pub length-undo : (es : List Entry) → length (undo_journal es) ≡ length es
length-undo [] = refl
length-undo (e ∷ es) = let rest = length-undo es in let n = length-append (undo_journal es) (undo_entry e ∷ []) in omega (arith, n, rest)

get-left : {A : Type 0} (xs : List A) (y : A) (i : ℕ) → i < length xs → slice_get (xs ++ y ∷ []) i ≡ slice_get xs i
get-left [] y i less = absurd (omega (arith, less))
get-left (x ∷ xs) y zero less = refl
get-left (x ∷ xs) y (suc i) less = get-left xs y i (omega (arith, less))

get-end : {A : Type 0} (xs : List A) (y : A) → slice_get (xs ++ y ∷ []) (length xs) ≡ Some y
get-end [] y = refl
get-end (x ∷ xs) y = get-end xs y

pub get-undo : (es : List Entry) (place : ℕ) (e : Entry) → place < length es → e ≡ slice_index_or es (length es - 1 - place) e → slice_get (undo_journal es) place ≡ Some (undo_entry e)
get-undo [] place e less is = absurd (omega (arith, less))
get-undo (x ∷ es) place e less is = at (cases_lt place (length es)) (λ inside there. get-undo es place e inside there)
  where
    at : (place < length es) ⊎ (length es ≤ place) → (place < length es → e ≡ slice_index_or es (length es - 1 - place) e → slice_get (undo_journal es) place ≡ Some (undo_entry e)) → slice_get (undo_journal es ++ undo_entry x ∷ []) place ≡ Some (undo_entry e)
    at (inl inside) before =
        let n = length-undo es in
        let index : length (x ∷ es) - 1 - place ≡ suc (length es - 1 - place) = omega (arith, inside) in
        let there : e ≡ slice_index_or es (length es - 1 - place) e = is ∙ ap (λ i. slice_index_or (x ∷ es) i e) index in
        get-left (undo_journal es) (undo_entry x) place (omega (arith, n, inside)) ∙ before inside there
    at (inr outside) before =
        let n = length-undo es in
        let end : place ≡ length (undo_journal es) = omega (arith, n, outside, less) in
        let index : length (x ∷ es) - 1 - place ≡ 0 = omega (arith, outside) in
        let same : e ≡ x = is ∙ ap (λ i. slice_index_or (x ∷ es) i e) index in
        ap (slice_get (undo_journal es ++ undo_entry x ∷ [])) end ∙ get-end (undo_journal es) (undo_entry x) ∙ ap (λ z. Some (undo_entry z)) (sym same)
