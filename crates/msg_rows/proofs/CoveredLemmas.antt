-- The last row but one of a selector.
use Rattle.std.proofs.Common.{◌≡◌, ◌<◌, ℕ, ◌+◌, List, [], ◌∷◌, ◌++◌, length, take, get_or, Option, Some, None, option_map, Bool, true, false, cond, refl, sym, ap, ◌∙◌}
use Rattle.std.specs.Prelude.{◌==◌, ◌&&◌, is_none}
use Rattle.std.proofs.lemmas.List.{map-append, take_more}
use Rattle.msg_names.specs.declared.value.Selector.{Selector}
use Rattle.msg_names.specs.declared.value.ImpRef.{ImpRef}
use Rattle.msg_names.specs.Number.{selector_number, imp_number}
use Rattle.msg_rows.specs.Methods.{method_numbers}
use Rattle.msg_rows.specs.RowList.{or_else, own_in, without_row}
use Rattle.msg_rows.proofs.RowLemmas.{own_in-append}

pub own_in-snoc : (s : ℕ) (ms : List (ℕ × ℕ)) (m : ℕ × ℕ) → own_in s (ms ++ m ∷ []) ≡ cond (m.0 == s) (Some m.1) (own_in s ms)
own_in-snoc s ms m = own_in-append s ms (m ∷ []) ∙ step (m.0 == s)
  where
    step : (b : Bool) → or_else (or_else None (cond b (Some m.1) None)) (own_in s ms) ≡ cond b (Some m.1) (own_in s ms)
    step true = refl
    step false = refl

pub without_row-snoc : (s : ℕ) (ms : List (ℕ × ℕ)) (m : ℕ × ℕ) (b : Bool) → (m.0 == s) ≡ b → own_in s (without_row s (ms ++ m ∷ [])) ≡ cond b (own_in s ms) (own_in s (without_row s ms))
without_row-snoc s [] m true e = rw e refl
without_row-snoc s [] m false e = rw e (rw e refl)
without_row-snoc s (x ∷ xs) m true e =
    let last : own_in s (xs ++ m ∷ []) ≡ Some m.1 = own_in-snoc s xs m ∙ rw e refl in
    rw last (step (x.0 == s) (without_row-snoc s xs m true e))
  where
    step : (b : Bool) → own_in s (without_row s (xs ++ m ∷ [])) ≡ own_in s xs → own_in s (cond (b && false) (xs ++ m ∷ []) (x ∷ without_row s (xs ++ m ∷ []))) ≡ or_else (own_in s xs) (cond (x.0 == s) (Some x.1) None)
    step true rest = ap (λ o. or_else o (cond (x.0 == s) (Some x.1) None)) rest
    step false rest = ap (λ o. or_else o (cond (x.0 == s) (Some x.1) None)) rest
without_row-snoc s (x ∷ xs) m false e =
    let last : own_in s (xs ++ m ∷ []) ≡ own_in s xs = own_in-snoc s xs m ∙ rw e refl in
    rw last (step ((x.0 == s) && is_none (own_in s xs)) last (without_row-snoc s xs m false e))
  where
    step : (b : Bool) → own_in s (xs ++ m ∷ []) ≡ own_in s xs → own_in s (without_row s (xs ++ m ∷ [])) ≡ own_in s (without_row s xs) → own_in s (cond b (xs ++ m ∷ []) (x ∷ without_row s (xs ++ m ∷ []))) ≡ own_in s (cond b xs (x ∷ without_row s xs))
    step true last rest = last
    step false last rest = ap (λ o. or_else o (cond (x.0 == s) (Some x.1) None)) rest

-- the last row of a selector so far, and the one before it
pub record AreLast (s : ℕ) (rows : List (Selector × ImpRef)) (i : ℕ) (last covered : Option ImpRef) : Type 0 where
  pub newest : option_map imp_number last ≡ own_in s (method_numbers (take i rows))
  pub older : option_map imp_number covered ≡ own_in s (without_row s (method_numbers (take i rows)))

module _ (s : ℕ) (rows : List (Selector × ImpRef)) (i : ℕ) (m : Selector × ImpRef) (inside : i < length rows) (read : m ≡ get_or rows i m) (last covered : Option ImpRef) (so-far : AreLast s rows i last covered) where
  pair : ℕ × ℕ
  pair = (selector_number m.0, imp_number m.1)

  more : method_numbers (take (i + 1) rows) ≡ method_numbers (take i rows) ++ (selector_number m.0, imp_number m.1) ∷ []
  more =
      ap method_numbers (take_more rows i m inside ∙ ap (λ x. take i rows ++ x ∷ []) (sym read))
      ∙ map-append (λ (n : Selector × ImpRef). (selector_number n.0, imp_number n.1)) (take i rows) (m ∷ [])

  pub last-found : (selector_number m.0 == s) ≡ true → AreLast s rows (i + 1) (Some m.1) last
  last-found e = record {
    newest = sym (ap (own_in s) more ∙ own_in-snoc s (method_numbers (take i rows)) (selector_number m.0, imp_number m.1) ∙ rw e refl);
    older = so-far.newest ∙ sym (ap (λ ms. own_in s (without_row s ms)) more ∙ without_row-snoc s (method_numbers (take i rows)) (selector_number m.0, imp_number m.1) true e);
  }

  pub last-kept : (selector_number m.0 == s) ≡ false → AreLast s rows (i + 1) last covered
  last-kept e = record {
    newest = so-far.newest ∙ sym (ap (own_in s) more ∙ own_in-snoc s (method_numbers (take i rows)) (selector_number m.0, imp_number m.1) ∙ rw e refl);
    older = so-far.older ∙ sym (ap (λ ms. own_in s (without_row s ms)) more ∙ without_row-snoc s (method_numbers (take i rows)) (selector_number m.0, imp_number m.1) false e);
  }
