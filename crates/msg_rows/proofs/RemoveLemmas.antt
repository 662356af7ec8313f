-- A row that is removed from a list, and one that is put back at its place.
use Rattle.std.proofs.Common.{◌≡◌, ◌≤◌, ◌-◌, ◌+◌, ℕ, zero, suc, List, [], ◌∷◌, ◌++◌, length, take, drop, append-nil, Bool, true, false, cond, Option, Some, None, option_map, refl, sym, ap, ap₂, ◌∙◌, arith}
use Rattle.std.specs.Prelude.{◌==◌, ◌&&◌, is_none}
use Rattle.std.proofs.lemmas.List.{map-append, take-map, drop-map}
use Rattle.std.proofs.lemmas.Option.{same_Some}
use Rattle.msg_names.specs.declared.value.Selector.{Selector}
use Rattle.msg_names.specs.declared.value.ImpRef.{ImpRef}
use Rattle.msg_names.specs.Number.{selector_number, imp_number}
use Rattle.msg_rows.specs.Methods.{method_numbers}
use Rattle.msg_rows.specs.RowList.{or_else, own_in, last_index, with_row_at, without_last, without_row}
use Rattle.msg_rows.proofs.RowLemmas.{is_none-own_in}

abbrev numbers : Selector × ImpRef → ℕ × ℕ
numbers m = (selector_number m.0, imp_number m.1)

-- if no row is last, none is removed
pub without_row-none : (s : ℕ) (ms : List (ℕ × ℕ)) → last_index s ms ≡ None → ms ≡ without_row s ms
without_row-none s [] e = refl
without_row-none s (m ∷ ms) e = step (last_index s ms) (m.0 == s) (without_row-none s ms) e
  where
    step : (o : Option ℕ) (b : Bool) → (o ≡ None → ms ≡ without_row s ms) → or_else (option_map suc o) (cond b (Some 0) None) ≡ None → m ∷ ms ≡ cond (b && is_none (own_in s ms)) ms (m ∷ without_row s ms)
    step (Some q) b rest e = cc
    step None true rest e = cc
    step None false rest e = ap (λ ys. m ∷ ys) (rest refl)

-- else the row at the last place
pub without_row-place : (s : ℕ) (ms : List (ℕ × ℕ)) (p : ℕ) → last_index s ms ≡ Some p → take p ms ++ drop (suc p) ms ≡ without_row s ms
without_row-place s [] p e = cc
without_row-place s (m ∷ ms) p e = step (last_index s ms) (m.0 == s) (is_none-own_in s ms) (without_row-place s ms) e
  where
    tail : (b : Bool) (q : ℕ) → take q ms ++ drop (suc q) ms ≡ without_row s ms → m ∷ (take q ms ++ drop (suc q) ms) ≡ cond (b && false) ms (m ∷ without_row s ms)
    tail true q h = ap (λ xs. m ∷ xs) h
    tail false q h = ap (λ xs. m ∷ xs) h

    step : (o : Option ℕ) (b : Bool) → is_none (own_in s ms) ≡ is_none o → ((q : ℕ) → o ≡ Some q → take q ms ++ drop (suc q) ms ≡ without_row s ms) → or_else (option_map suc o) (cond b (Some 0) None) ≡ Some p
        → take p (m ∷ ms) ++ drop (suc p) (m ∷ ms) ≡ cond (b && is_none (own_in s ms)) ms (m ∷ without_row s ms)
    step (Some q) b some rest e =
        let at : suc q ≡ p = same_Some (suc q) p e in
        rw (← at, some) (tail b q (rest q refl))
    step None true some rest e =
        let at : 0 ≡ p = same_Some 0 p e in
        rw (← at, some) refl
    step None false some rest e = cc

drop-none : (n : ℕ) (xs : List (ℕ × ℕ)) → length xs ≤ n → drop n xs ≡ []
drop-none zero [] few = refl
drop-none zero (x ∷ xs) few = absurd (omega (arith, few))
drop-none (suc n) [] few = refl
drop-none (suc n) (x ∷ xs) few = drop-none n xs (omega (arith, few))

-- the last row of all
pub without_row-end : (s : ℕ) (ms : List (ℕ × ℕ)) (p : ℕ) → last_index s ms ≡ Some p → suc p ≡ length ms → without_last 1 ms ≡ without_row s ms
without_row-end s ms p found end =
    let count : length ms - 1 ≡ p = omega (arith, end) in
    ap (λ n. take n ms) count ∙ sym (append-nil (take p ms)) ∙ ap (λ ys. take p ms ++ ys) (sym (drop-none (suc p) ms (omega (arith, end)))) ∙ without_row-place s ms p found

pub numbers-remove : (rows : List (Selector × ImpRef)) (p : ℕ) → method_numbers (take p rows ++ drop (suc p) rows) ≡ take p (method_numbers rows) ++ drop (suc p) (method_numbers rows)
numbers-remove rows p = map-append numbers (take p rows) (drop (suc p) rows) ∙ ap₂ (λ xs ys. xs ++ ys) (sym (take-map numbers p rows)) (sym (drop-map numbers (suc p) rows))

pub numbers-insert : (rows : List (Selector × ImpRef)) (p : ℕ) (sel : Selector) (imp : ImpRef) → method_numbers (take p rows ++ (sel, imp) ∷ drop p rows) ≡ with_row_at p sel imp (method_numbers rows)
numbers-insert rows p sel imp =
    map-append numbers (take p rows) ((sel, imp) ∷ drop p rows) ∙ ap₂ (λ xs ys. xs ++ (selector_number sel, imp_number imp) ∷ ys) (sym (take-map numbers p rows)) (sym (drop-map numbers p rows))
