-- Rows the last of which are removed.
use Rattle.std.proofs.Common.{◌≡◌, ◌-◌, ◌+◌, ℕ, List, [], ◌∷◌, ◌++◌, length, length-append, take, take_all, sym, ap, ◌∙◌, arith}
use Rattle.std.proofs.lemmas.List.{map-append, take-take, length-take-le}
use Rattle.std.proofs.Math.Seq.{take-append_seam}
use Rattle.msg_names.specs.declared.value.Selector.{Selector}
use Rattle.msg_names.specs.declared.value.ImpRef.{ImpRef}
use Rattle.msg_names.specs.Number.{selector_number, imp_number}
use Rattle.msg_rows.specs.Methods.{method_numbers}
use Rattle.msg_rows.specs.RowList.{without_last}

abbrev numbers : Selector × ImpRef → ℕ × ℕ
numbers m = (selector_number m.0, imp_number m.1)

-- the pairs that are left
pub left : (rows rest : List (Selector × ImpRef)) (m : Selector × ImpRef) → rows ≡ rest ++ m ∷ [] → method_numbers rest ≡ without_last 1 (method_numbers rows)
left rows rest m e =
    let pairs : method_numbers rows ≡ method_numbers rest ++ numbers m ∷ [] = ap method_numbers e ∙ map-append numbers rest (m ∷ []) in
    let count : length (method_numbers rows) - 1 ≡ length (method_numbers rest) = omega (arith, ap length pairs, length-append (method_numbers rest) (numbers m ∷ [])) in
    sym (ap (λ n. take n (method_numbers rows)) count ∙ ap (take (length (method_numbers rest))) pairs ∙ take-append_seam (method_numbers rest) (numbers m ∷ []))

pub without-empty : (n : ℕ) → without_last n [] ≡ []
without-empty n = take_all (length {A = ℕ × ℕ} [] - n) [] (omega arith)

-- one row fewer
pub without-next : (ms : List (ℕ × ℕ)) (n : ℕ) → without_last 1 (without_last n ms) ≡ without_last (n + 1) ms
without-next ms n =
    let many : length (without_last n ms) ≡ length ms - n = length-take-le (length ms - n) ms (omega arith) in
    let less : length (without_last n ms) - 1 ≡ length ms - (n + 1) = omega (arith, many) in
    ap (λ k. take k (without_last n ms)) less ∙ take-take (length ms - (n + 1)) (length ms - n) ms (omega arith)

pub without-none : (ms : List (ℕ × ℕ)) → without_last 0 ms ≡ ms
without-none ms = take_all (length ms - 0) ms (omega arith)

-- rows that were added
pub without-added : (ms more : List (ℕ × ℕ)) → without_last (length more) (ms ++ more) ≡ ms
without-added ms more =
    let count : length (ms ++ more) - length more ≡ length ms = omega (arith, length-append ms more) in
    ap (λ n. take n (ms ++ more)) count ∙ take-append_seam ms more
