-- Rows in which the last one of a selector is found.
use Rattle.std.proofs.Common.{◌≡◌, ◌<◌, ℕ, List, length, get_or, Option, Some, None, sym, ap, ◌∙◌, arith}
use Rattle.std.specs.Prelude.{slice_set}
use Rattle.std.proofs.lemmas.List.{length-map, map-set}
use Rattle.std.proofs.Math.ListN.{get_or-map}
use Rattle.msg_names.specs.declared.value.Selector.{Selector}
use Rattle.msg_names.specs.declared.value.ImpRef.{ImpRef}
use Rattle.msg_names.specs.Number.{selector_number, imp_number}
use Rattle.msg_rows.specs.Methods.{method_numbers}
use Rattle.msg_rows.specs.RowList.{own_in, last_index, set_last}
use Rattle.msg_rows.proofs.RowLemmas.{set_last-none, last_none, last_some, set-last_place}

abbrev pub numbers : Selector × ImpRef → ℕ × ℕ
numbers m = (selector_number m.0, imp_number m.1)

module _ (rows : List (Selector × ImpRef)) (s : ℕ) (found : Option ℕ) (is : found ≡ last_index s (method_numbers rows)) where
  pub none_found : found ≡ None → own_in s (method_numbers rows) ≡ None
  none_found e = last_none s (method_numbers rows) (sym is ∙ e)

  pub place_inside : (place : ℕ) → found ≡ Some place → place < length rows
  place_inside place e = omega (arith, (last_some s (method_numbers rows) place (0, 0) (sym is ∙ e)).0, length-map rows numbers)

  pub own_found : (place : ℕ) (m : Selector × ImpRef) → found ≡ Some place → m ≡ get_or rows place m → Some (imp_number m.1) ≡ own_in s (method_numbers rows)
  own_found place m e read =
      sym ((last_some s (method_numbers rows) place (numbers m) (sym is ∙ e)).1 ∙ ap (λ (x : ℕ × ℕ). Some x.1) (get_or-map numbers rows place m ∙ ap numbers (sym read)))

  -- if none is found, none is rewritten
  pub none_kept : found ≡ None → (i : ℕ) → method_numbers rows ≡ set_last s i (method_numbers rows)
  none_kept e i = set_last-none s i (method_numbers rows) (sym is ∙ e)

-- the last row gets another implementation
pub rows-set : (rows : List (Selector × ImpRef)) (place : ℕ) (sel : Selector) (imp : ImpRef) → last_index (selector_number sel) (method_numbers rows) ≡ Some place → method_numbers (slice_set rows place (sel, imp)) ≡ set_last (selector_number sel) (imp_number imp) (method_numbers rows)
rows-set rows place sel imp found =
    map-set numbers rows place (sel, imp) ∙ set-last_place (selector_number sel) (imp_number imp) (method_numbers rows) place found
