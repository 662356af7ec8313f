-- One of several lists of rows changes.
use Rattle.std.proofs.Common.{◌≡◌, ◌≢◌, ◌<◌, ◌+◌, ℕ, List, [], length, get_or, get_or-set_other, sym, ap, ◌∙◌, arith}
use Rattle.std.proofs.Math.ListN.{length-set}
use Rattle.std.specs.Prelude.{slice_set, slice_index_or}
use Rattle.std.proofs.lemmas.List.{get_or-map, map-set}
use Rattle.std.proofs.Math.Seq.{map-set_same}
use Rattle.msg_rows.specs.RowList.{RowList, rows_of}

-- the rows that were read
pub read-rows : (lists : List RowList) (k : ℕ) (r : RowList) → k < length lists → r ≡ get_or lists k r → r.rows ≡ slice_index_or (rows_of lists) k []
read-rows lists k r inside read = ap (λ (x : RowList). x.rows) read ∙ sym (get_or-map (λ (x : RowList). x.rows) lists k r [] inside)

-- a list that was read and written
pub rows_of-set : (lists : List RowList) (at : ℕ) (was now : RowList) (f : List (ℕ × ℕ) → List (ℕ × ℕ)) → at < length lists → was ≡ get_or lists at was → now.rows ≡ f was.rows → rows_of (slice_set lists at now) ≡ slice_set (rows_of lists) at (f (slice_index_or (rows_of lists) at []))
rows_of-set lists at was now f inside read is =
    map-set (λ (r : RowList). r.rows) lists at now ∙ ap (slice_set (rows_of lists) at) (is ∙ ap f (read-rows lists at was inside read))

-- a list of which only the room changed
pub rows_of-set_same : (lists : List RowList) (at : ℕ) (was now : RowList) → was ≡ get_or lists at was → now.rows ≡ was.rows → rows_of (slice_set lists at now) ≡ rows_of lists
rows_of-set_same lists at was now read is = map-set_same (λ (r : RowList). r.rows) lists at now was (is ∙ ap (λ (r : RowList). r.rows) read)

-- two neighbours change, in lists of which only the room had changed
pub rows_of-set_two : (lists grown : List RowList) (at : ℕ) (was now was' now' : RowList) (f g : List (ℕ × ℕ) → List (ℕ × ℕ)) → rows_of grown ≡ rows_of lists → at + 1 < length grown
    → was ≡ get_or grown at was → now.rows ≡ f was.rows → was' ≡ get_or (slice_set grown at now) (at + 1) was' → now'.rows ≡ g was'.rows
    → rows_of (slice_set (slice_set grown at now) (at + 1) now') ≡ slice_set (slice_set (rows_of lists) at (f (slice_index_or (rows_of lists) at []))) (at + 1) (g (slice_index_or (rows_of lists) (at + 1) []))
rows_of-set_two lists grown at was now was' now' f g same inside read is read' is' =
    let first : rows_of (slice_set grown at now) ≡ slice_set (rows_of grown) at (f (slice_index_or (rows_of grown) at [])) = rows_of-set grown at was now f (omega arith) read is in
    let second = rows_of-set (slice_set grown at now) (at + 1) was' now' g (omega (arith, length-set grown at now)) read' is' in
    let apart : at + 1 ≢ at = omega arith in
    let other : slice_index_or (slice_set (rows_of grown) at (f (slice_index_or (rows_of grown) at []))) (at + 1) [] ≡ slice_index_or (rows_of grown) (at + 1) [] = get_or-set_other (rows_of grown) at (at + 1) (f (slice_index_or (rows_of grown) at [])) [] apart in
    second
    ∙ ap (λ ls. slice_set ls (at + 1) (g (slice_index_or ls (at + 1) []))) first
    ∙ ap (λ ms. slice_set (slice_set (rows_of grown) at (f (slice_index_or (rows_of grown) at []))) (at + 1) (g ms)) other
    ∙ ap (λ ls. slice_set (slice_set ls at (f (slice_index_or ls at []))) (at + 1) (g (slice_index_or ls (at + 1) []))) same
