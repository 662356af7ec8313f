-- Lists of rows one of which was written.
use Rattle.std.proofs.Common.{◌≡◌, ◌+◌, ℕ, List, [], ◌++◌, length, true, sym, ap, ◌∙◌}
use Rattle.std.proofs.Math.ListN.{length-set}
use Rattle.std.proofs.lemmas.List.{length-map}
use Rattle.std.specs.Prelude.{slice_set, slice_index_or}
use Rattle.std.specs.List.{list_all}
use Rattle.msg_rows.specs.RowList.{RowList, rows_of}
use Rattle.msg_tables.specs.Origin.{are_listed}
use Rattle.msg_tables.proofs.ListedLemmas.{listed-append, listed-put, listed_at}

pub length-rows_of : (lists : List RowList) → length (rows_of lists) ≡ length lists
length-rows_of lists = length-map lists (λ (r : RowList). r.rows)

-- as many lists as before
pub put-length : (old new : List RowList) (at : ℕ) (ms : List (ℕ × ℕ)) → rows_of new ≡ slice_set (rows_of old) at ms → length new ≡ length old
put-length old new at ms e = sym (length-rows_of new) ∙ ap length e ∙ length-set (rows_of old) at ms ∙ length-rows_of old

-- and as listed
pub put-listed : (n : ℕ) (old new : List RowList) (at : ℕ) (f : List (ℕ × ℕ) → List (ℕ × ℕ)) → rows_of new ≡ slice_set (rows_of old) at (f (slice_index_or (rows_of old) at [])) → list_all (are_listed n) (rows_of old) ≡ true
    → ((ms : List (ℕ × ℕ)) → are_listed n ms ≡ true → are_listed n (f ms) ≡ true) → list_all (are_listed n) (rows_of new) ≡ true
put-listed n old new at f e all one =
    rw e (listed-put n at (rows_of old) (f (slice_index_or (rows_of old) at [])) all (one (slice_index_or (rows_of old) at []) (listed_at n at (rows_of old) all)))

-- two neighbours were written
pub put_two-length : (old new : List RowList) (at : ℕ) (ms cs : List (ℕ × ℕ)) → rows_of new ≡ slice_set (slice_set (rows_of old) at ms) (at + 1) cs → length new ≡ length old
put_two-length old new at ms cs e = sym (length-rows_of new) ∙ ap length e ∙ length-set (slice_set (rows_of old) at ms) (at + 1) cs ∙ length-set (rows_of old) at ms ∙ length-rows_of old

pub put_two-listed : (n : ℕ) (old new : List RowList) (at : ℕ) (ms cs : List (ℕ × ℕ)) → rows_of new ≡ slice_set (slice_set (rows_of old) at (slice_index_or (rows_of old) at [] ++ ms)) (at + 1) (slice_index_or (rows_of old) (at + 1) [] ++ cs) → list_all (are_listed n) (rows_of old) ≡ true
    → are_listed n ms ≡ true → are_listed n cs ≡ true → list_all (are_listed n) (rows_of new) ≡ true
put_two-listed n old new at ms cs e all first second =
    let lists = rows_of old in
    let a = listed-append n (slice_index_or lists at []) ms (listed_at n at lists all) first in
    let b = listed-append n (slice_index_or lists (at + 1) []) cs (listed_at n (at + 1) lists all) second in
    let one = listed-put n at lists (slice_index_or lists at [] ++ ms) all a in
    rw e (listed-put n (at + 1) (slice_set lists at (slice_index_or lists at [] ++ ms)) (slice_index_or lists (at + 1) [] ++ cs) one b)
