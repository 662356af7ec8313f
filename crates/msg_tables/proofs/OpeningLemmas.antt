-- Tables when they are opened.
use Rattle.std.proofs.Common.{◌≡◌, ◌≤◌, ◌+◌, ◌*◌, ℕ, zero, suc, List, [], ◌∷◌, ◌++◌, length, length-append, replicate, take, Some, slice_get, true, refl, sym, ap, ◌∙◌, subst, append_assoc, append-nil, arith}
use Rattle.std.specs.Prelude.{sum_by, slice_index_or}
use Rattle.std.specs.List.{list_all}
use Rattle.std.proofs.lemmas.List.Sums.{sum_by-cons, sum_by_push, sum_by-take-le}
use Rattle.msg_tables.specs.Origin.{OriginView, class_total, are_listed}
use Rattle.msg_tables.specs.Methods.{MethodsOf}
use Rattle.msg_tables.specs.Rows.{Row}
use Rattle.msg_tables.specs.After.{rows_at, list_rows, opening_table}
use Rattle.msg_tables.specs.Log.{empty, table}
use Rattle.msg_tables.specs.Stands.{Holds, StandsAt}
use Rattle.msg_tables.specs.Opening.{Adds, IsBlank, IsFor, size_of_list}
use Rattle.msg_names.specs.ClassRef.{slot_of}
use Rattle.msg_tables.specs.View.{TablesView, kept}
use Rattle.msg_tables.proofs.LogLemmas.{log-empty}
use Rattle.msg_tables.proofs.HoldsLemmas.{length-rows_at}
use Rattle.msg_tables.proofs.TakeLemmas.{take-next}

-- no row is no unlisted row
pub listed-blank : (n count : ℕ) → list_all (are_listed n) (replicate count []) ≡ true
listed-blank n zero = refl
listed-blank n (suc count) = listed-blank n count

pub list_rows-append : (xs ys : List MethodsOf) → list_rows (xs ++ ys) ≡ list_rows xs ++ list_rows ys
list_rows-append [] ys = refl
list_rows-append (x ∷ xs) ys = ap (λ rows. rows_at x.class x.methods ++ rows) (list_rows-append xs ys) ∙ sym (append_assoc (rows_at x.class x.methods) (list_rows xs) (list_rows ys))

-- one more list
pub list_rows-next : (xs : List MethodsOf) (l : MethodsOf) → list_rows (xs ++ l ∷ []) ≡ list_rows xs ++ rows_at l.class l.methods
list_rows-next xs l = list_rows-append xs (l ∷ []) ∙ ap (λ rows. list_rows xs ++ rows) (append-nil (rows_at l.class l.methods))

-- the number of rows that lists bring
pub length-list_rows : (xs : List MethodsOf) → length (list_rows xs) ≡ sum_by size_of_list xs
length-list_rows [] = refl
length-list_rows (x ∷ xs) =
    let both : length (rows_at x.class x.methods ++ list_rows xs) ≡ size_of_list x + sum_by size_of_list xs =
    omega (arith, length-append (rows_at x.class x.methods) (list_rows xs), length-rows_at x.class x.methods, length-list_rows xs) in
    both ∙ sym (sum_by-cons size_of_list x xs)

-- there is room for the next
pub take-room : {X : Type 0} (size : X → ℕ) (xs : List X) (k : ℕ) (x : X) → slice_get xs k ≡ Some x → sum_by size (take k xs) + size x ≤ sum_by size xs
take-room size xs k x e =
    let more : sum_by size (take (k + 1) xs) ≡ sum_by size (take k xs) + size x = ap (sum_by size) (take-next xs k x e) ∙ sum_by_push size (take k xs) x in
    omega (arith, more, sum_by-take-le size xs (k + 1))

-- rows that are added after others
pub adds-both : (a b c : TablesView) (xs ys : List Row) → Adds a b xs → Adds b c ys → Adds a c (xs ++ ys)
adds-both a b c xs ys first second = record {
  rows = λ rows holds. subst (Holds c.lists) (append_assoc rows xs ys) (second.rows (rows ++ xs) (first.rows rows holds));
  row_count = omega (arith, first.row_count, second.row_count, length-append xs ys);
  rest = second.rest ∙ ap {A = TablesView} (λ t. record t { lists = c.lists; rooms = c.rooms; row_count = c.row_count }) first.rest;
}

-- the rows of one more list
pub adds-next : (a b c : TablesView) (lists : List MethodsOf) (p q : ℕ) (l : MethodsOf) → q ≡ p + 1 → slice_get lists p ≡ Some l → Adds a b (list_rows (take p lists)) → Adds b c (rows_at l.class l.methods) → Adds a c (list_rows (take q lists))
adds-next a b c lists p q l e at before after =
    let more : list_rows (take q lists) ≡ list_rows (take p lists) ++ rows_at l.class l.methods = ap (λ n. list_rows (take n lists)) e ∙ ap list_rows (take-next lists p l at) ∙ list_rows-next (take p lists) l in
    subst (Adds a c) (sym more) (adds-both a b c (list_rows (take p lists)) (rows_at l.class l.methods) before after)

-- the number of rows then
pub adds-count : (a b : TablesView) (lists : List MethodsOf) → a.row_count ≡ 0 → Adds a b (list_rows lists) → b.row_count ≡ sum_by size_of_list lists
adds-count a b lists none adds = let count = length-list_rows lists in omega (arith, none, adds.row_count, count)

-- the tables are still those of the origin
pub adds-for : (o : OriginView) (a b : TablesView) (more : List Row) → IsFor o a → Adds a b more → IsFor o b
adds-for o a b more is adds = record {
  classes = ap (λ (t : TablesView). length t.supers) adds.rest ∙ is.classes;
  counts = ap (λ (t : TablesView). t.counts) adds.rest ∙ is.counts;
  limits = ap (λ (t : TablesView). t.limits) adds.rest ∙ is.limits;
}

kept-blank : (n k : ℕ) → slice_index_or {A = List (ℕ × ℕ)} (replicate n []) k [] ≡ []
kept-blank zero k = refl
kept-blank (suc n) zero = refl
kept-blank (suc n) (suc k) = kept-blank n k

-- opened tables are at the log without changes
pub stands-open : (o : OriginView) (a b : TablesView) → IsBlank o a → Adds a b (list_rows o.lists) → StandsAt b (empty o)
unfolding table opening_table
stands-open o a b blank adds = record {
  log = log-empty (empty o) refl;
  supers = ap (λ t. t.supers) adds.rest ∙ blank.supers;
  listed = ap (λ t. t.listed) adds.rest ∙ blank.listed;
  rows = adds.rows [] (record { at = λ k. ap (λ ls. kept ls k) blank.lists ∙ kept-blank (2 * class_total o) (slot_of k) });
  row_count = let count : b.row_count ≡ length (list_rows o.lists) = omega (arith, adds.row_count, blank.row_count) in count;
  changes = ap (λ t. t.change_count) adds.rest ∙ blank.change_count;
  counts = ap (λ t. t.counts) adds.rest ∙ blank.counts;
  limits = ap (λ t. t.limits) adds.rest ∙ blank.limits;
}

-- no rows are counted
pub counted-blank : (n : ℕ) → 0 ≡ sum_by (length {A = ℕ × ℕ}) (replicate n [])
counted-blank zero = refl
counted-blank (suc n) = let rest = counted-blank n in let e = sum_by-cons (length {A = ℕ × ℕ}) [] (replicate n []) in omega (arith, rest, e)
