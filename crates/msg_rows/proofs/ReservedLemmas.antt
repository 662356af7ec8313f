-- Lists of rows the last of which aren't written.
use Rattle.std.proofs.Common.{◌≡◌, ◌<◌, ◌≤◌, ◌+◌, ◌-◌, ℕ, zero, suc, List, [], ◌∷◌, ◌++◌, length, length-append, replicate, append_assoc, refl, sym, ap, ◌∙◌, arith}
use Rattle.std.specs.Prelude.{false, nat_lt, Result, Ok, Err, OnOk, OnErr, slice_index_or, slice_set}
use Rattle.std.proofs.Math.ListN.{length-set}
use Rattle.std.proofs.lemmas.List.{length-map, length-replicate, map-append, replicate-append-replicate}
use Rattle.msg_rows.specs.Kept.{no_rows}
use Rattle.msg_rows.specs.RowList.{RowList, rows_of}

-- all lists, the first n of which are written
abbrev pub all : List RowList → ℕ → List RowList
all written count = written ++ replicate (count - length written) no_rows

none-rows : (n : ℕ) → rows_of (replicate n no_rows) ≡ replicate n []
none-rows zero = refl
none-rows (suc n) = ap (λ rs. [] ∷ rs) (none-rows n)

pub all-rows : (xs : List RowList) (n : ℕ) → rows_of (all xs n) ≡ rows_of xs ++ replicate (n - length xs) []
all-rows xs n = map-append (λ (r : RowList). r.rows) xs (replicate (n - length xs) no_rows) ∙ ap (λ rs. rows_of xs ++ rs) (none-rows (n - length xs))

pub all-length : (xs : List RowList) (n : ℕ) → length xs ≤ n → length (all xs n) ≡ n
all-length xs n few = omega (arith, few, length-append xs (replicate (n - length xs) no_rows), length-replicate (n - length xs) no_rows)

-- more of them written, without rows
pub all-reached : (xs ys : List RowList) (n : ℕ) → rows_of ys ≡ rows_of xs ++ replicate (length ys - length xs) [] → length xs ≤ length ys → length ys ≤ n → rows_of (all ys n) ≡ rows_of (all xs n)
all-reached xs ys n more grown few =
    let count : length ys - length xs + (n - length ys) ≡ n - length xs = omega (arith, grown, few) in
    all-rows ys n ∙ ap (λ rs. rs ++ replicate (n - length ys) []) more ∙ append_assoc (rows_of xs) (replicate (length ys - length xs) []) (replicate (n - length ys) [])
    ∙ ap (λ rs. rows_of xs ++ rs) (replicate-append-replicate (length ys - length xs) (n - length ys) [] ∙ ap (λ k. replicate k []) count) ∙ sym (all-rows xs n)

read-front : (xs ys : List (List (ℕ × ℕ))) (k : ℕ) → k < length xs → slice_index_or (xs ++ ys) k [] ≡ slice_index_or xs k []
read-front [] ys k inside = absurd (omega (arith, inside))
read-front (x ∷ xs) ys zero inside = refl
read-front (x ∷ xs) ys (suc k) inside = read-front xs ys k (omega (arith, inside))

write-front : (xs ys : List (List (ℕ × ℕ))) (k : ℕ) (v : List (ℕ × ℕ)) → k < length xs → slice_set (xs ++ ys) k v ≡ slice_set xs k v ++ ys
write-front [] ys k v inside = absurd (omega (arith, inside))
write-front (x ∷ xs) ys zero v inside = refl
write-front (x ∷ xs) ys (suc k) v inside = ap (λ rs. x ∷ rs) (write-front xs ys k v (omega (arith, inside)))

read-back : (xs : List (List (ℕ × ℕ))) (n k : ℕ) → length xs ≤ k → slice_index_or (xs ++ replicate n []) k [] ≡ []
read-back [] zero k past = refl
read-back [] (suc n) zero past = refl
read-back [] (suc n) (suc k) past = read-back [] n k (omega arith)
read-back (x ∷ xs) n zero past = absurd (omega (arith, past))
read-back (x ∷ xs) n (suc k) past = read-back xs n k (omega (arith, past))

length-rows : (xs : List RowList) → length (rows_of xs) ≡ length xs
length-rows xs = length-map xs (λ (r : RowList). r.rows)

-- one of those that are written is read
pub all-read : (xs : List RowList) (n k : ℕ) → k < length xs → slice_index_or (rows_of (all xs n)) k [] ≡ slice_index_or (rows_of xs) k []
all-read xs n k inside = ap (λ rs. slice_index_or rs k []) (all-rows xs n) ∙ read-front (rows_of xs) (replicate (n - length xs) []) k (omega (arith, inside, length-rows xs))

-- and one that isn't
pub all-none : (xs : List RowList) (n k : ℕ) → length xs ≤ k → slice_index_or (rows_of (all xs n)) k [] ≡ []
all-none xs n k past = ap (λ rs. slice_index_or rs k []) (all-rows xs n) ∙ read-back (rows_of xs) (n - length xs) k (omega (arith, past, length-rows xs))

-- a list that is written is written again
pub all-set : (xs ys : List RowList) (n k : ℕ) (v : List (ℕ × ℕ)) → k < length xs → rows_of ys ≡ slice_set (rows_of xs) k v → rows_of (all ys n) ≡ slice_set (rows_of (all xs n)) k v
all-set xs ys n k v inside e =
    let count : length ys ≡ length xs = sym (length-rows ys) ∙ ap length e ∙ length-set (rows_of xs) k v ∙ length-rows xs in
    let rest = λ (m : ℕ). replicate {A = List (ℕ × ℕ)} (n - m) [] in
    all-rows ys n ∙ ap (λ m. rows_of ys ++ rest m) count ∙ ap (λ rs. rs ++ rest (length xs)) e
    ∙ sym (write-front (rows_of xs) (rest (length xs)) k v (omega (arith, inside, length-rows xs))) ∙ ap (λ rs. slice_set rs k v) (sym (all-rows xs n))

-- two neighbours
pub all-set_two : (xs ys : List RowList) (n k : ℕ) (v w : List (ℕ × ℕ)) → k + 1 < length xs → rows_of ys ≡ slice_set (slice_set (rows_of xs) k v) (k + 1) w → rows_of (all ys n) ≡ slice_set (slice_set (rows_of (all xs n)) k v) (k + 1) w
all-set_two xs ys n k v w inside e =
    let first = slice_set (rows_of xs) k v in
    let count : length ys ≡ length xs = sym (length-rows ys) ∙ ap length e ∙ length-set first (k + 1) w ∙ length-set (rows_of xs) k v ∙ length-rows xs in
    let rest = λ (m : ℕ). replicate {A = List (ℕ × ℕ)} (n - m) [] in
    let many : length first ≡ length xs = length-set (rows_of xs) k v ∙ length-rows xs in
    all-rows ys n ∙ ap (λ m. rows_of ys ++ rest m) count ∙ ap (λ rs. rs ++ rest (length xs)) e
    ∙ sym (write-front first (rest (length xs)) (k + 1) w (omega (arith, inside, many))) ∙ ap (λ rs. slice_set rs (k + 1) w) (sym (write-front (rows_of xs) (rest (length xs)) k v (omega (arith, inside, length-rows xs))))
    ∙ ap (λ rs. slice_set (slice_set rs k v) (k + 1) w) (sym (all-rows xs n))

-- the same rows
pub all-same : (xs ys : List RowList) (n : ℕ) → rows_of ys ≡ rows_of xs → rows_of (all ys n) ≡ rows_of (all xs n)
all-same xs ys n e =
    let count : length ys ≡ length xs = sym (length-rows ys) ∙ ap length e ∙ length-rows xs in
    all-rows ys n ∙ ap (λ rs. rs ++ replicate (n - length ys) []) e ∙ ap (λ m. rows_of xs ++ replicate (n - m) []) count ∙ sym (all-rows xs n)

-- more were written, as far as there are some
pub record Reaches (xs ys : List RowList) (n : ℕ) : Type 0 where
  pub rows : rows_of ys ≡ rows_of xs ++ replicate (length ys - length xs) []
  pub more : length xs ≤ length ys
  pub few : length ys ≤ n

pub reached-same : (xs ys : List RowList) (n : ℕ) → Reaches xs ys n → rows_of (all ys n) ≡ rows_of (all xs n)
reached-same xs ys n r = all-reached xs ys n r.rows r.more r.few

-- and then one was written
pub put : (xs ys zs : List RowList) (n at : ℕ) (f : List (ℕ × ℕ) → List (ℕ × ℕ)) → Reaches xs ys n → at < length ys → rows_of zs ≡ slice_set (rows_of ys) at (f (slice_index_or (rows_of ys) at []))
    → rows_of (all zs n) ≡ slice_set (rows_of (all xs n)) at (f (slice_index_or (rows_of (all xs n)) at []))
put xs ys zs n at f r inside e =
    all-set ys zs n at (f (slice_index_or (rows_of ys) at [])) inside e ∙ ap (λ rs. slice_set (rows_of (all ys n)) at (f rs)) (sym (all-read ys n at inside))
    ∙ ap (λ rs. slice_set rs at (f (slice_index_or rs at []))) (reached-same xs ys n r)

pub put_two : (xs ys zs : List RowList) (n at : ℕ) (f g : List (ℕ × ℕ) → List (ℕ × ℕ)) → Reaches xs ys n → at + 1 < length ys
    → rows_of zs ≡ slice_set (slice_set (rows_of ys) at (f (slice_index_or (rows_of ys) at []))) (at + 1) (g (slice_index_or (rows_of ys) (at + 1) []))
    → rows_of (all zs n) ≡ slice_set (slice_set (rows_of (all xs n)) at (f (slice_index_or (rows_of (all xs n)) at []))) (at + 1) (g (slice_index_or (rows_of (all xs n)) (at + 1) []))
put_two xs ys zs n at f g r inside e =
    let first : at < length ys = omega (arith, inside) in
    all-set_two ys zs n at (f (slice_index_or (rows_of ys) at [])) (g (slice_index_or (rows_of ys) (at + 1) [])) inside e
    ∙ ap (λ rs. slice_set (slice_set (rows_of (all ys n)) at (f rs)) (at + 1) (g (slice_index_or (rows_of ys) (at + 1) []))) (sym (all-read ys n at first))
    ∙ ap (λ rs. slice_set (slice_set (rows_of (all ys n)) at (f (slice_index_or (rows_of (all ys n)) at []))) (at + 1) (g rs)) (sym (all-read ys n (at + 1) inside))
    ∙ ap (λ rs. slice_set (slice_set rs at (f (slice_index_or rs at []))) (at + 1) (g (slice_index_or rs (at + 1) []))) (reached-same xs ys n r)

-- as many are written as before
pub put-few : (ys zs : List RowList) (n at : ℕ) (v : List (ℕ × ℕ)) → length ys ≤ n → rows_of zs ≡ slice_set (rows_of ys) at v → length zs ≤ n
put-few ys zs n at v few e =
    let count : length zs ≡ length ys = sym (length-rows zs) ∙ ap length e ∙ length-set (rows_of ys) at v ∙ length-rows ys in
    omega (arith, few, count)

pub put_two-few : (ys zs : List RowList) (n at : ℕ) (v w : List (ℕ × ℕ)) → length ys ≤ n → rows_of zs ≡ slice_set (slice_set (rows_of ys) at v) (at + 1) w → length zs ≤ n
put_two-few ys zs n at v w few e =
    let count : length zs ≡ length ys = sym (length-rows zs) ∙ ap length e ∙ length-set (slice_set (rows_of ys) at v) (at + 1) w ∙ length-set (rows_of ys) at v ∙ length-rows ys in
    omega (arith, few, count)

pub same-few : (ys zs : List RowList) (n : ℕ) → length ys ≤ n → rows_of zs ≡ rows_of ys → length zs ≤ n
same-few ys zs n few e =
    let count : length zs ≡ length ys = sym (length-rows zs) ∙ ap length e ∙ length-rows ys in
    omega (arith, few, count)

-- what follows from either outcome
pub by_result : {A B P Q R : Type 0} (r : Result A B) → OnOk r P → OnErr r Q → (P → R) → (Q → R) → R
by_result (Ok a) ok err f g = f ok
by_result (Err e) ok err f g = g err

pub if_ok : {A B P Q : Type 0} (r : Result A B) → OnOk r P → (P → Q) → OnOk r Q
if_ok (Ok a) ok f = f ok
if_ok (Err e) ok f = ok

pub if_err : {A B P Q : Type 0} (r : Result A B) → OnErr r P → (P → Q) → OnErr r Q
if_err (Ok a) err f = err
if_err (Err e) err f = f err

-- a list that is written as it was
pub set-kept : (xs : List (List (ℕ × ℕ))) (k : ℕ) → slice_set xs k (slice_index_or xs k []) ≡ xs
set-kept [] k = refl
set-kept (x ∷ xs) zero = refl
set-kept (x ∷ xs) (suc k) = ap (λ ys. x ∷ ys) (set-kept xs k)

-- one of those that are written
pub put-written : (xs ys : List RowList) (n at : ℕ) (f : List (ℕ × ℕ) → List (ℕ × ℕ)) → at < length xs → rows_of ys ≡ slice_set (rows_of xs) at (f (slice_index_or (rows_of xs) at [])) → rows_of (all ys n) ≡ slice_set (rows_of (all xs n)) at (f (slice_index_or (rows_of (all xs n)) at []))
put-written xs ys n at f inside e = all-set xs ys n at (f (slice_index_or (rows_of xs) at [])) inside e ∙ ap (λ rs. slice_set (rows_of (all xs n)) at (f rs)) (sym (all-read xs n at inside))

-- and one that isn't, of which no rows give none
pub put-unwritten : (xs : List RowList) (n at : ℕ) (f : List (ℕ × ℕ) → List (ℕ × ℕ)) → length xs ≤ at → f [] ≡ [] → rows_of (all xs n) ≡ slice_set (rows_of (all xs n)) at (f (slice_index_or (rows_of (all xs n)) at []))
put-unwritten xs n at f past none =
    let empty = all-none xs n at past in
    sym (ap (slice_set (rows_of (all xs n)) at) (ap f empty ∙ none ∙ sym empty) ∙ set-kept (rows_of (all xs n)) at)

pub past-of : (k m n : ℕ) → false ≡ nat_lt k m → m ≡ n → n ≤ k
past-of k m n test same = grind arith
