-- Room in lists of rows.
use Rattle.std.proofs.lemmas.Bool.{cases_lt}
use Rattle.std.proofs.lemmas.List.{get_or-set_same, length-map}
use Rattle.std.proofs.Common.{◌≡◌, ◌<◌, ◌≤◌, ◌+◌, ◌-◌, ◌⊎◌, inl, inr, ℕ, zero, suc, List, [], ◌∷◌, ◌++◌, length, length-append, get_or, replicate, take, drop, refl, sym, ap, ◌∙◌, subst, arith}
use Rattle.std.specs.Prelude.{slice_index_or, slice_set}
use Rattle.msg_rows.specs.Kept.{no_rows}
use Rattle.msg_names.specs.Number.{selector_number, imp_number}
use Rattle.msg_names.specs.declared.value.ImpRef.{ImpRef}
use Rattle.msg_names.specs.declared.value.Selector.{Selector}
use Rattle.msg_rows.specs.RowList.{HaveGrown, KeepRoom, KeepsRoom, LacksRoomAt, RowList, rooms_of, rows_of, with_row_at}
use Rattle.msg_rows.proofs.ReservedLemmas.{Reaches, all, all-read, reached-same}

pub grown-same : (rooms : List ℕ) → HaveGrown rooms rooms
grown-same rooms = record { at = λ k. omega arith }

pub grown-is : (rooms more : List ℕ) → more ≡ rooms → HaveGrown rooms more
grown-is rooms more e = subst (λ r. HaveGrown rooms r) (sym e) (grown-same rooms)

pub grown-on : (a b c : List ℕ) → HaveGrown a b → HaveGrown b c → HaveGrown a c
grown-on a b c first second = record { at = λ k. let x = first.at k in let y = second.at k in omega (arith, x, y) }

-- one that was read is written, with as much room
set-at : (lists : List RowList) (at : ℕ) (was now : RowList) → was ≡ get_or lists at was → KeepsRoom was now → (k : ℕ) → slice_index_or (rooms_of lists) k 0 ≤ slice_index_or (rooms_of (slice_set lists at now)) k 0
set-at [] at was now read keeps k = omega arith
set-at (x ∷ xs) zero was now read keeps zero = subst (λ (r : RowList). length r.rows + r.room ≤ length now.rows + now.room) read keeps
set-at (x ∷ xs) zero was now read keeps (suc k) = omega arith
set-at (x ∷ xs) (suc at) was now read keeps zero = omega arith
set-at (x ∷ xs) (suc at) was now read keeps (suc k) = set-at xs at was now read keeps k

pub keep-set : (lists : List RowList) (at : ℕ) (was now : RowList) → was ≡ get_or lists at was → KeepsRoom was now → KeepRoom lists (slice_set lists at now)
keep-set lists at was now read keeps = record { at = set-at lists at was now read keeps }

-- one more comes
pushed-at : (lists : List RowList) (r : RowList) (k : ℕ) → slice_index_or (rooms_of lists) k 0 ≤ slice_index_or (rooms_of (lists ++ r ∷ [])) k 0
pushed-at [] r k = omega arith
pushed-at (x ∷ xs) r zero = omega arith
pushed-at (x ∷ xs) r (suc k) = pushed-at xs r k

pub keep-pushed : (lists : List RowList) (r : RowList) → KeepRoom lists (lists ++ r ∷ [])
keep-pushed lists r = record { at = pushed-at lists r }

-- those that aren't written have none
padded-at : (lists : List RowList) (n k : ℕ) → slice_index_or (rooms_of (lists ++ replicate n no_rows)) k 0 ≡ slice_index_or (rooms_of lists) k 0
padded-at [] zero k = refl
padded-at [] (suc n) zero = refl
padded-at [] (suc n) (suc k) = padded-at [] n k
padded-at (x ∷ xs) n zero = refl
padded-at (x ∷ xs) n (suc k) = padded-at xs n k

pub keep-all : (xs ys : List RowList) (n : ℕ) → KeepRoom xs ys → KeepRoom (all xs n) (all ys n)
keep-all xs ys n keeps = record {
  at = λ k.
      let a = padded-at xs (n - length xs) k in
      let b = padded-at ys (n - length ys) k in
      let c = keeps.at k in
      omega (arith, a, b, c);
}

-- ---- one list

pub keeps-on : (a b c : RowList) → KeepsRoom a b → KeepsRoom b c → KeepsRoom a c
keeps-on a b c first second = omega (arith, first, second)

pub keeps-row : (a b : RowList) (m : ℕ × ℕ) → b.rows ≡ a.rows ++ m ∷ [] → a.room ≤ b.room + 1 → KeepsRoom a b
keeps-row a b m is room = let n = length-append a.rows (m ∷ []) in let e = ap length is in omega (arith, n, e, room)

pub length-put_at : {A : Type 0} (n : ℕ) (x : A) (xs : List A) → length (take n xs ++ x ∷ drop n xs) ≡ suc (length xs)
length-put_at zero x xs = refl
length-put_at (suc n) x [] = refl
length-put_at (suc n) x (y ∷ ys) = ap suc (length-put_at n x ys)

pub length-with_row_at : (n : ℕ) (s : Selector) (i : ImpRef) (ms : List (ℕ × ℕ)) → length (with_row_at n s i ms) ≡ suc (length ms)
length-with_row_at n s i ms = length-put_at n (selector_number s, imp_number i) ms

pub keeps-put : (a b : RowList) (n : ℕ) (s : Selector) (i : ImpRef) → b.rows ≡ with_row_at n s i a.rows → a.room ≤ b.room + 1 → KeepsRoom a b
keeps-put a b n s i is room = let many = length-with_row_at n s i a.rows in let e = ap length is in omega (arith, many, e, room)

pub keep-same : (a b : List RowList) → b ≡ a → KeepRoom a b
keep-same a b e = grown-is (rooms_of a) (rooms_of b) (ap rooms_of e)

-- ---- a row that is put back

read-room : (lists : List RowList) (k : ℕ) → slice_index_or (rooms_of lists) k 0 ≡ length (slice_index_or lists k no_rows).rows + (slice_index_or lists k no_rows).room
read-room [] k = omega arith
read-room (x ∷ xs) zero = refl
read-room (x ∷ xs) (suc k) = read-room xs k

read-list : (lists : List RowList) (k : ℕ) → slice_index_or (rows_of lists) k [] ≡ (slice_index_or lists k no_rows).rows
read-list [] k = refl
read-list (x ∷ xs) zero = refl
read-list (x ∷ xs) (suc k) = read-list xs k

set-outside : (ls : List (List (ℕ × ℕ))) (k : ℕ) (ms : List (ℕ × ℕ)) → length ls ≤ k → slice_index_or (slice_set ls k ms) k [] ≡ []
set-outside [] k ms past = refl
set-outside (x ∷ xs) zero ms past = absurd (omega (arith, past))
set-outside (x ∷ xs) (suc k) ms past = set-outside xs k ms (omega (arith, past))

pub record CanPut (lists : List RowList) (k at : ℕ) : Type 0 where
  pub inside : k < length lists
  pub room : 0 < (slice_index_or lists k no_rows).room
  pub place : at ≤ length (slice_index_or lists k no_rows).rows

pub can-put : (lists : List RowList) (k at : ℕ) (s : Selector) (i : ImpRef) → let ms = slice_index_or (slice_set (rows_of lists) k (with_row_at at s i (slice_index_or (rows_of lists) k []))) k [] in
    (at < length ms) × (length ms ≤ slice_index_or (rooms_of lists) k 0) → CanPut lists k at
can-put lists k at s i fits = step (cases_lt k (length lists))
  where
    rows : List (ℕ × ℕ)
    rows = with_row_at at s i (slice_index_or (rows_of lists) k [])

    step : (k < length lists) ⊎ (length lists ≤ k) → CanPut lists k at
    step (inl inside) =
        let there : k < length (rows_of lists) = omega (arith, inside, length-map lists (λ (r : RowList). r.rows)) in
        let read : slice_index_or (slice_set (rows_of lists) k (with_row_at at s i (slice_index_or (rows_of lists) k []))) k [] ≡ with_row_at at s i (slice_index_or (rows_of lists) k []) =
        get_or-set_same (rows_of lists) k (with_row_at at s i (slice_index_or (rows_of lists) k [])) [] there in
        let many = length-with_row_at at s i (slice_index_or (rows_of lists) k []) in
        let count = ap length read in
        let list = ap length (read-list lists k) in
        let room = read-room lists k in
        let a = fits.0 in
        let b = fits.1 in
        record { inside = inside; room = omega (arith, many, count, list, room, b); place = omega (arith, many, count, list, a) }
    step (inr past) =
        let none = ap length (set-outside (rows_of lists) k (with_row_at at s i (slice_index_or (rows_of lists) k [])) (omega (arith, past, length-map lists (λ (r : RowList). r.rows)))) in
        let a = fits.0 in
        absurd (omega (arith, none, a))

pub within-room : (lists : List RowList) (k : ℕ) → length (slice_index_or (rows_of lists) k []) ≤ slice_index_or (rooms_of lists) k 0
within-room lists k = let a = ap length (read-list lists k) in let b = read-room lists k in omega (arith, a, b)

-- if there was no room in lists of which more are written now, there was none before
pub lacks-before : (xs ys : List RowList) (n at k : ℕ) → Reaches xs ys n → KeepRoom xs ys → at < length ys → LacksRoomAt ys at k → LacksRoomAt (all xs n) at k
lacks-before xs ys n at k reaches keeps inside lacks =
    let a = padded-at xs (n - length xs) at in
    let b = keeps.at at in
    let c = ap length (sym (all-read ys n at inside) ∙ ap (λ rs. slice_index_or rs at []) (reached-same xs ys n reaches)) in
    omega (arith, a, b, c, lacks)
