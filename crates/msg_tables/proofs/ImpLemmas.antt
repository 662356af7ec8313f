-- At a log each row's implementation exists, so a lookup finds one that exists.
use Rattle.std.proofs.Common.{◌≡◌, ◌≤◌, ℕ, List, [], ◌∷◌, ◌++◌, Option, Some, None, Bool, true, false, cond, refl, sym, ap, ◌∙◌, subst, append_assoc, append-nil, arith}
use Rattle.std.specs.Prelude.{◌==◌, ◌&&◌, ◌||◌, nat_le, nat_lt, unwrap_or, reverse, is_some, is_none, All}
use Rattle.std.specs.List.{list_any, list_all}
use Rattle.std.proofs.lemmas.Bool.Decides.{nat_tests}
use Rattle.std.proofs.lemmas.List.{reverse-append}
use Rattle.std.proofs.lemmas.List.Elements.{All-head, All-tail}
use Rattle.std.proofs.lemmas.Option.{same_Some}
use Rattle.msg_names.proofs.TestLemmas.{both}
use Rattle.msg_names.specs.declared.value.ClassRef.{ClassRef}
use Rattle.msg_names.specs.declared.value.Selector.{Selector}
use Rattle.msg_names.specs.declared.value.ImpRef.{ImpRef}
use Rattle.msg_names.specs.Number.{selector_number, imp_number}
use Rattle.msg_tables.specs.declared.change.Change.{Change}
use Rattle.msg_tables.specs.declared.change.Change.TheVariants.{Add, Replace, SetImp, Exchange, Attach, AddClass, Remove, DisposeClass}
use Rattle.msg_tables.specs.Origin.{OriginView, IsSound, IsSoundList, are_listed, last_imp}
use Rattle.msg_tables.specs.Methods.{MethodsOf}
use Rattle.msg_tables.specs.After.{of_class, of_meta, rows_at, row, list_rows, opening_table, set_own, set_method, without_own, without_class, rows_after, table_after}
use Rattle.msg_tables.specs.Log.{Log, empty, and_then, table, lookup}
use Rattle.msg_tables.specs.Refusal.{refusal, AreAccepted, IsLog, conditions, no_imp}
use Rattle.msg_rows.specs.RowList.{or_else}
use Rattle.msg_tables.specs.Rows.{Row, is_at, own, holder_at, lookup_in, lookup_at}
use Rattle.msg_tables.proofs.LogLemmas.{table-and_then}
use Rattle.msg_tables.proofs.LimitLemmas.{none_holds}
use Rattle.msg_tables.proofs.ListedLemmas.{and_both}

-- each row's implementation is one of the first n
abbrev AreWithin : ℕ → List Row → Type 0
AreWithin n rows = list_all (λ (r : Row). nat_le r.imp n) rows ≡ true

within-append : (n : ℕ) (xs ys : List Row) → AreWithin n xs → AreWithin n ys → AreWithin n (xs ++ ys)
within-append n [] ys a b = b
within-append n (x ∷ xs) ys a b =
    let (first, rest) = both (nat_le x.imp n) (list_all (λ (r : Row). nat_le r.imp n) xs) a in
    and_both (nat_le x.imp n) (list_all (λ (r : Row). nat_le r.imp n) (xs ++ ys)) first (within-append n xs ys rest b)

test : (i n : ℕ) → i ≤ n → nat_le i n ≡ true
test i n le = grind (arith, nat_tests)

fact : (i n : ℕ) → nat_le i n ≡ true → i ≤ n
fact i n e = grind (arith, nat_tests)

within-one : (n : ℕ) (c : ClassRef) (s : Selector) (i : ImpRef) → imp_number i ≤ n → AreWithin n (row c s i ∷ [])
within-one n c s i le = and_both (nat_le (imp_number i) n) true (test (imp_number i) n le) refl

-- ---- what is found in such rows

own-within : (n : ℕ) (rows : List Row) (c : ClassRef) (s i : ℕ) → AreWithin n rows → own rows c s ≡ Some i → i ≤ n
own-within n [] c s i all e = cc
own-within n (r ∷ rs) c s i all e =
    let (first, rest) = both (nat_le r.imp n) (list_all (λ (r : Row). nat_le r.imp n) rs) all in
    step (own rs c s) (is_at c s r) (fact r.imp n first) (λ j is. own-within n rs c s j rest is) e
  where
    step : (o : Option ℕ) (b : Bool) → r.imp ≤ n → ((j : ℕ) → o ≡ Some j → j ≤ n) → or_else o (cond b (Some r.imp) None) ≡ Some i → i ≤ n
    step (Some j) b first rest e = rest i e
    step None true first rest e = let same : r.imp ≡ i = same_Some r.imp i e in omega (arith, same, first)
    step None false first rest e = cc

found-within : (n : ℕ) (rows : List Row) (cs : List ClassRef) (s : ℕ) → AreWithin n rows → lookup_in rows cs s ≤ n
found-within n rows [] s all = omega arith
found-within n rows (c ∷ cs) s all = step (own rows c s) (λ i e. own-within n rows c s i all e) (found-within n rows cs s all)
  where
    step : (o : Option ℕ) → ((i : ℕ) → o ≡ Some i → i ≤ n) → lookup_in rows cs s ≤ n → unwrap_or o (lookup_in rows cs s) ≤ n
    step None here rest = rest
    step (Some i) here rest = here i refl

-- ---- what a change writes

set_own-within : (n : ℕ) (c : ClassRef) (s i : ℕ) (rows : List Row) → i ≤ n → AreWithin n rows → AreWithin n (set_own c s i rows)
set_own-within n c s i [] le all = refl
set_own-within n c s i (r ∷ rs) le all =
    let (first, rest) = both (nat_le r.imp n) (list_all (λ (r : Row). nat_le r.imp n) rs) all in
    step (is_at c s r && is_none (own rs c s)) first (set_own-within n c s i rs le rest)
  where
    step : (b : Bool) → nat_le r.imp n ≡ true → AreWithin n (set_own c s i rs) → AreWithin n (cond b (record { class = c; sel = s; imp = i }) r ∷ set_own c s i rs)
    step true first rest = and_both (nat_le i n) (list_all (λ (r : Row). nat_le r.imp n) (set_own c s i rs)) (test i n le) rest
    step false first rest = and_both (nat_le r.imp n) (list_all (λ (r : Row). nat_le r.imp n) (set_own c s i rs)) first rest

set_method-within : (n : ℕ) (o : Option ClassRef) (s i : ℕ) (rows : List Row) → i ≤ n → AreWithin n rows → AreWithin n (set_method o s i rows)
set_method-within n None s i rows le all = all
set_method-within n (Some c) s i rows le all = set_own-within n c s i rows le all

without-within : (n : ℕ) (c : ClassRef) (s : ℕ) (rows : List Row) → AreWithin n rows → AreWithin n (without_own c s rows)
without-within n c s [] all = refl
without-within n c s (r ∷ rs) all =
    let (first, rest) = both (nat_le r.imp n) (list_all (λ (r : Row). nat_le r.imp n) rs) all in
    step (is_at c s r && is_none (own rs c s)) first rest (without-within n c s rs rest)
  where
    step : (b : Bool) → nat_le r.imp n ≡ true → AreWithin n rs → AreWithin n (without_own c s rs) → AreWithin n (cond b rs (r ∷ without_own c s rs))
    step true first rest left = rest
    step false first rest left = and_both (nat_le r.imp n) (list_all (λ (r : Row). nat_le r.imp n) (without_own c s rs)) first left

without_class-within : (n k : ℕ) (rows : List Row) → AreWithin n rows → AreWithin n (without_class k rows)
without_class-within n k [] all = refl
without_class-within n k (r ∷ rs) all =
    let (first, rest) = both (nat_le r.imp n) (list_all (λ (r : Row). nat_le r.imp n) rs) all in
    step (r.class.class == k) first (without_class-within n k rs rest)
  where
    step : (b : Bool) → nat_le r.imp n ≡ true → AreWithin n (without_class k rs) → AreWithin n (cond b (without_class k rs) (r ∷ without_class k rs))
    step true first left = left
    step false first left = and_both (nat_le r.imp n) (list_all (λ (r : Row). nat_le r.imp n) (without_class k rs)) first left

rows_at-append : (c : ClassRef) (xs ys : List (ℕ × ℕ)) → rows_at c (xs ++ ys) ≡ rows_at c xs ++ rows_at c ys
rows_at-append c [] ys = refl
rows_at-append c (x ∷ xs) ys = ap (λ rows. record { class = c; sel = x.0; imp = x.1 } ∷ rows) (rows_at-append c xs ys)

reversed-within : (n : ℕ) (c : ClassRef) (ms : List (ℕ × ℕ)) → AreWithin n (rows_at c ms) → AreWithin n (rows_at c (reverse ms))
reversed-within n c [] all = refl
reversed-within n c (m ∷ ms) all =
    let (first, rest) = both (nat_le m.1 n) (list_all (λ (r : Row). nat_le r.imp n) (rows_at c ms)) all in
    let turned : rows_at c (reverse (m ∷ ms)) ≡ rows_at c (reverse ms) ++ rows_at c (m ∷ []) = ap (rows_at c) (reverse-append (m ∷ []) ms) ∙ rows_at-append c (reverse ms) (m ∷ []) in
    subst (AreWithin n) (sym turned) (within-append n (rows_at c (reverse ms)) (rows_at c (m ∷ [])) (reversed-within n c ms rest) (and_both (nat_le m.1 n) true first refl))

-- an implementation that isn't lacking is listed
not_lacking : (h : Log) (i : ℕ) → no_imp h i ≡ false → i ≤ last_imp h.origin.counts
unfolding no_imp
not_lacking h i e = step (i == 0) (nat_lt (last_imp h.origin.counts) i) refl e
  where
    step : (a b : Bool) → nat_lt (last_imp h.origin.counts) i ≡ b → (a || b) ≡ false → i ≤ last_imp h.origin.counts
    step true b is e = cc
    step false b is e = let few : nat_lt (last_imp h.origin.counts) i ≡ false = is ∙ e in grind (arith, nat_tests)

none_lacking : (h : Log) (c : ClassRef) (ms : List (ℕ × ℕ)) → list_any (λ m. no_imp h m.1) ms ≡ false → AreWithin (last_imp h.origin.counts) (rows_at c ms)
none_lacking h c [] e = refl
none_lacking h c (m ∷ ms) e = step (no_imp h m.1) refl (none_lacking h c ms) e
  where
    step : (b : Bool) → no_imp h m.1 ≡ b → (list_any (λ m. no_imp h m.1) ms ≡ false → AreWithin (last_imp h.origin.counts) (rows_at c ms))
        → (b || list_any (λ m. no_imp h m.1) ms) ≡ false → AreWithin (last_imp h.origin.counts) (rows_at c (m ∷ ms))
    step true is rest e = cc
    step false is rest e = and_both (nat_le m.1 (last_imp h.origin.counts)) (list_all (λ (r : Row). nat_le r.imp (last_imp h.origin.counts)) (rows_at c ms)) (test m.1 (last_imp h.origin.counts) (not_lacking h m.1 is)) (rest e)

any-append : (h : Log) (xs ys : List (ℕ × ℕ)) → list_any (λ m. no_imp h m.1) (xs ++ ys) ≡ false → (list_any (λ m. no_imp h m.1) xs ≡ false) × (list_any (λ m. no_imp h m.1) ys ≡ false)
any-append h [] ys e = (refl, e)
any-append h (x ∷ xs) ys e = step (no_imp h x.1) (any-append h xs ys) e
  where
    step : (b : Bool) → (list_any (λ m. no_imp h m.1) (xs ++ ys) ≡ false → (list_any (λ m. no_imp h m.1) xs ≡ false) × (list_any (λ m. no_imp h m.1) ys ≡ false))
        → (b || list_any (λ m. no_imp h m.1) (xs ++ ys)) ≡ false → ((b || list_any (λ m. no_imp h m.1) xs) ≡ false) × (list_any (λ m. no_imp h m.1) ys ≡ false)
    step true rest e = cc
    step false rest e = rest e

after-within : (h : Log) (x : Change) → refusal h x ≡ None → AreWithin (last_imp h.origin.counts) (table h).rows → AreWithin (last_imp h.origin.counts) (rows_after (table h) x)
unfolding refusal
after-within h (Add c s i) e all = within-append (last_imp h.origin.counts) (table h).rows (row c s i ∷ []) all (within-one (last_imp h.origin.counts) c s i (not_lacking h (imp_number i) (none_holds (conditions h (Add c s i)) 1 e)))
after-within h (Replace c s i) e all =
    let le = not_lacking h (imp_number i) (none_holds (conditions h (Replace c s i)) 1 e) in
    let n = last_imp h.origin.counts in
    step (is_some (own (table h).rows c (selector_number s))) (set_own-within n c (selector_number s) (imp_number i) (table h).rows le all) (within-append n (table h).rows (row c s i ∷ []) all (within-one n c s i le))
  where
    step : (b : Bool) → AreWithin (last_imp h.origin.counts) (set_own c (selector_number s) (imp_number i) (table h).rows) → AreWithin (last_imp h.origin.counts) ((table h).rows ++ row c s i ∷ [])
        → AreWithin (last_imp h.origin.counts) (cond b (set_own c (selector_number s) (imp_number i) (table h).rows) ((table h).rows ++ row c s i ∷ []))
    step true set added = set
    step false set added = added
after-within h (SetImp c s i) e all =
    set_method-within (last_imp h.origin.counts) (holder_at (table h) c (selector_number s)) (selector_number s) (imp_number i) (table h).rows (not_lacking h (imp_number i) (none_holds (conditions h (SetImp c s i)) 1 e)) all
after-within h (Exchange c s d u) e all =
    let n = last_imp h.origin.counts in
    let t = table h in
    let first = lookup_at t c (selector_number s) in
    let inner = set_method-within n (holder_at t d (selector_number u)) (selector_number u) first t.rows (found-within n t.rows _ (selector_number s) all) all in
    set_method-within n (holder_at t c (selector_number s)) (selector_number s) (lookup_at t d (selector_number u)) _ (found-within n t.rows _ (selector_number u) all) inner
after-within h (Attach k ms cs) e all =
    let n = last_imp h.origin.counts in
    let (own_listed, meta_listed) = any-append h ms cs (none_holds (conditions h (Attach k ms cs)) 1 e) in
    let first = within-append n (table h).rows (rows_at (of_class k) (reverse ms)) all (reversed-within n (of_class k) ms (none_lacking h (of_class k) ms own_listed)) in
    within-append n ((table h).rows ++ rows_at (of_class k) (reverse ms)) (rows_at (of_meta k) (reverse cs)) first (reversed-within n (of_meta k) cs (none_lacking h (of_meta k) cs meta_listed))
after-within h (AddClass k d) e all = all
after-within h (Remove c s) e all = without-within (last_imp h.origin.counts) c (selector_number s) (table h).rows all
after-within h (DisposeClass k) e all = without_class-within (last_imp h.origin.counts) k (table h).rows all

-- ---- from the opening on

listed-within : (n : ℕ) (c : ClassRef) (ms : List (ℕ × ℕ)) → are_listed n ms ≡ true → AreWithin n (rows_at c ms)
listed-within n c [] all = refl
listed-within n c (m ∷ ms) all =
    let (first, rest) = both (nat_le m.1 n) (are_listed n ms) all in
    and_both (nat_le m.1 n) (list_all (λ (r : Row). nat_le r.imp n) (rows_at c ms)) first (listed-within n c ms rest)

lists-within : (o : OriginView) (ls : List MethodsOf) → All (IsSoundList o) ls → AreWithin (last_imp o.counts) (list_rows ls)
lists-within o [] all = refl
lists-within o (l ∷ ls) all =
    within-append (last_imp o.counts) (rows_at l.class l.methods) (list_rows ls)
    (listed-within (last_imp o.counts) l.class l.methods (All-head (IsSoundList o) l ls all).methods) (lists-within o ls (All-tail (IsSoundList o) l ls all))

opened-within : (o : OriginView) → IsSound o → AreWithin (last_imp o.counts) (table (empty o)).rows
unfolding table opening_table
opened-within o sound = lists-within o o.lists sound.lists

rows-and_then : (h : Log) (x : Change) → (table (and_then h x)).rows ≡ rows_after (table h) x
unfolding table_after
rows-and_then h x = ap (λ t. t.rows) (table-and_then h x)

within-on : (h : Log) (xs : List Change) → AreWithin (last_imp h.origin.counts) (table h).rows → AreAccepted h xs → AreWithin (last_imp h.origin.counts) (table (record { origin = h.origin; changes = h.changes ++ xs })).rows
within-on h [] all accepted = subst (λ cs. AreWithin (last_imp h.origin.counts) (table (record { origin = h.origin; changes = cs })).rows) (sym (append-nil h.changes)) all
within-on h (x ∷ xs) all accepted =
    let next = subst (AreWithin (last_imp h.origin.counts)) (sym (rows-and_then h x)) (after-within h x accepted.0 all) in
    subst (λ cs. AreWithin (last_imp h.origin.counts) (table (record { origin = h.origin; changes = cs })).rows) (append_assoc h.changes (x ∷ []) xs) (within-on (and_then h x) xs next accepted.1)

pub found-listed : (h : Log) (c : ClassRef) (s : ℕ) → IsSound h.origin → IsLog h → lookup h c s ≤ last_imp h.origin.counts
unfolding lookup IsLog
found-listed h c s sound accepted = found-within (last_imp h.origin.counts) (table h).rows _ s (within-on (empty h.origin) h.changes (opened-within h.origin sound) accepted)
