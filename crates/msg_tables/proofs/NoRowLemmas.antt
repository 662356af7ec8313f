-- Changes that add no row need no memory.
use Rattle.std.proofs.Common.{◌≡◌, ◌<◌, ◌≤◌, ◌⊎◌, ℕ, List, [], ◌∷◌, ◌++◌, length, length-append, Option, Some, None, Bool, true, false, refl, ap, arith, ⊎_elim}
use Rattle.std.specs.Option.{option_map_or}
use Rattle.msg_names.specs.ClassRef.{same_class}
use Rattle.msg_names.specs.Number.{imp_number, selector_number}
use Rattle.msg_names.specs.declared.value.ClassRef.{ClassRef}
use Rattle.msg_names.specs.declared.value.Selector.{Selector}
use Rattle.msg_tables.specs.After.{set_method, table_after}
use Rattle.msg_tables.specs.ListLaws.{HoldsAtMost}
use Rattle.msg_tables.specs.Log.{Log, and_then, table}
use Rattle.msg_tables.specs.RoomLaws.{HaveRoomFor, LackRoomFor, adds_no_row, room_in}
use Rattle.msg_tables.specs.Rows.{ClassTable, Row, holder_at, lookup_at, own}
use Rattle.msg_tables.specs.Undo.{count_at, covering, old_at, undo, undo_all}
use Rattle.msg_tables.specs.declared.change.Change.{Change}
use Rattle.msg_tables.specs.declared.change.Change.TheVariants.{Add, Replace, SetImp, Exchange, Attach, AddClass, Remove, DisposeClass}
use Rattle.msg_tables.proofs.ImpsLemmas.{count-set, count-without}
use Rattle.msg_tables.proofs.LogLemmas.{table-and_then}

count-method : (test : ClassRef → Bool) (holder : Option ClassRef) (s i : ℕ) (rows : List Row) → count_at test (set_method holder s i rows) ≡ count_at test rows
count-method test None s i rows = refl
count-method test (Some p) s i rows = count-set p s i test rows

no-more : (t : ClassTable) (x : Change) (test : ClassRef → Bool) → adds_no_row x ≡ true → count_at test (table_after t x).rows ≤ count_at test t.rows
unfolding table_after
no-more t (Add c s i) test e = cc
no-more t (Replace c s i) test e = cc
no-more t (SetImp c s i) test e = omega (arith, count-method test (holder_at t c (selector_number s)) (selector_number s) (imp_number i) t.rows)
no-more t (Exchange c s d u) test e =
    let first = lookup_at t c (selector_number s) in
    let second = lookup_at t d (selector_number u) in
    let one = count-method test (holder_at t d (selector_number u)) (selector_number u) first t.rows in
    let both = count-method test (holder_at t c (selector_number s)) (selector_number s) second (set_method (holder_at t d (selector_number u)) (selector_number u) first t.rows) in
    omega (arith, one, both)
no-more t (Attach k ms cs) test e = cc
no-more t (AddClass k d) test e = omega arith
no-more t (Remove c s) test e = let count = count-without c (selector_number s) test t.rows in omega (arith, count)
no-more t (DisposeClass k) test e = cc

few-old : (holder : Option ClassRef) (s : Selector) (i : ℕ) → length (old_at holder s i) ≤ 1
few-old None s i = omega arith
few-old (Some p) s i = omega arith

few-entries : (t : ClassTable) (x : Change) → adds_no_row x ≡ true → length (undo t x) ≤ 2
few-entries t (Add c s i) e = cc
few-entries t (Replace c s i) e = cc
few-entries t (SetImp c s i) e = omega (arith, few-old (holder_at t c (selector_number s)) s (lookup_at t c (selector_number s)))
few-entries t (Exchange c s d u) e =
    let second = old_at (holder_at t d (selector_number u)) u (lookup_at t d (selector_number u)) in
    let first = old_at (holder_at t c (selector_number s)) s (lookup_at t c (selector_number s)) in
    let a = few-old (holder_at t d (selector_number u)) u (lookup_at t d (selector_number u)) in
    let b = few-old (holder_at t c (selector_number s)) s (lookup_at t c (selector_number s)) in
    omega (arith, length-append second first, a, b)
few-entries t (Attach k ms cs) e = cc
few-entries t (AddClass k d) e = omega arith
few-entries t (Remove c s) e = step (own t.rows c (selector_number s))
  where
    step : (o : Option ℕ) → length (option_map_or (λ old. covering c (selector_number s) old ∷ []) o []) ≤ 2
    step None = omega arith
    step (Some i) = omega arith
few-entries t (DisposeClass k) e = cc

pub no-row-wants-none : (h : Log) (rooms : List ℕ) (room : ℕ) (x : Change) → adds_no_row x ≡ true → HaveRoomFor rooms h [] → 2 ≤ room → LackRoomFor rooms room h (x ∷ []) → ⊥
no-row-wants-none h rooms room x none held two lacks =
    ⊎_elim
    (λ (entries : room < length (undo_all (table h) (x ∷ []))). absurd (let few = few-entries (table h) x none in omega (arith, few, two, entries)))
    (λ (rows : (c : ClassRef) × (HoldsAtMost (room_in rooms c) c h (x ∷ []) → ⊥)).
    let (c, too) = rows in
    let more = no-more (table h) x (λ d. same_class d c) none in
    let is = ap (λ (t : ClassTable). count_at (λ d. same_class d c) t.rows) (table-and_then h x) in
    let now = held c in
    too (now, omega (arith, more, is, now)))
    lacks
