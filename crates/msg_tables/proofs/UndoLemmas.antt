-- The changes that take a change back.
use Rattle.std.proofs.Common.{◌≡◌, ℕ, List, [], ◌∷◌, ◌++◌, Option, Some, None, Bool, true, false, cond, refl, sym, ap, ap₂, ◌∙◌}
use Rattle.std.specs.Prelude.{◌==◌, ◌&&◌, is_some}
use Rattle.msg_names.specs.declared.value.ClassRef.{ClassRef}
use Rattle.msg_names.specs.Number.{selector_number, imp_number, imp_ref_of}
use Rattle.msg_names.specs.declared.value.Selector.{Selector}
use Rattle.msg_names.specs.declared.value.ImpRef.{ImpRef}
use Rattle.msg_names.specs.ClassRef.{same_class}
use Rattle.msg_tables.specs.declared.change.Change.{Change}
use Rattle.msg_tables.specs.declared.change.Change.TheVariants.{Replace, SetImp, Exchange}
use Rattle.msg_tables.specs.Rows.{Row, ClassTable, own, holder_at, lookup_at}
use Rattle.msg_tables.specs.After.{set_own, set_method, rows_after, row, table_after}
use Rattle.msg_tables.specs.Chain.{chain_of}
use Rattle.msg_tables.specs.Log.{table_after_all}
use Rattle.msg_names.proofs.TestLemmas.{equal, same_number}
use Rattle.msg_names.proofs.ClassRefLemmas.{same_class-is, same_class-refl}
use Rattle.msg_tables.proofs.OwnLemmas.{own-set_same, own-set_other, set_own-own, some-set_own, lookup-holder}
use Rattle.msg_tables.proofs.LawLemmas.{some-set_method}
use Rattle.msg_tables.specs.Undo.{old_at}
use Rattle.msg_tables.proofs.RowSetLemmas.{set_own-twice, set_own-apart}

-- ---- a method that was replaced

pub replace-back : (t : ClassTable) (c : ClassRef) (s : Selector) (i : ImpRef) (old : ℕ) → own t.rows c (selector_number s) ≡ Some old
    → table_after (table_after t (Replace c s i)) (Replace c s (imp_ref_of old)) ≡ t
unfolding table_after
replace-back t c s i old is = ap (λ rows. record { supers = t.supers; rows = rows }) rows
  where
    n : ℕ
    n = selector_number s

    once : List Row
    once = set_own c n (imp_number i) t.rows

    written : own once c n ≡ Some (imp_number i)
    written = own-set_same c n (imp_number i) t.rows (ap is_some is)

    inner : rows_after t (Replace c s i) ≡ once
    inner = rw is refl

    again : (rows : List Row) → rows ≡ once → cond (is_some (own rows c n)) (set_own c n old rows) (rows ++ row c s (imp_ref_of old) ∷ []) ≡ t.rows
    again rows e = rw (e, written) (set_own-twice c n (imp_number i) old t.rows ∙ set_own-own c n old t.rows is)

    rows : rows_after (table_after t (Replace c s i)) (Replace c s (imp_ref_of old)) ≡ t.rows
    rows = again (rows_after t (Replace c s i)) inner

-- ---- rows that get their implementations again

pub after_all-append : (t : ClassTable) (xs ys : List Change) → table_after_all t (xs ++ ys) ≡ table_after_all (table_after_all t xs) ys
after_all-append t [] ys = refl
after_all-append t (x ∷ xs) ys = after_all-append (table_after t x) xs ys

-- an own row is at the holder, if there is one
abbrev Stands : List Row → Option ClassRef → ℕ → Type 0
Stands rows None n = Unit {0}
Stands rows (Some p) n = is_some (own rows p n) ≡ true

again : (t : ClassTable) (o : Option ClassRef) (s : Selector) (i : ℕ) → Stands t.rows o (selector_number s) → table_after_all t (old_at o s i) ≡ record { supers = t.supers; rows = set_method o (selector_number s) i t.rows }
unfolding table_after
again t None s i there = refl
again t (Some p) s i there = step (is_some (own t.rows p (selector_number s))) there
  where
    with_rows : List Row → ClassTable
    with_rows rows = record { supers = t.supers; rows = rows }

    step : (b : Bool) → b ≡ true → with_rows (cond b (set_own p (selector_number s) i t.rows) (t.rows ++ row p s (imp_ref_of i) ∷ [])) ≡ with_rows (set_own p (selector_number s) i t.rows)
    step true there = refl
    step false there = cc

-- the method's own row is there
found : (t : ClassTable) (c : ClassRef) (n : ℕ) (rows : List Row) → ((e : ClassRef) (v : ℕ) → is_some (own rows e v) ≡ is_some (own t.rows e v)) → Stands rows (holder_at t c n) n
found t c n rows same = at (holder_at t c n) refl
  where
    at : (o : Option ClassRef) → holder_at t c n ≡ o → Stands rows o n
    at None is = tt
    at (Some p) is = same p n ∙ sym (ap is_some (lookup-holder t.rows (chain_of t.supers c) n p is))

-- ---- a method that was set

pub set-back : (t : ClassTable) (c : ClassRef) (s : Selector) (i : ImpRef) → table_after_all (table_after t (SetImp c s i)) (old_at (holder_at t c (selector_number s)) s (lookup_at t c (selector_number s))) ≡ t
unfolding table_after
set-back t c s i =
    again (record { supers = t.supers; rows = once }) (holder_at t c n) s (lookup_at t c n) (found t c n once (λ e v. some-set_method (holder_at t c n) n (imp_number i) t.rows e v))
    ∙ ap (λ rows. record { supers = t.supers; rows = rows }) (at (holder_at t c n) refl)
  where
    n : ℕ
    n = selector_number s

    once : List Row
    once = set_method (holder_at t c n) n (imp_number i) t.rows

    at : (o : Option ClassRef) → holder_at t c n ≡ o → set_method o n (lookup_at t c n) (set_method o n (imp_number i) t.rows) ≡ t.rows
    at None is = refl
    at (Some p) is = set_own-twice p n (imp_number i) (lookup_at t c n) t.rows ∙ set_own-own p n (lookup_at t c n) t.rows (sym (lookup-holder t.rows (chain_of t.supers c) n p is))

-- ---- two methods that were exchanged

both-same : (c : ClassRef) (k : ℕ) → (same_class c c && (k == k)) ≡ true
both-same c k = rw (same_class-refl c, equal k) refl

module _ (t : ClassTable) (c d p q : ClassRef) (s u : Selector) (first : holder_at t c (selector_number s) ≡ Some p) (second : holder_at t d (selector_number u) ≡ Some q) where
  abbrev n : ℕ
  n = selector_number s

  abbrev m : ℕ
  m = selector_number u

  abbrev one : ℕ
  one = lookup_at t c n

  abbrev two : ℕ
  two = lookup_at t d m

  abbrev inner : List Row
  inner = set_own q m one t.rows

  abbrev once : List Row
  once = set_own p n two inner

  held-first : own t.rows p n ≡ Some one
  unfolding chain_of
  held-first = sym (lookup-holder t.rows (chain_of t.supers c) n p first)

  held-second : own t.rows q m ≡ Some two
  unfolding chain_of
  held-second = sym (lookup-holder t.rows (chain_of t.supers d) m q second)

  some-once : (e : ClassRef) (v : ℕ) → is_some (own once e v) ≡ is_some (own t.rows e v)
  some-once e v = some-set_own p e n v two inner ∙ some-set_own q e m v one t.rows

  own-first : own once p n ≡ Some two
  own-first = own-set_same p n two inner (some-set_own q p m n one t.rows ∙ ap is_some held-first)

  own-inner : own inner q m ≡ Some one
  own-inner = own-set_same q m one t.rows (ap is_some held-second)

  -- the same method, or another
  own-second : own once q m ≡ Some one
  own-second = written (same_class p q) refl (n == m) refl
    where
      apart : (same_class p q && (n == m)) ≡ false → own once q m ≡ Some one
      apart e = own-set_other p q n m two inner e ∙ own-inner

      written : (a : Bool) → same_class p q ≡ a → (b : Bool) → (n == m) ≡ b → own once q m ≡ Some one
      written false e b f = apart (rw e refl)
      written true e false f = apart (rw (e, f) refl)
      written true e true f =
          let class = same_class-is p q e in
          let sel = same_number n m f in
          let one-is : Some two ≡ Some one = sym held-second ∙ sym (ap₂ (λ z k. own t.rows z k) class sel) ∙ held-first in
          sym (ap₂ (λ z k. own once z k) class sel) ∙ own-first ∙ one-is

  back : set_own p n one (set_own q m two once) ≡ t.rows
  back = cases (same_class p q) refl (n == m) refl
    where
      ends : set_own p n one t.rows ≡ t.rows
      ends = set_own-own p n one t.rows held-first

      apart : (same_class p q && (n == m)) ≡ false → (same_class q p && (m == n)) ≡ false → set_own p n one (set_own q m two once) ≡ t.rows
      apart e f =
          ap (set_own p n one) (set_own-apart p q n m two two inner e f)
          ∙ set_own-twice p n two one (set_own q m two inner)
          ∙ ap (set_own p n one) (set_own-twice q m one two t.rows ∙ set_own-own q m two t.rows held-second)
          ∙ ends

      turned : (a b : Bool) → same_class q p ≡ a → (m == n) ≡ b → (same_class p q && (n == m)) ≡ false → (a && b) ≡ false
      turned true true e f g =
          let class = same_class-is q p e in
          let sel = same_number m n f in
          sym (ap₂ (λ z k. same_class p z && (n == k)) class sel ∙ both-same p n) ∙ g
      turned true false e f g = refl
      turned false b e f g = refl

      either : (same_class p q && (n == m)) ≡ false → set_own p n one (set_own q m two once) ≡ t.rows
      either e = apart e (turned (same_class q p) (m == n) refl refl e)

      cases : (a : Bool) → same_class p q ≡ a → (b : Bool) → (n == m) ≡ b → set_own p n one (set_own q m two once) ≡ t.rows
      cases false e b f = either (rw e refl)
      cases true e false f = either (rw (e, f) refl)
      cases true e true f =
          let class = same_class-is p q e in
          let sel = same_number n m f in
          sym (ap₂ (λ z k. set_own p n one (set_own z k two (set_own p n two (set_own z k one t.rows)))) class sel)
          ∙ set_own-twice p n two one (set_own p n two (set_own p n one t.rows))
          ∙ set_own-twice p n two one (set_own p n one t.rows)
          ∙ set_own-twice p n one one t.rows
          ∙ ends

module _ (t : ClassTable) (c d : ClassRef) (s u : Selector) where
  abbrev n' : ℕ
  n' = selector_number s

  abbrev m' : ℕ
  m' = selector_number u

  abbrev one' : ℕ
  one' = lookup_at t c n'

  abbrev two' : ℕ
  two' = lookup_at t d m'

  both-back : (o v : Option ClassRef) → holder_at t c n' ≡ o → holder_at t d m' ≡ v → set_method o n' one' (set_method v m' two' (set_method o n' two' (set_method v m' one' t.rows))) ≡ t.rows
  both-back None None first second = refl
  both-back None (Some q) first second = set_own-twice q m' one' two' t.rows ∙ set_own-own q m' two' t.rows (sym (lookup-holder t.rows (chain_of t.supers d) m' q second))
  both-back (Some p) None first second = set_own-twice p n' two' one' t.rows ∙ set_own-own p n' one' t.rows (sym (lookup-holder t.rows (chain_of t.supers c) n' p first))
  both-back (Some p) (Some q) first second = back t c d p q s u first second

  abbrev hc : Option ClassRef
  hc = holder_at t c n'

  abbrev hd : Option ClassRef
  hd = holder_at t d m'

  abbrev exchanged : List Row
  exchanged = set_method hc n' two' (set_method hd m' one' t.rows)

  some-exchanged : (e : ClassRef) (v : ℕ) → is_some (own exchanged e v) ≡ is_some (own t.rows e v)
  some-exchanged e v = some-set_method hc n' two' (set_method hd m' one' t.rows) e v ∙ some-set_method hd m' one' t.rows e v

  some-half : (e : ClassRef) (v : ℕ) → is_some (own (set_method hd m' two' exchanged) e v) ≡ is_some (own t.rows e v)
  some-half e v = some-set_method hd m' two' exchanged e v ∙ some-exchanged e v

  pub exchange-back : table_after_all (table_after t (Exchange c s d u)) (old_at hd u two' ++ old_at hc s one') ≡ t
  unfolding table_after
  exchange-back =
      after_all-append (record { supers = t.supers; rows = exchanged }) (old_at hd u two') (old_at hc s one')
      ∙ ap (λ z. table_after_all z (old_at hc s one')) (again (record { supers = t.supers; rows = exchanged }) hd u two' (found t d m' exchanged some-exchanged))
      ∙ again (record { supers = t.supers; rows = set_method hd m' two' exchanged }) hc s one' (found t c n' (set_method hd m' two' exchanged) some-half)
      ∙ ap (λ rows. record { supers = t.supers; rows = rows }) (both-back hc hd refl refl)
