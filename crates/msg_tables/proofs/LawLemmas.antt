-- What lookups find after a change.
use Rattle.std.proofs.Common.{◌≡◌, ◌<◌, ℕ, List, [], ◌∷◌, ◌++◌, length, Option, Some, None, Bool, true, false, cond, get_or, length-append, refl, sym, ap, ap₂, ◌∙◌, subst, arith}
use Rattle.std.specs.Prelude.{◌==◌, ◌&&◌, is_some, not, reverse, All}
use Rattle.std.specs.List.{list_any}
use Rattle.std.proofs.Math.Seq.{get_or-append_seam}
use Rattle.std.proofs.lemmas.List.Elements.{All-head, All-tail}
use Rattle.std.proofs.lemmas.Option.{same_Some}
use Rattle.msg_names.proofs.TestLemmas.{neither, equal, same_number}
use Rattle.msg_names.specs.declared.value.ClassRef.{ClassRef}
use Rattle.msg_names.specs.declared.value.ImpRef.{ImpRef}
use Rattle.msg_names.specs.declared.value.Selector.{Selector}
use Rattle.msg_names.specs.Number.{selector_number, imp_number}
use Rattle.msg_tables.specs.declared.change.Change.{Change}
use Rattle.msg_names.specs.ClassRef.{same_class}
use Rattle.msg_tables.specs.Origin.{OriginView, IsSound, IsSoundList}
use Rattle.msg_tables.specs.Methods.{MethodsOf}
use Rattle.msg_tables.specs.declared.change.Change.TheVariants.{Add, Replace, SetImp, Exchange, Attach, AddClass, Remove, DisposeClass}
use Rattle.msg_tables.specs.Chain.{chain_of, chain_up, is_present, is_member}
use Rattle.msg_tables.specs.Rows.{Row, own, chain, lookup_in, holder_at, lookup_at}
use Rattle.msg_rows.specs.RowList.{or_else, own_in}
use Rattle.msg_tables.specs.After.{of_class, of_meta, row, rows_at, set_own, set_method, without_own, without_class, rows_after, supers_after, table_after, list_rows, opening_table}
use Rattle.msg_tables.specs.Affected.{at_most_one, if_any, written_refs, is_affected, is_of_made}
use Rattle.msg_tables.specs.Log.{Log, empty, and_then, table, lookup, holder, chain_at}
use Rattle.msg_tables.specs.Opening.{Lacks}
use Rattle.msg_tables.specs.Refusal.{no_class}
use Rattle.msg_tables.specs.Undo.{imps_of}
use Rattle.msg_tables.proofs.ImpsLemmas.{last_of, drop_end, own-imps, imps-without, imps-without_class}
use Rattle.msg_tables.proofs.LogLemmas.{table-and_then}
use Rattle.msg_tables.proofs.HoldsLemmas.{meta-apart}
use Rattle.msg_tables.proofs.ListedOrderLemmas.{opened-is_present}
use Rattle.msg_tables.proofs.OwnLemmas.{own-append, own-rows_at, own-rows_other, own-set_other, own-set_same, set_own-own, some-set_own, lookup-same, lookup-own, lookup-nowhere, lookup-holder, holder-same}
use Rattle.msg_tables.proofs.OpeningLemmas.{list_rows-append}
use Rattle.msg_names.proofs.ClassRefLemmas.{same_class-is}

-- a lookup after a change goes up the chain that the change leaves
pub lookup-after : (h : Log) (x : Change) (c : ClassRef) (s : ℕ) → lookup (and_then h x) c s ≡ lookup_in (rows_after (table h) x) (chain_of (supers_after (table h).supers x) c) s
unfolding lookup table_after
lookup-after h x c s = ap (λ t. lookup_at t c s) (table-and_then h x)

-- ---- what a change touches

-- none of the places written is the class reference
abbrev Apart : ClassRef → List ClassRef → Type 0
Apart d ps = list_any (λ p. same_class p d) ps ≡ false

apart-append : (d : ClassRef) (ps qs : List ClassRef) → Apart d (ps ++ qs) → Apart d ps × Apart d qs
apart-append d [] qs e = (refl, e)
apart-append d (p ∷ ps) qs e =
    let (first, rest) = neither (same_class p d) (list_any (λ p. same_class p d) (ps ++ qs)) e in
    let (more, last) = apart-append d ps qs rest in
    (rw (first, more) refl, last)

own-method : (holder : Option ClassRef) (d : ClassRef) (s u i : ℕ) (rows : List Row) → Apart d (at_most_one holder) → own (set_method holder s i rows) d u ≡ own rows d u
own-method None d s u i rows apart = refl
own-method (Some p) d s u i rows apart = own-set_other p d s u i rows (and_false (same_class p d) (s == u) (neither (same_class p d) false apart).0)
  where
    and_false : (a b : Bool) → a ≡ false → (a && b) ≡ false
    and_false a b e = rw e refl

own-more : (c d : ClassRef) (ms : List (ℕ × ℕ)) (u : ℕ) (rows : List Row) → same_class c d ≡ false → own (rows ++ rows_at c ms) d u ≡ own rows d u
own-more c d ms u rows apart = own-append rows (rows_at c ms) d u ∙ ap (λ o. or_else o (own rows d u)) (own-rows_other c d ms u apart)

apart-first : (c d : ClassRef) (ps : List ClassRef) → Apart d (c ∷ ps) → same_class c d ≡ false
apart-first c d ps e = (neither (same_class c d) (list_any (λ p. same_class p d) ps) e).0

own-attached : (c d : ClassRef) (ms : List (ℕ × ℕ)) (u : ℕ) (rows : List Row) → Apart d (if_any ms c) → own (rows ++ rows_at c (reverse ms)) d u ≡ own rows d u
own-attached c d [] u rows apart = own-append rows [] d u
own-attached c d (m ∷ ms) u rows apart = own-more c d (reverse (m ∷ ms)) u rows (apart-first c d [] apart)

-- a change leaves the own rows where it doesn't write
own-after : (h : Log) (x : Change) (d : ClassRef) (u : ℕ) → is_of_made x d ≡ false → Apart d (written_refs h x) → own (rows_after (table h) x) d u ≡ own (table h).rows d u
unfolding written_refs holder
own-after h (Add c s i) d u other-class apart = own-more c d ((selector_number s, imp_number i) ∷ []) u (table h).rows (apart-first c d [] apart)
own-after h (Replace c s i) d u other-class apart = step (is_some (own (table h).rows c (selector_number s)))
  where
    step : (b : Bool) → own (cond b (set_own c (selector_number s) (imp_number i) (table h).rows) ((table h).rows ++ row c s i ∷ [])) d u ≡ own (table h).rows d u
    step true = own-method (Some c) d (selector_number s) u (imp_number i) (table h).rows apart
    step false = own-more c d ((selector_number s, imp_number i) ∷ []) u (table h).rows (apart-first c d [] apart)
own-after h (SetImp c s i) d u other-class apart = own-method (holder_at (table h) c (selector_number s)) d (selector_number s) u (imp_number i) (table h).rows apart
own-after h (Exchange c s e v) d u other-class apart =
    let n = selector_number s in
    let m = selector_number v in
    let first = lookup_at (table h) c n in
    let second = lookup_at (table h) e m in
    let p = holder_at (table h) c n in
    let q = holder_at (table h) e m in
    let (away, other) = apart-append d (at_most_one p) (at_most_one q) apart in
    own-method p d n u second (set_method q m first (table h).rows) away ∙ own-method q d m u first (table h).rows other
own-after h (AddClass k e) d u other-class apart = refl
own-after h (Remove c s) d u other-class apart = own-imps (without_own c (selector_number s) (table h).rows) d u ∙ ap last_of (imps-without c (selector_number s) d u (table h).rows ∙ kept (same_class c d) (apart-first c d [] apart)) ∙ sym (own-imps (table h).rows d u)
  where
    kept : (b : Bool) → b ≡ false → cond (b && (selector_number s == u)) (drop_end (imps_of d u (table h).rows)) (imps_of d u (table h).rows) ≡ imps_of d u (table h).rows
    kept b e = rw e refl
own-after h (DisposeClass k) d u other-class apart = own-imps (without_class k (table h).rows) d u ∙ ap last_of (imps-without_class k d u (table h).rows ∙ kept (d.class == k) other-class) ∙ sym (own-imps (table h).rows d u)
  where
    kept : (b : Bool) → b ≡ false → cond b [] (imps_of d u (table h).rows) ≡ imps_of d u (table h).rows
    kept b e = rw e refl
own-after h (Attach k ms cs) d u other-class apart =
    let (away, other) = apart-append d (if_any ms (of_class k)) (if_any cs (of_meta k)) apart in
    own-attached (of_meta k) d cs u ((table h).rows ++ rows_at (of_class k) (reverse ms)) other ∙ own-attached (of_class k) d ms u (table h).rows away

-- a class reference that is not affected has no place of the change above it
unaffected : (cs ps : List ClassRef) (d : ClassRef) → list_any (λ p. is_member p cs) ps ≡ false → is_member d cs ≡ true → Apart d ps
unaffected cs [] d e among = refl
unaffected cs (p ∷ ps) d e among =
    let (first, rest) = neither (is_member p cs) (list_any (λ p. is_member p cs) ps) e in
    rw (other cs first among, unaffected cs ps d rest among) refl
  where
    other : (cs : List ClassRef) → is_member p cs ≡ false → is_member d cs ≡ true → same_class p d ≡ false
    other cs e among = at (same_class p d) refl
      where
        at : (b : Bool) → same_class p d ≡ b → same_class p d ≡ false
        at false is = is
        at true is =
            let same_number = same_class-is p d is in
            let clash : is_member p cs ≡ true = subst (λ z. is_member z cs ≡ true) (sym same_number) among in
            let absurdity : true ≡ false = sym clash ∙ e in
            cc

pub lookup-unaffected : (h : Log) (x : Change) (c : ClassRef) (s : ℕ) → supers_after (table h).supers x ≡ (table h).supers → ((d : ClassRef) → is_of_made x d ≡ false) → is_affected h x c ≡ false → lookup (and_then h x) c s ≡ lookup h c s
unfolding is_affected chain_at lookup
lookup-unaffected h x c s stay no-class e =
    lookup-after h x c s ∙ ap (λ supers. lookup_in (rows_after (table h) x) (chain_of supers c) s) stay ∙ lookup-same (table h).rows (rows_after (table h) x) (chain (table h) c) s (λ d among. own-after h x d s (no-class d) (unaffected (chain (table h) c) (written_refs h x) d (neither (is_of_made x c) _ e).1 among))

-- ---- what is found after each change

found-own : (h : Log) (x : Change) (c : ClassRef) (s i : ℕ) → is_present (supers_after (table h).supers x) c.class ≡ true → own (rows_after (table h) x) c s ≡ Some i → lookup (and_then h x) c s ≡ i
unfolding chain_of
found-own h x c s i here e =
    let supers = supers_after (table h).supers x in
    lookup-after h x c s ∙ ap (λ b. lookup_in (rows_after (table h) x) (cond b (chain_up (length supers) supers c) []) s) here ∙ lookup-own (length supers) supers (rows_after (table h) x) c s i e

-- a class that isn't lacking is present
pub is-there : (h : Log) (c : ClassRef) → no_class h c ≡ false → is_present (table h).supers c.class ≡ true
unfolding no_class
is-there h c e = at (is_present (table h).supers c.class) e
  where
    at : (b : Bool) → not b ≡ false → b ≡ true
    at true e = refl
    at false e = cc

-- before a class is made, its lookups forward
pub absent-forwards : (h : Log) (c : ClassRef) (s : ℕ) → no_class h c ≡ true → lookup h c s ≡ 0
unfolding lookup no_class chain_of
absent-forwards h c s e = at (is_present (table h).supers c.class) e
  where
    at : (b : Bool) → not b ≡ true → lookup_in (table h).rows (cond b (chain_up (length (table h).supers) (table h).supers c) []) s ≡ 0
    at true e = cc
    at false e = refl

own-one : (c : ClassRef) (s i : ℕ) (rows : List Row) → own (rows ++ rows_at c ((s, i) ∷ [])) c s ≡ Some i
own-one c s i rows =
    own-append rows (rows_at c ((s, i) ∷ [])) c s ∙ ap (λ o. or_else o (own rows c s)) (own-rows_at c ((s, i) ∷ []) s ∙ ap (λ b. cond b (Some i) None) (equal s))

pub found-added : (h : Log) (c : ClassRef) (s : Selector) (i : ImpRef) → no_class h c ≡ false → lookup (and_then h (Add c s i)) c (selector_number s) ≡ imp_number i
found-added h c s i here = found-own h (Add c s i) c (selector_number s) (imp_number i) (is-there h c here) (own-one c (selector_number s) (imp_number i) (table h).rows)

pub found-replaced : (h : Log) (c : ClassRef) (s : Selector) (i : ImpRef) → no_class h c ≡ false → lookup (and_then h (Replace c s i)) c (selector_number s) ≡ imp_number i
found-replaced h c s i here = found-own h (Replace c s i) c (selector_number s) (imp_number i) (is-there h c here) (step (is_some (own (table h).rows c (selector_number s))) refl)
  where
    step : (b : Bool) → is_some (own (table h).rows c (selector_number s)) ≡ b
        → own (cond b (set_own c (selector_number s) (imp_number i) (table h).rows) ((table h).rows ++ row c s i ∷ [])) c (selector_number s) ≡ Some (imp_number i)
    step true e = own-set_same c (selector_number s) (imp_number i) (table h).rows e
    step false e = own-one c (selector_number s) (imp_number i) (table h).rows

-- a lookup that finds a method at its former place, with what it has now
found-there : (h : Log) (x : Change) (e p : ClassRef) (s i : ℕ) → supers_after (table h).supers x ≡ (table h).supers → holder h e s ≡ Some p → ((d : ClassRef) → is_some (own (rows_after (table h) x) d s) ≡ is_some (own (table h).rows d s)) → own (rows_after (table h) x) p s ≡ Some i
    → lookup (and_then h x) e s ≡ i
unfolding holder
found-there h x e p s i stay is kept own-is =
    let there = holder-same (table h).rows (rows_after (table h) x) (chain (table h) e) s kept ∙ is in
    lookup-after h x e s ∙ ap (λ supers. lookup_in (rows_after (table h) x) (chain_of supers e) s) stay ∙ same_Some (lookup_in (rows_after (table h) x) (chain (table h) e) s) i (lookup-holder (rows_after (table h) x) (chain (table h) e) s p there ∙ own-is)

-- the method that a lookup finds is there
pub held : (h : Log) (c p : ClassRef) (s : ℕ) → holder h c s ≡ Some p → own (table h).rows p s ≡ Some (lookup h c s)
unfolding holder lookup
held h c p s e = sym (lookup-holder (table h).rows (chain (table h) c) s p e)

pub one-method : (h : Log) (c d p : ClassRef) (s : ℕ) → holder h c s ≡ Some p → holder h d s ≡ Some p → lookup h c s ≡ lookup h d s
one-method h c d p s first second = same_Some (lookup h c s) (lookup h d s) (sym (held h c p s first) ∙ held h d p s second)

pub nowhere : (h : Log) (c : ClassRef) (s : ℕ) → holder h c s ≡ None → lookup h c s ≡ 0
unfolding holder lookup
nowhere h c s e = lookup-nowhere (table h).rows (chain (table h) c) s e

pub some-set_method : (o : Option ClassRef) (s i : ℕ) (rows : List Row) (d : ClassRef) (u : ℕ) → is_some (own (set_method o s i rows) d u) ≡ is_some (own rows d u)
some-set_method None s i rows d u = refl
some-set_method (Some p) s i rows d u = some-set_own p d s u i rows

pub found-set : (h : Log) (c d p : ClassRef) (s : Selector) (i : ImpRef) → holder h c (selector_number s) ≡ Some p → holder h d (selector_number s) ≡ Some p → lookup (and_then h (SetImp c s i)) d (selector_number s) ≡ imp_number i
unfolding holder
found-set h c d p s i first second =
    let n = selector_number s in
    let kept = λ (e : ClassRef). some-set_method (holder_at (table h) c n) n (imp_number i) (table h).rows e n in
    let written = own-set_same p n (imp_number i) (table h).rows (ap is_some (held h c p n first)) in
    found-there h (SetImp c s i) d p n (imp_number i) refl second kept (ap (λ o. own (set_method o n (imp_number i) (table h).rows) p n) first ∙ written)

module _ (h : Log) (c d : ClassRef) (s u : Selector) where
  some-exchanged : (v : ℕ) (e : ClassRef) → is_some (own (rows_after (table h) (Exchange c s d u)) e v) ≡ is_some (own (table h).rows e v)
  some-exchanged v e =
      some-set_method (holder_at (table h) c (selector_number s)) (selector_number s) (lookup_at (table h) d (selector_number u)) (set_method (holder_at (table h) d (selector_number u)) (selector_number u) (lookup_at (table h) c (selector_number s)) (table h).rows) e v
      ∙ some-set_method (holder_at (table h) d (selector_number u)) (selector_number u) (lookup_at (table h) c (selector_number s)) (table h).rows e v

  pub found-first : (e p : ClassRef) → holder h c (selector_number s) ≡ Some p → holder h e (selector_number s) ≡ Some p → lookup (and_then h (Exchange c s d u)) e (selector_number s) ≡ lookup h d (selector_number u)
  unfolding holder lookup
  found-first e p first at =
      let n = selector_number s in
      let inner = set_method (holder_at (table h) d (selector_number u)) (selector_number u) (lookup_at (table h) c n) (table h).rows in
      let there : is_some (own inner p n) ≡ true = some-set_method (holder_at (table h) d (selector_number u)) (selector_number u) (lookup_at (table h) c n) (table h).rows p n ∙ ap is_some (held h c p n first) in
      let written = own-set_same p n (lookup_at (table h) d (selector_number u)) inner there in
      found-there h (Exchange c s d u) e p n (lookup_at (table h) d (selector_number u)) refl at (some-exchanged n) (ap (λ o. own (set_method o n (lookup_at (table h) d (selector_number u)) inner) p n) first ∙ written)

  pub found-second : (e p q : ClassRef) → holder h c (selector_number s) ≡ Some p → holder h d (selector_number u) ≡ Some q → holder h e (selector_number u) ≡ Some q → lookup (and_then h (Exchange c s d u)) e (selector_number u) ≡ lookup h c (selector_number s)
  unfolding holder lookup
  found-second e p q first second at =
      let inner' = ap (λ o. set_method o m one (table h).rows) second in
      let outer = ap₂ (λ o rows. own (set_method o n two rows) q m) first inner' in
      found-there h (Exchange c s d u) e q m one refl at (some-exchanged m) (outer ∙ written (same_class p q) refl (n == m) refl)
    where
      n : ℕ
      n = selector_number s

      m : ℕ
      m = selector_number u

      one : ℕ
      one = lookup_at (table h) c n

      two : ℕ
      two = lookup_at (table h) d m

      inner : List Row
      inner = set_own q m one (table h).rows

      held-second : own (table h).rows q m ≡ Some two
      held-second = held h d q m second

      here : own inner q m ≡ Some one
      here = own-set_same q m one (table h).rows (ap is_some held-second)

      apart : (same_class p q && (n == m)) ≡ false → own (set_own p n two inner) q m ≡ Some one
      apart e = own-set_other p q n m two inner e ∙ here

      written : (a : Bool) → same_class p q ≡ a → (b : Bool) → (n == m) ≡ b → own (set_own p n two inner) q m ≡ Some one
      written false e b f = apart (rw e refl)
      written true e false f = apart (rw (e, f) refl)
      written true e true f =
          let class = same_class-is p q e in
          let sel = same_number n m f in
          let one-is : Some two ≡ Some one = sym held-second ∙ sym (ap₂ (λ z k. own (table h).rows z k) class sel) ∙ held h c p n first in
          ap₂ (λ z k. own (set_own z k two inner) q m) class sel ∙ own-set_same q m two inner (ap is_some here) ∙ one-is

pub exchanged-with-itself : (h : Log) (c d : ClassRef) (s : Selector) → holder h c (selector_number s) ≡ holder h d (selector_number s) → table (and_then h (Exchange c s d s)) ≡ table h
unfolding table_after holder lookup
exchanged-with-itself h c d s e =
    table-and_then h (Exchange c s d s) ∙ ap (λ rows. record { supers = (table h).supers; rows = rows }) (at (holder_at (table h) d n) refl)
  where
    n : ℕ
    n = selector_number s

    at : (o : Option ClassRef) → holder_at (table h) d n ≡ o → set_method (holder_at (table h) c n) n (lookup_at (table h) d n) (set_method (holder_at (table h) d n) n (lookup_at (table h) c n) (table h).rows) ≡ (table h).rows
    at None is = rw (e, is) refl
    at (Some p) is =
        let inner = set_own-own p n (lookup_at (table h) c n) (table h).rows (held h c p n (e ∙ is)) in
        let outer = set_own-own p n (lookup_at (table h) d n) (table h).rows (held h d p n is) in
        rw (e, is) (ap (set_own p n (lookup_at (table h) d n)) inner ∙ outer)

-- ---- attached methods

pub found-attached : (h : Log) (k : ℕ) (ms cs : List (ℕ × ℕ)) (s i : ℕ) → no_class h (of_class k) ≡ false → own_in s (reverse ms) ≡ Some i → lookup (and_then h (Attach k ms cs)) (of_class k) s ≡ i
found-attached h k ms cs s i here e =
    let first = (table h).rows ++ rows_at (of_class k) (reverse ms) in
    found-own h (Attach k ms cs) (of_class k) s i (is-there h (of_class k) here)
    (own-more (of_meta k) (of_class k) (reverse cs) s first (meta-apart k)
    ∙ own-append (table h).rows (rows_at (of_class k) (reverse ms)) (of_class k) s ∙ ap (λ o. or_else o (own (table h).rows (of_class k) s)) (own-rows_at (of_class k) (reverse ms) s ∙ e))

pub found-attached-meta : (h : Log) (k : ℕ) (ms cs : List (ℕ × ℕ)) (s i : ℕ) → no_class h (of_class k) ≡ false → own_in s (reverse cs) ≡ Some i → lookup (and_then h (Attach k ms cs)) (of_meta k) s ≡ i
found-attached-meta h k ms cs s i here e =
    let first = (table h).rows ++ rows_at (of_class k) (reverse ms) in
    found-own h (Attach k ms cs) (of_meta k) s i (is-there h (of_class k) here) (own-append first (rows_at (of_meta k) (reverse cs)) (of_meta k) s ∙ ap (λ o. or_else o (own first (of_meta k) s)) (own-rows_at (of_meta k) (reverse cs) s ∙ e))

-- lists without a method of a selector bring no row of it
own-later : (later : List MethodsOf) (k : ClassRef) (s : ℕ) → All (Lacks k s) later → own (list_rows later) k s ≡ None
own-later [] k s all = refl
own-later (d ∷ ds) k s all =
    own-append (rows_at d.class d.methods) (list_rows ds) k s ∙ ap₂ or_else (own-later ds k s (All-tail (Lacks k s) d ds all)) (All-head (Lacks k s) d ds all)

-- the method in the last list that has one
own-opened : (o : OriginView) (before later : List MethodsOf) (l : MethodsOf) (s i : ℕ) → o.lists ≡ before ++ l ∷ later → All (Lacks l.class s) later → own_in s l.methods ≡ Some i
    → own (table (empty o)).rows l.class s ≡ Some i
unfolding table opening_table
own-opened o before later l s i e all is =
    let last = own-append (rows_at l.class l.methods) (list_rows later) l.class s ∙ ap₂ or_else (own-later later l.class s all) (own-rows_at l.class l.methods s ∙ is) in
    ap (λ ls. own (list_rows ls) l.class s) e ∙ ap (λ rows. own rows l.class s) (list_rows-append before (l ∷ later))
    ∙ own-append (list_rows before) (list_rows (l ∷ later)) l.class s ∙ ap (λ p. or_else p (own (list_rows before) l.class s)) last

found-opened : (o : OriginView) (c : ClassRef) (s i : ℕ) → c.class < length o.superclasses → own (table (empty o)).rows c s ≡ Some i → lookup (empty o) c s ≡ i
unfolding lookup chain_of table opening_table
found-opened o c s i inside e =
    let supers = (table (empty o)).supers in
    ap (λ b. lookup_in (table (empty o)).rows (cond b (chain_up (length supers) supers c) []) s) (opened-is_present o c.class inside) ∙ lookup-own (length supers) supers (table (empty o)).rows c s i e

-- the class of a method list
list-class : (o : OriginView) (before later : List MethodsOf) (l : MethodsOf) → IsSound o → o.lists ≡ before ++ l ∷ later → l.class.class < length o.superclasses
list-class o before later l sound e =
    let all : All (IsSoundList o) (before ++ l ∷ later) = subst (All (IsSoundList o)) e sound.lists in
    let n = length-append before (l ∷ later) in
    let at : IsSoundList o (get_or (before ++ l ∷ later) (length before) l) = all (length before) l (omega (arith, n)) in
    (subst (IsSoundList o) (get_or-append_seam before l later l) at).class

pub found-list : (o : OriginView) (before later : List MethodsOf) (l : MethodsOf) (s i : ℕ) → IsSound o → o.lists ≡ before ++ l ∷ later → All (Lacks l.class s) later → own_in s l.methods ≡ Some i
    → lookup (empty o) l.class s ≡ i
found-list o before later l s i sound e all is = found-opened o l.class s i (list-class o before later l sound e) (own-opened o before later l s i e all is)
