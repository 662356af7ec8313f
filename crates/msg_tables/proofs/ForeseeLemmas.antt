-- What is found after a change, by what it writes.
use Rattle.std.proofs.Common.{◌≡◌, ◌<◌, ◌≤◌, ℕ, zero, suc, ◌+◌, List, [], ◌∷◌, ◌++◌, length, reverse, take, get_or, Option, Some, None, option_map, Bool, true, false, cond, refl, sym, ap, ◌∙◌, subst, arith}
use Rattle.std.specs.Prelude.{◌==◌, ◌&&◌, is_none, is_some}
use Rattle.msg_tables.proofs.EditLemmas.{pairs_at-gone, pairs_at-stays, pairs_at-without_other, pairs_at-without_own}
use Rattle.msg_tables.proofs.LookupLemmas.{own-pairs_at}
use Rattle.msg_tables.specs.Stands.{pairs_at}
use Rattle.msg_rows.proofs.OrElseLemmas.{or_else_none, or_else-assoc}
use Rattle.msg_rows.proofs.RowLemmas.{own_in-append}
use Rattle.msg_names.proofs.TestLemmas.{both, same_number}
use Rattle.msg_names.specs.declared.value.ClassRef.{ClassRef}
use Rattle.std.proofs.lemmas.List.{reverse-append}
use Rattle.msg_names.specs.declared.value.Selector.{Selector}
use Rattle.msg_names.specs.declared.value.ImpRef.{ImpRef}
use Rattle.msg_rows.specs.Methods.{method_numbers}
use Rattle.msg_names.specs.Number.{selector_number, imp_number}
use Rattle.msg_tables.specs.declared.change.Change.{Change}
use Rattle.msg_tables.specs.declared.change.Change.TheVariants.{Add, Replace, SetImp, Exchange, Attach, AddClass, Remove, DisposeClass}
use Rattle.msg_names.specs.ClassRef.{same_class}
use Rattle.msg_tables.specs.Chain.{chain_of, chain_up, super_of, is_present}
use Rattle.msg_tables.specs.declared.presence.Presence.{Presence}
use Rattle.msg_tables.specs.Rows.{Row, own, chain, holder_in, lookup_in, holder_at, lookup_at}
use Rattle.msg_rows.specs.RowList.{or_else, own_in, without_row}
use Rattle.msg_tables.specs.After.{of_class, of_meta, row, rows_at, set_own, set_method, without_class, without_own, rows_after, supers_after}
use Rattle.msg_tables.specs.Log.{Log, and_then, table, lookup, holder}
use Rattle.msg_tables.proofs.LawLemmas.{lookup-after, some-set_method}
use Rattle.msg_tables.proofs.OwnLemmas.{own-append, own-rows_at, own-rows_other, own-set_same, own-set_other, lookup-holder, lookup-own}
use Rattle.msg_names.proofs.ClassRefLemmas.{same_class-is}
use Rattle.msg_tables.specs.Written.{written, at_ref, row_leaves}

-- the first entry of a list counts if the last row does
own_in-first : (s : ℕ) (m : ℕ × ℕ) (ms : List (ℕ × ℕ)) → own_in s (reverse (m ∷ ms)) ≡ or_else (cond (m.0 == s) (Some m.1) None) (own_in s (reverse ms))
own_in-first s m ms = ap (own_in s) (reverse-append (m ∷ []) ms) ∙ own_in-append s (reverse ms) (m ∷ [])

none_first : (a b : Option ℕ) → or_else a b ≡ None → (a ≡ None) × (b ≡ None)
none_first None b e = (refl, e)
none_first (Some i) b e = cc

pub listed_found : (s : ℕ) (pairs : List (Selector × ImpRef)) (i : ℕ) (m : Selector × ImpRef) → i < length pairs → m ≡ get_or pairs i m
    → own_in s (reverse (method_numbers (take i pairs))) ≡ None → (selector_number m.0 == s) ≡ true → Some (imp_number m.1) ≡ own_in s (reverse (method_numbers pairs))
listed_found s [] i m inside read none sel = absurd (omega arith)
listed_found s (p ∷ ps) zero m inside read none sel =
    sym (own_in-first s (selector_number p.0, imp_number p.1) (method_numbers ps) ∙ ap (λ (x : Selector × ImpRef). or_else (cond (selector_number x.0 == s) (Some (imp_number x.1)) None) (own_in s (reverse (method_numbers ps)))) (sym read) ∙ rw sel refl)
listed_found s (p ∷ ps) (suc i) m inside read none sel =
    let split = none_first _ _ (sym (own_in-first s (selector_number p.0, imp_number p.1) (method_numbers (take i ps))) ∙ none) in
    listed_found s ps i m (omega arith) read split.1 sel
    ∙ sym (own_in-first s (selector_number p.0, imp_number p.1) (method_numbers ps) ∙ ap (λ o. or_else o (own_in s (reverse (method_numbers ps)))) split.0)

-- ---- own rows after a change

own_set : (c d : ClassRef) (s u i : ℕ) (rows : List Row) → is_some (own rows c s) ≡ true → own (set_own c s i rows) d u ≡ or_else (at_ref (Some c) d s u i) (own rows d u)
own_set c d s u i rows some = step (same_class c d && (s == u)) refl
  where
    step : (b : Bool) → (same_class c d && (s == u)) ≡ b → own (set_own c s i rows) d u ≡ or_else (cond b (Some i) None) (own rows d u)
    step true e =
        let (class, sel) = both (same_class c d) (s == u) e in
        subst (λ z. own (set_own c s i rows) z u ≡ Some i) (same_class-is c d class) (subst (λ z. own (set_own c s i rows) c z ≡ Some i) (same_number s u sel) (own-set_same c s i rows some))
    step false e = own-set_other c d s u i rows e

own_set_method : (o : Option ClassRef) (d : ClassRef) (s u i : ℕ) (rows : List Row) → ((p : ClassRef) → o ≡ Some p → is_some (own rows p s) ≡ true)
    → own (set_method o s i rows) d u ≡ or_else (at_ref o d s u i) (own rows d u)
own_set_method None d s u i rows some = refl
own_set_method (Some p) d s u i rows some = own_set p d s u i rows (some p refl)

held_some : (rows : List Row) (cs : List ClassRef) (s : ℕ) (p : ClassRef) → holder_in rows cs s ≡ Some p → is_some (own rows p s) ≡ true
held_some rows cs s p e = sym (ap is_some (lookup-holder rows cs s p e))

own_added : (c d : ClassRef) (ms : List (ℕ × ℕ)) (u : ℕ) (rows : List Row) → own (rows ++ rows_at c ms) d u ≡ or_else (cond (same_class c d) (own_in u ms) None) (own rows d u)
own_added c d ms u rows = own-append rows (rows_at c ms) d u ∙ ap (λ o. or_else o (own rows d u)) (step (same_class c d) refl)
  where
    step : (b : Bool) → same_class c d ≡ b → own (rows_at c ms) d u ≡ cond b (own_in u ms) None
    step true e = subst (λ z. own (rows_at c ms) z u ≡ own_in u ms) (same_class-is c d e) (own-rows_at c ms u)
    step false e = own-rows_other c d ms u e

own_in-without_other : (s u : ℕ) (ms : List (ℕ × ℕ)) → (s == u) ≡ false → own_in u (without_row s ms) ≡ own_in u ms
own_in-without_other s u [] ne = refl
own_in-without_other s u (m ∷ ms) ne = step (m.0 == s) refl (is_none (own_in s ms)) (own_in-without_other s u ms ne)
  where
    step : (b : Bool) → (m.0 == s) ≡ b → (n : Bool) → own_in u (without_row s ms) ≡ own_in u ms
        → own_in u (cond (b && n) ms (m ∷ without_row s ms)) ≡ or_else (own_in u ms) (cond (m.0 == u) (Some m.1) None)
    step true e true rest =
        let other : (m.0 == u) ≡ false = ap (λ k. k == u) (same_number m.0 s e) ∙ ne in
        sym (ap (λ b. or_else (own_in u ms) (cond b (Some m.1) None)) other ∙ or_else_none (own_in u ms))
    step true e false rest = ap (λ o. or_else o (cond (m.0 == u) (Some m.1) None)) rest
    step false e n rest = ap (λ o. or_else o (cond (m.0 == u) (Some m.1) None)) rest

own_stays : (c : ClassRef) (s : Selector) (d : ClassRef) (u : ℕ) (rows : List Row) → (same_class c d && (selector_number s == u)) ≡ false → own (without_own c (selector_number s) rows) d u ≡ own rows d u
own_stays c s d u rows e = own-pairs_at d u (without_own c (selector_number s) rows) ∙ step (same_class c d) refl (selector_number s == u) refl e ∙ sym (own-pairs_at d u rows)
  where
    step : (a : Bool) → same_class c d ≡ a → (b : Bool) → (selector_number s == u) ≡ b → (a && b) ≡ false → own_in u (pairs_at d (without_own c (selector_number s) rows)) ≡ own_in u (pairs_at d rows)
    step false f b g e = ap (own_in u) (pairs_at-without_other c d (selector_number s) rows f)
    step true f true g e = cc
    step true f false g e =
        subst (λ z. own_in u (pairs_at z (without_own c (selector_number s) rows)) ≡ own_in u (pairs_at z rows)) (same_class-is c d f)
        (ap (own_in u) (pairs_at-without_own c (selector_number s) rows) ∙ own_in-without_other (selector_number s) u (pairs_at c rows) g)

-- the own row is removed
pub own_removed : (c : ClassRef) (s : Selector) (d : ClassRef) (u : Selector) (rows : List Row) → (same_class c d && (selector_number s == selector_number u)) ≡ true
    → own_in (selector_number u) (without_row (selector_number u) (pairs_at d rows)) ≡ own (without_own c (selector_number s) rows) d (selector_number u)
own_removed c s d u rows e =
    let (class, sel) = both (same_class c d) (selector_number s == selector_number u) e in
    let n = same_number (selector_number s) (selector_number u) sel in
    subst (λ z. own_in (selector_number u) (without_row (selector_number u) (pairs_at z rows)) ≡ own (without_own c (selector_number s) rows) z (selector_number u)) (same_class-is c d class)
    (sym (own-pairs_at c (selector_number u) (without_own c (selector_number s) rows) ∙ ap (λ k. own_in (selector_number u) (pairs_at c (without_own c k rows))) n ∙ ap (own_in (selector_number u)) (pairs_at-without_own c (selector_number u) rows)))

-- all own rows of a class that is disposed of are removed
pub own_disposed : (k : ℕ) (d : ClassRef) (u : ℕ) (rows : List Row) → (d.class == k) ≡ true → None ≡ own (without_class k rows) d u
own_disposed k d u rows e = sym (own-pairs_at d u (without_class k rows) ∙ ap (own_in u) (pairs_at-gone d k rows e))

pub own_written : (h : Log) (x : Change) (d : ClassRef) (u : ℕ) → row_leaves x d u ≡ false → own (rows_after (table h) x) d u ≡ or_else (written h x d u) (own (table h).rows d u)
unfolding holder lookup
own_written h (Add c s i) d u stays = own-append (table h).rows (row c s i ∷ []) d u
own_written h (Replace c s i) d u stays = step (is_some (own (table h).rows c (selector_number s))) refl
  where
    step : (b : Bool) → is_some (own (table h).rows c (selector_number s)) ≡ b
        → own (cond b (set_own c (selector_number s) (imp_number i) (table h).rows) ((table h).rows ++ row c s i ∷ [])) d u ≡ or_else (at_ref (Some c) d (selector_number s) u (imp_number i)) (own (table h).rows d u)
    step true e = own_set c d (selector_number s) u (imp_number i) (table h).rows e
    step false e = own-append (table h).rows (row c s i ∷ []) d u
own_written h (SetImp c s i) d u stays =
    own_set_method (holder_at (table h) c (selector_number s)) d (selector_number s) u (imp_number i) (table h).rows (held_some (table h).rows (chain (table h) c) (selector_number s))
own_written h (Exchange c s e v) d u stays =
    let n = selector_number s in
    let m = selector_number v in
    let rows = (table h).rows in
    let first = lookup_at (table h) c n in
    let second = lookup_at (table h) e m in
    let p = holder_at (table h) c n in
    let q = holder_at (table h) e m in
    own_set_method p d n u second (set_method q m first rows) (λ z is. some-set_method q m first rows z n ∙ held_some rows (chain (table h) c) n z is)
    ∙ ap (or_else (at_ref p d n u second)) (own_set_method q d m u first rows (held_some rows (chain (table h) e) m))
    ∙ sym (or_else-assoc (at_ref p d n u second) (at_ref q d m u first) (own rows d u))
own_written h (Attach k ms cs) d u stays =
    let rows = (table h).rows in
    own_added (of_meta k) d (reverse cs) u (rows ++ rows_at (of_class k) (reverse ms))
    ∙ ap (or_else (cond (same_class (of_meta k) d) (own_in u (reverse cs)) None)) (own_added (of_class k) d (reverse ms) u rows)
    ∙ sym (or_else-assoc (cond (same_class (of_meta k) d) (own_in u (reverse cs)) None) (cond (same_class (of_class k) d) (own_in u (reverse ms)) None) (own rows d u))
own_written h (AddClass k e) d u stays = refl
own_written h (Remove c s) d u stays = own_stays c s d u (table h).rows stays
own_written h (DisposeClass k) d u stays = own-pairs_at d u (without_class k (table h).rows) ∙ ap (own_in u) (pairs_at-stays d k (table h).rows stays) ∙ sym (own-pairs_at d u (table h).rows)

-- what is written is the own row, and elsewhere the own row stays
pub own_seen : (h : Log) (x : Change) (d : ClassRef) (u i : ℕ) (o : Option ImpRef) → row_leaves x d u ≡ false → option_map imp_number o ≡ written h x d u → option_map imp_number o ≡ Some i → own (rows_after (table h) x) d u ≡ Some i
own_seen h x d u i o stays is e = own_written h x d u stays ∙ ap (λ w. or_else w (own (table h).rows d u)) (sym is ∙ e)

-- if nothing is written, the own row stays
pub own_kept : (h : Log) (x : Change) (d : ClassRef) (u : ℕ) (o : Option ImpRef) (a : Option ℕ) → row_leaves x d u ≡ false → option_map imp_number o ≡ written h x d u → o ≡ None
    → a ≡ own (table h).rows d u → a ≡ own (rows_after (table h) x) d u
own_kept h x d u o a stays is none at = at ∙ sym (own_written h x d u stays ∙ ap (λ w. or_else w (own (table h).rows d u)) (sym is ∙ ap (option_map imp_number) none))

-- the classes after a change
abbrev pub supers_then : Log → Change → List (Option Presence)
supers_then h x = supers_after (table h).supers x

-- ---- a lookup on its way

-- at most n of the chain from a class reference
abbrev pub chain_rest : ℕ → List (Option Presence) → ClassRef → List ClassRef
chain_rest zero supers c = []
chain_rest (suc n) supers c = chain_up n supers c

-- the lookup from c has reached a class reference, with at most m steps to go
pub record Comes (h : Log) (x : Change) (c : ClassRef) (s m : ℕ) (here : ClassRef) : Type 0 where
  pub rest : lookup (and_then h x) c s ≡ lookup_in (rows_after (table h) x) (chain_rest m (supers_then h x) here) s

module _ (h : Log) (x : Change) (c : ClassRef) (s : ℕ) where
  -- if the class will be present
  pub comes_first : (m : ℕ) → m ≡ suc (length (supers_then h x)) → is_present (supers_then h x) c.class ≡ true → Comes h x c s m c
  unfolding chain_of
  comes_first m e here = record {
    rest = lookup-after h x c s ∙ ap (λ b. lookup_in (rows_after (table h) x) (cond b (chain_up (length (supers_then h x)) (supers_then h x) c) []) s) here
        ∙ ap (λ k. lookup_in (rows_after (table h) x) (chain_rest k (supers_then h x) c) s) (sym e);
  }

  -- and if it won't
  pub comes_nowhere : is_present (supers_then h x) c.class ≡ false → lookup (and_then h x) c s ≡ 0
  unfolding chain_of
  comes_nowhere none = lookup-after h x c s ∙ ap (λ b. lookup_in (rows_after (table h) x) (cond b (chain_up (length (supers_then h x)) (supers_then h x) c) []) s) none

  pub comes_stop : (m i : ℕ) (here : ClassRef) → Comes h x c s (suc m) here → own (rows_after (table h) x) here s ≡ Some i → lookup (and_then h x) c s ≡ i
  comes_stop m i here on e = on.rest ∙ lookup-own m (supers_then h x) (rows_after (table h) x) here s i e

  pub comes_up : (m : ℕ) (here d : ClassRef) → Comes h x c s (suc m) here → own (rows_after (table h) x) here s ≡ None → super_of (supers_then h x) here ≡ Some d → Comes h x c s m d
  comes_up m here d on none up = record { rest = on.rest ∙ step m }
    where
      step : (n : ℕ) → lookup_in (rows_after (table h) x) (chain_up n (supers_then h x) here) s ≡ lookup_in (rows_after (table h) x) (chain_rest n (supers_then h x) d) s
      step zero = rw none refl
      step (suc n) = rw (none, up) refl

  pub comes_end : (m : ℕ) (here : ClassRef) → Comes h x c s (suc m) here → own (rows_after (table h) x) here s ≡ None → super_of (supers_then h x) here ≡ None → lookup (and_then h x) c s ≡ 0
  comes_end m here on none up = on.rest ∙ step m
    where
      step : (n : ℕ) → lookup_in (rows_after (table h) x) (chain_up n (supers_then h x) here) s ≡ 0
      step zero = rw none refl
      step (suc n) = rw (none, up) refl

  -- it has made k steps of at most n, and is at a class reference
  abbrev pub OnTheWay : ℕ → ℕ → ClassRef → Type 0
  OnTheWay n k here = (m : ℕ) × (m + k ≡ suc n) × Comes h x c s m here

  pub way_stop : (n k i : ℕ) (here : ClassRef) → OnTheWay n k here → k ≤ n → own (rows_after (table h) x) here s ≡ Some i → lookup (and_then h x) c s ≡ i
  way_stop n k i here (zero, e, on) le is = absurd (omega arith)
  way_stop n k i here (suc m, e, on) le is = comes_stop m i here on is

  pub way_end : (n k : ℕ) (here : ClassRef) → OnTheWay n k here → k ≤ n → own (rows_after (table h) x) here s ≡ None → super_of (supers_then h x) here ≡ None → lookup (and_then h x) c s ≡ 0
  way_end n k here (zero, e, on) le none up = absurd (omega arith)
  way_end n k here (suc m, e, on) le none up = comes_end m here on none up

  pub way_up : (n k : ℕ) (here d : ClassRef) → OnTheWay n k here → k ≤ n → own (rows_after (table h) x) here s ≡ None → super_of (supers_then h x) here ≡ Some d → OnTheWay n (k + 1) d
  way_up n k here d (zero, e, on) le none up = absurd (omega arith)
  way_up n k here d (suc m, e, on) le none up = (m, omega arith, comes_up m here d on none up)

  pub way_over : (n k : ℕ) (here : ClassRef) → OnTheWay n k here → n ≤ k → own (rows_after (table h) x) here s ≡ None → lookup (and_then h x) c s ≡ 0
  way_over n k here (zero, e, on) ge none = on.rest
  way_over n k here (suc zero, e, on) ge none = on.rest ∙ rw none refl
  way_over n k here (suc (suc m), e, on) ge none = absurd (omega arith)

-- a row that is lost otherwise than by a removal
pub own_gone : (h : Log) (x : Change) (d : ClassRef) (u : ℕ) → row_leaves x d u ≡ true → ((c : ClassRef) (s : Selector) → x ≡ Remove c s → ⊥) → None ≡ own (rows_after (table h) x) d u
own_gone h (Add c s i) d u leaves other = cc
own_gone h (Replace c s i) d u leaves other = cc
own_gone h (SetImp c s i) d u leaves other = cc
own_gone h (Exchange c s e v) d u leaves other = cc
own_gone h (Attach k ms cs) d u leaves other = cc
own_gone h (AddClass k e) d u leaves other = cc
own_gone h (Remove c s) d u leaves other = absurd (other c s refl)
own_gone h (DisposeClass k) d u leaves other = own_disposed k d u (table h).rows leaves
