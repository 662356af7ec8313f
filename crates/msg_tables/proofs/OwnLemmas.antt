-- Own rows, and the lookups that end at them.
use Rattle.std.proofs.Common.{◌≡◌, ℕ, zero, suc, List, [], ◌∷◌, ◌++◌, Option, Some, None, Bool, true, false, cond, refl, sym, ap, ap₂, ◌∙◌, subst}
use Rattle.std.specs.Prelude.{◌==◌, ◌&&◌, ◌||◌, is_some, is_none, unwrap_or}
use Rattle.std.proofs.lemmas.Option.{same_Some}
use Rattle.msg_rows.proofs.OrElseLemmas.{or_else_none, or_else-assoc}
use Rattle.msg_names.proofs.TestLemmas.{equal, same_number}
use Rattle.msg_names.specs.declared.value.ClassRef.{ClassRef}
use Rattle.msg_names.specs.ClassRef.{same_class}
use Rattle.msg_tables.specs.Chain.{chain_up, is_member}
use Rattle.msg_tables.specs.declared.presence.Presence.{Presence}
use Rattle.msg_tables.specs.Rows.{Row, is_at, own, holder_in, lookup_in}
use Rattle.msg_rows.specs.RowList.{or_else, own_in, set_last}
use Rattle.msg_tables.specs.After.{rows_at, set_own}
use Rattle.msg_tables.specs.Stands.{pairs_at}
use Rattle.msg_tables.proofs.HoldsLemmas.{pairs_at-rows_at, pairs_at-set_own, pairs_at-set_other}
use Rattle.msg_tables.proofs.ListedLemmas.{own_in-set_last}
use Rattle.msg_tables.proofs.LookupLemmas.{own-pairs_at}
use Rattle.msg_names.proofs.ClassRefLemmas.{same_class-is, same_class-refl}

-- ---- rows that are added

pub own-append : (xs ys : List Row) (c : ClassRef) (s : ℕ) → own (xs ++ ys) c s ≡ or_else (own ys c s) (own xs c s)
own-append [] ys c s = sym (or_else_none (own ys c s))
own-append (x ∷ xs) ys c s =
    ap (λ o. or_else o (cond (is_at c s x) (Some x.imp) None)) (own-append xs ys c s) ∙ or_else-assoc (own ys c s) (own xs c s) (cond (is_at c s x) (Some x.imp) None)

-- methods added to a class reference are its own
pub own-rows_at : (c : ClassRef) (ms : List (ℕ × ℕ)) (s : ℕ) → own (rows_at c ms) c s ≡ own_in s ms
own-rows_at c ms s = own-pairs_at c s (rows_at c ms) ∙ ap (own_in s) (pairs_at-rows_at c c true ms (same_class-refl c))

-- and no other's
pub own-rows_other : (c d : ClassRef) (ms : List (ℕ × ℕ)) (s : ℕ) → same_class c d ≡ false → own (rows_at c ms) d s ≡ None
own-rows_other c d ms s apart = own-pairs_at d s (rows_at c ms) ∙ ap (own_in s) (pairs_at-rows_at c d false ms apart)

-- ---- own rows that are rewritten

some-or_else : (a b c d : Option ℕ) → is_some a ≡ is_some b → is_some c ≡ is_some d → is_some (or_else a c) ≡ is_some (or_else b d)
some-or_else (Some i) (Some j) c d e f = refl
some-or_else None None c d e f = f
some-or_else (Some i) None c d e f = cc
some-or_else None (Some j) c d e f = cc

some-cond : (b : Bool) (i j : ℕ) → is_some (cond b (Some i) None) ≡ is_some (cond b (Some j) None)
some-cond true i j = refl
some-cond false i j = refl

-- the same class references have own rows
pub some-set_own : (c d : ClassRef) (s u i : ℕ) (rows : List Row) → is_some (own (set_own c s i rows) d u) ≡ is_some (own rows d u)
some-set_own c d s u i [] = refl
some-set_own c d s u i (r ∷ rs) = step (is_at c s r) refl (is_none (own rs c s)) (some-set_own c d s u i rs)
  where
    new : Row
    new = record { class = c; sel = s; imp = i }

    kept : is_some (own (set_own c s i rs) d u) ≡ is_some (own rs d u) → is_some (own (r ∷ set_own c s i rs) d u) ≡ is_some (own (r ∷ rs) d u)
    kept rest = some-or_else (own (set_own c s i rs) d u) (own rs d u) (cond (is_at d u r) (Some r.imp) None) (cond (is_at d u r) (Some r.imp) None) rest refl

    here : (a b : Bool) → same_class r.class c ≡ a → (r.sel == s) ≡ b → (a && b) ≡ true → is_some (own (set_own c s i rs) d u) ≡ is_some (own rs d u) → is_some (own (new ∷ set_own c s i rs) d u) ≡ is_some (own (r ∷ rs) d u)
    here true true e f g rest =
        let class = same_class-is r.class c e in
        let sel = same_number r.sel s f in
        let at : is_at d u new ≡ is_at d u r = sym (ap₂ (λ k n. same_class k d && (n == u)) class sel) in
        some-or_else (own (set_own c s i rs) d u) (own rs d u) (cond (is_at d u new) (Some i) None) (cond (is_at d u r) (Some r.imp) None) rest
        (ap (λ b. is_some (cond b (Some i) None)) at ∙ some-cond (is_at d u r) i r.imp)
    here true false e f g rest = cc
    here false b e f g rest = cc

    step : (b : Bool) → is_at c s r ≡ b → (n : Bool) → is_some (own (set_own c s i rs) d u) ≡ is_some (own rs d u) → is_some (own (cond (b && n) new r ∷ set_own c s i rs) d u) ≡ is_some (own (r ∷ rs) d u)
    step true e true rest = here (same_class r.class c) (r.sel == s) refl refl e rest
    step true e false rest = kept rest
    step false e n rest = kept rest

own_in-set_same : (s i : ℕ) (ms : List (ℕ × ℕ)) → is_some (own_in s ms) ≡ true → own_in s (set_last s i ms) ≡ Some i
own_in-set_same s i [] some = cc
own_in-set_same s i (m ∷ ms) some = step (own_in s ms) refl (m.0 == s) refl (own_in-set_same s i ms) (own_in-set_last s s i ms) some
  where
    none : (o : Option ℕ) → is_some o ≡ false → o ≡ None
    none None e = refl
    none (Some j) e = cc

    step : (o : Option ℕ) → own_in s ms ≡ o → (b : Bool) → (m.0 == s) ≡ b → (is_some (own_in s ms) ≡ true → own_in s (set_last s i ms) ≡ Some i) → is_some (own_in s (set_last s i ms)) ≡ is_some (own_in s ms)
        → is_some (or_else o (cond b (Some m.1) None)) ≡ true → or_else (own_in s (set_last s i ms)) (cond ((cond (b && is_none o) (s, i) m).0 == s) (Some (cond (b && is_none o) (s, i) m).1) None) ≡ Some i
    step (Some j) e b f rest kept some = rw (rest (ap is_some e)) refl
    step None e true f rest kept some = rw (none (own_in s (set_last s i ms)) (kept ∙ ap is_some e), equal s) refl
    step None e false f rest kept some = cc

own_in-set_other : (s u i : ℕ) (ms : List (ℕ × ℕ)) → (s == u) ≡ false → own_in u (set_last s i ms) ≡ own_in u ms
own_in-set_other s u i [] apart = refl
own_in-set_other s u i (m ∷ ms) apart = step (m.0 == s) refl (is_none (own_in s ms)) (own_in-set_other s u i ms apart)
  where
    step : (b : Bool) → (m.0 == s) ≡ b → (n : Bool) → own_in u (set_last s i ms) ≡ own_in u ms → own_in u (cond (b && n) (s, i) m ∷ set_last s i ms) ≡ own_in u (m ∷ ms)
    step true e true rest =
        let other : (m.0 == u) ≡ false = ap (λ n. n == u) (same_number m.0 s e) ∙ apart in
        rw (apart, other) (ap (λ o. or_else o None) rest)
    step true e false rest = ap (λ o. or_else o (cond (m.0 == u) (Some m.1) None)) rest
    step false e n rest = ap (λ o. or_else o (cond (m.0 == u) (Some m.1) None)) rest

-- the method that was rewritten
pub own-set_same : (c : ClassRef) (s i : ℕ) (rows : List Row) → is_some (own rows c s) ≡ true → own (set_own c s i rows) c s ≡ Some i
own-set_same c s i rows some =
    own-pairs_at c s (set_own c s i rows) ∙ ap (own_in s) (pairs_at-set_own c s i rows) ∙ own_in-set_same s i (pairs_at c rows) (sym (ap is_some (own-pairs_at c s rows)) ∙ some)

-- and the others
pub own-set_other : (c d : ClassRef) (s u i : ℕ) (rows : List Row) → (same_class c d && (s == u)) ≡ false → own (set_own c s i rows) d u ≡ own rows d u
own-set_other c d s u i rows apart = step (same_class c d) refl (s == u) refl apart
  where
    step : (a : Bool) → same_class c d ≡ a → (b : Bool) → (s == u) ≡ b → (a && b) ≡ false → own (set_own c s i rows) d u ≡ own rows d u
    step true e true f apart = cc
    step true e false f apart =
        subst (λ z. own (set_own c s i rows) z u ≡ own rows z u) (same_class-is c d e)
        (own-pairs_at c u (set_own c s i rows) ∙ ap (own_in u) (pairs_at-set_own c s i rows) ∙ own_in-set_other s u i (pairs_at c rows) f ∙ sym (own-pairs_at c u rows))
    step false e b f apart = own-pairs_at d u (set_own c s i rows) ∙ ap (own_in u) (pairs_at-set_other c d s i rows e) ∙ sym (own-pairs_at d u rows)

set_own-none : (c : ClassRef) (s i : ℕ) (rows : List Row) → own rows c s ≡ None → set_own c s i rows ≡ rows
set_own-none c s i [] none = refl
set_own-none c s i (r ∷ rs) none = step (own rs c s) refl (is_at c s r) (set_own-none c s i rs) none
  where
    step : (o : Option ℕ) → own rs c s ≡ o → (b : Bool) → (own rs c s ≡ None → set_own c s i rs ≡ rs) → or_else o (cond b (Some r.imp) None) ≡ None → cond (b && is_none o) (record { class = c; sel = s; imp = i }) r ∷ set_own c s i rs ≡ r ∷ rs
    step (Some j) e b rest none = cc
    step None e true rest none = cc
    step None e false rest none = ap (λ rows. r ∷ rows) (rest e)

-- a method rewritten to what it was
pub set_own-own : (c : ClassRef) (s i : ℕ) (rows : List Row) → own rows c s ≡ Some i → set_own c s i rows ≡ rows
set_own-own c s i [] is = refl
set_own-own c s i (r ∷ rs) is = step (own rs c s) refl (is_at c s r) refl (set_own-own c s i rs) is
  where
    here : (a b : Bool) → same_class r.class c ≡ a → (r.sel == s) ≡ b → (a && b) ≡ true → r.imp ≡ i → record { class = c; sel = s; imp = i } ≡ r
    here true true e f g imp =
        let class = sym (same_class-is r.class c e) in
        let sel = sym (same_number r.sel s f) in
        let value = sym imp in
        λ k. record { class = class k; sel = sel k; imp = value k }
    here true false e f g imp = cc
    here false b e f g imp = cc

    step : (o : Option ℕ) → own rs c s ≡ o → (b : Bool) → is_at c s r ≡ b → (own rs c s ≡ Some i → set_own c s i rs ≡ rs) → or_else o (cond b (Some r.imp) None) ≡ Some i
        → cond (b && is_none o) (record { class = c; sel = s; imp = i }) r ∷ set_own c s i rs ≡ r ∷ rs
    step (Some j) e true f rest is = ap (λ rows. r ∷ rows) (rest (e ∙ is))
    step (Some j) e false f rest is = ap (λ rows. r ∷ rows) (rest (e ∙ is))
    step None e true f rest is = ap₂ (λ x rows. x ∷ rows) (here (same_class r.class c) (r.sel == s) refl refl f (same_Some r.imp i is)) (set_own-none c s i rs e)
    step None e false f rest is = cc

-- ---- lookups

-- the class itself comes first
pub lookup-own : (n : ℕ) (supers : List (Option Presence)) (rows : List Row) (c : ClassRef) (s i : ℕ) → own rows c s ≡ Some i → lookup_in rows (chain_up n supers c) s ≡ i
lookup-own zero supers rows c s i e = rw e refl
lookup-own (suc n) supers rows c s i e = rw e refl

-- a lookup's result is in the row of its holder
pub lookup-holder : (rows : List Row) (cs : List ClassRef) (s : ℕ) (p : ClassRef) → holder_in rows cs s ≡ Some p → Some (lookup_in rows cs s) ≡ own rows p s
lookup-holder rows [] s p e = cc
lookup-holder rows (c ∷ cs) s p e = step (own rows c s) refl (lookup-holder rows cs s p) e
  where
    step : (o : Option ℕ) → own rows c s ≡ o → (holder_in rows cs s ≡ Some p → Some (lookup_in rows cs s) ≡ own rows p s) → cond (is_some o) (Some c) (holder_in rows cs s) ≡ Some p → Some (unwrap_or o (lookup_in rows cs s)) ≡ own rows p s
    step (Some i) is rest e = sym is ∙ ap (λ d. own rows d s) (same_Some c p e)
    step None is rest e = rest e

pub lookup-nowhere : (rows : List Row) (cs : List ClassRef) (s : ℕ) → holder_in rows cs s ≡ None → lookup_in rows cs s ≡ 0
lookup-nowhere rows [] s e = refl
lookup-nowhere rows (c ∷ cs) s e = step (own rows c s) (lookup-nowhere rows cs s) e
  where
    step : (o : Option ℕ) → (holder_in rows cs s ≡ None → lookup_in rows cs s ≡ 0) → cond (is_some o) (Some c) (holder_in rows cs s) ≡ None → unwrap_or o (lookup_in rows cs s) ≡ 0
    step (Some i) rest e = cc
    step None rest e = rest e

-- if own rows are at the same class references, so are the holders
pub holder-same : (rows after : List Row) (cs : List ClassRef) (u : ℕ) → ((d : ClassRef) → is_some (own after d u) ≡ is_some (own rows d u)) → holder_in after cs u ≡ holder_in rows cs u
holder-same rows after [] u e = refl
holder-same rows after (c ∷ cs) u e = ap₂ (λ b o. cond b (Some c) o) (e c) (holder-same rows after cs u e)

-- a lookup that meets the same own rows
pub lookup-same : (rows after : List Row) (cs : List ClassRef) (s : ℕ) → ((d : ClassRef) → is_member d cs ≡ true → own after d s ≡ own rows d s) → lookup_in after cs s ≡ lookup_in rows cs s
lookup-same rows after [] s e = refl
lookup-same rows after (c ∷ cs) s e =
    ap₂ (λ o i. unwrap_or o i) (e c (here (is_member c cs))) (lookup-same rows after cs s (λ d among. e d (there (same_class d c) (is_member d cs) among)))
  where
    here : (b : Bool) → (same_class c c || b) ≡ true
    here b = rw (same_class-refl c) refl

    there : (a b : Bool) → b ≡ true → (a || b) ≡ true
    there true b h = refl
    there false b h = h
