-- A list and its way back affect the same class references.
use Rattle.std.proofs.Common.{◌≡◌, ◌≢◌, ℕ, List, [], ◌∷◌, ◌++◌, Option, Some, None, Bool, true, false, cond, refl, sym, ap, ap₂, ◌∙◌, subst}
use Rattle.std.specs.Prelude.{◌==◌, ◌||◌, not, is_some, slice_set}
use Rattle.std.specs.List.{list_all, list_any}
use Rattle.std.specs.Option.{option_map_or}
use Rattle.std.proofs.lemmas.List.Folds.{list_any-append}
use Rattle.msg_names.proofs.TestLemmas.{same_number, other_number, equal}
use Rattle.msg_names.specs.declared.value.ClassRef.{ClassRef}
use Rattle.msg_names.specs.declared.value.ImpRef.{ImpRef}
use Rattle.msg_names.specs.declared.value.Selector.{Selector}
use Rattle.msg_names.specs.ClassRef.{same_class}
use Rattle.msg_names.specs.Number.{selector_number, selector_of, imp_ref_of}
use Rattle.msg_tables.specs.declared.change.Change.{Change}
use Rattle.msg_tables.specs.declared.change.Change.TheVariants.{Add, Replace, SetImp, Exchange, Attach, AddClass, Remove, DisposeClass}
use Rattle.msg_tables.specs.declared.presence.Presence.{Presence}
use Rattle.msg_tables.specs.Affected.{at_most_one, if_any, is_affected, is_of_made, written_refs}
use Rattle.msg_tables.specs.After.{of_class, of_meta, table_after}
use Rattle.msg_tables.specs.Chain.{chain_of, has_subclass, is_member, presence_of}
use Rattle.msg_tables.specs.ListLaws.{IsMadeAt}
use Rattle.msg_tables.specs.Log.{Log, and_then, table, table_after_all}
use Rattle.msg_tables.specs.Origin.{OriginView}
use Rattle.msg_tables.specs.Rows.{Row, ClassTable, chain, holder_at, lookup_at, own}
use Rattle.msg_tables.specs.Several.{and_all, is_affected_by_all}
use Rattle.msg_tables.specs.Undo.{AreAlike, are_numbered, covering, covering_all, old_at, removing, undo, undo_all}
use Rattle.msg_tables.proofs.AgainstLemmas.{May, MayAll, accepted-may_all, against}
use Rattle.msg_tables.proofs.AlikeLemmas.{alike-after, holder-alike}
use Rattle.msg_tables.proofs.KeptLemmas.{Kept, kept-after, leaves}
use Rattle.msg_tables.proofs.LimitLemmas.{none_holds}
use Rattle.msg_tables.proofs.LogLemmas.{table-and_then}
use Rattle.msg_tables.proofs.PresenceLemmas.{chain-apart}
use Rattle.msg_tables.proofs.SeveralLemmas.{table-and_all}
use Rattle.msg_tables.proofs.WayBackLemmas.{present-is, set-twice}
use Rattle.msg_tables.proofs.WayBackAllLemmas.{back-all, kept-at, numbered-parts}

-- ---- by the tables

refs : ClassTable → Change → List ClassRef
refs t (Add c s i) = c ∷ []
refs t (Replace c s i) = c ∷ []
refs t (SetImp c s i) = at_most_one (holder_at t c (selector_number s))
refs t (Exchange c s d u) = at_most_one (holder_at t c (selector_number s)) ++ at_most_one (holder_at t d (selector_number u))
refs t (Attach k ms cs) = if_any ms (of_class k) ++ if_any cs (of_meta k)
refs t (AddClass k d) = []
refs t (Remove c s) = c ∷ []
refs t (DisposeClass k) = []

-- the class reference is at or below one of these places
abbrev below : ClassTable → ClassRef → List ClassRef → Bool
below t c places = list_any (λ place. is_member place (chain t c)) places

abbrev affected : ClassTable → Change → ClassRef → Bool
affected t x c = is_of_made x c || below t c (refs t x)

abbrev affected_all : ClassTable → List Change → ClassRef → Bool
affected_all t [] c = false
affected_all t (x ∷ xs) c = affected t x c || affected_all (table_after t x) xs c

affected-is : (h : Log) (x : Change) (c : ClassRef) → is_affected h x c ≡ affected (table h) x c
unfolding is_affected written_refs refs Rattle.msg_tables.specs.Log.holder Rattle.msg_tables.specs.Log.chain_at
affected-is h (Add d s i) c = refl
affected-is h (Replace d s i) c = refl
affected-is h (SetImp d s i) c = refl
affected-is h (Exchange d s e u) c = refl
affected-is h (Attach k ms cs) c = refl
affected-is h (AddClass k d) c = refl
affected-is h (Remove d s) c = refl
affected-is h (DisposeClass k) c = refl

affected_all-is : (h : Log) (xs : List Change) (c : ClassRef) → is_affected_by_all h xs c ≡ affected_all (table h) xs c
affected_all-is h [] c = refl
affected_all-is h (x ∷ xs) c = ap₂ (λ a b. a || b) (affected-is h x c) (affected_all-is (and_then h x) xs c ∙ ap (λ t. affected_all t xs c) (table-and_then h x))

-- ---- of tables that are alike

refs-alike : (t u : ClassTable) (x : Change) → AreAlike t u → refs t x ≡ refs u x
unfolding refs
refs-alike t u (Add c s i) e = refl
refs-alike t u (Replace c s i) e = refl
refs-alike t u (SetImp c s i) e = ap at_most_one (holder-alike t u e c (selector_number s))
refs-alike t u (Exchange c s d v) e = ap₂ (λ p q. at_most_one p ++ at_most_one q) (holder-alike t u e c (selector_number s)) (holder-alike t u e d (selector_number v))
refs-alike t u (Attach k ms cs) e = refl
refs-alike t u (AddClass k d) e = refl
refs-alike t u (Remove c s) e = refl
refs-alike t u (DisposeClass k) e = refl

affected-alike : (t u : ClassTable) (x : Change) (c : ClassRef) → AreAlike t u → affected t x c ≡ affected u x c
affected-alike t u x c e = ap₂ (λ supers places. is_of_made x c || list_any (λ place. is_member place (chain_of supers c)) places) e.supers (refs-alike t u x e)

affected_all-alike : (t u : ClassTable) (xs : List Change) (c : ClassRef) → AreAlike t u → affected_all t xs c ≡ affected_all u xs c
affected_all-alike t u [] c e = refl
affected_all-alike t u (x ∷ xs) c e = ap₂ (λ a b. a || b) (affected-alike t u x c e) (affected_all-alike (table_after t x) (table_after u x) xs c (alike-after t u x e))

or-assoc : (a b c : Bool) → ((a || b) || c) ≡ (a || (b || c))
or-assoc true b c = refl
or-assoc false b c = refl

or-turned : (a b : Bool) → (a || b) ≡ (b || a)
or-turned true true = refl
or-turned true false = refl
or-turned false true = refl
or-turned false false = refl

or-false : (a : Bool) → (a || false) ≡ a
or-false true = refl
or-false false = refl

or-same : (a : Bool) → (a || a) ≡ a
or-same true = refl
or-same false = refl

affected-append : (t : ClassTable) (xs ys : List Change) (c : ClassRef) → affected_all t (xs ++ ys) c ≡ (affected_all t xs c || affected_all (table_after_all t xs) ys c)
affected-append t [] ys c = refl
affected-append t (x ∷ xs) ys c = ap (λ b. affected t x c || b) (affected-append (table_after t x) xs ys c) ∙ sym (or-assoc (affected t x c) (affected_all (table_after t x) xs c) (affected_all (table_after_all (table_after t x) xs) ys c))

-- ---- one change

-- of changes that leave the classes
old-reach : (t : ClassTable) (h : Option ClassRef) (s : Selector) (i : ℕ) (c : ClassRef) → affected_all t (old_at h s i) c ≡ below t c (at_most_one h)
unfolding refs
old-reach t None s i c = refl
old-reach t (Some p) s i c = or-false (below t c (p ∷ []))

old-supers : (t : ClassTable) (h : Option ClassRef) (s : Selector) (i : ℕ) → (table_after_all t (old_at h s i)).supers ≡ t.supers
unfolding table_after
old-supers t None s i = refl
old-supers t (Some p) s i = refl

removing-reach : (t : ClassTable) (p : ClassRef) (ms : List (ℕ × ℕ)) (c : ClassRef) → affected_all t (removing p ms) c ≡ below t c (if_any ms p)
unfolding refs table_after
removing-reach t p [] c = refl
removing-reach t p (m ∷ []) c = or-false (below t c (p ∷ []))
removing-reach t p (m ∷ n ∷ ms) c = ap (λ b. below t c (p ∷ []) || b) (removing-reach (table_after t (Remove p (selector_of m.0))) p (n ∷ ms) c) ∙ or-same (below t c (p ∷ []))

removing-supers : (t : ClassTable) (p : ClassRef) (ms : List (ℕ × ℕ)) → (table_after_all t (removing p ms)).supers ≡ t.supers
unfolding table_after
removing-supers t p [] = refl
removing-supers t p (m ∷ ms) = removing-supers (table_after t (Remove p (selector_of m.0))) p ms

covering-reach : (t : ClassTable) (p : ClassRef) (s i : ℕ) (c : ClassRef) → affected t (covering p s i) c ≡ below t c (p ∷ [])
unfolding refs
covering-reach t p s i c = step p.meta refl
  where
    step : (b : Bool) → p.meta ≡ b → affected t (cond b (Attach p.class [] ((s, i) ∷ [])) (Attach p.class ((s, i) ∷ []) [])) c ≡ below t c (p ∷ [])
    step true e = let back = sym e in λ j. below t c (record { class = p.class; meta = back j } ∷ [])
    step false e = let back = sym e in λ j. below t c (record { class = p.class; meta = back j } ∷ [])

covering-supers : (t : ClassTable) (p : ClassRef) (s i : ℕ) → (table_after t (covering p s i)).supers ≡ t.supers
unfolding table_after
covering-supers t p s i = step p.meta
  where
    step : (b : Bool) → (table_after t (cond b (Attach p.class [] ((s, i) ∷ [])) (Attach p.class ((s, i) ∷ []) []))).supers ≡ t.supers
    step true = refl
    step false = refl

-- outside the class of the rows that are added again
covering_all-away : (t : ClassTable) (p : ClassRef) (rs : List Row) (c : ClassRef) → is_member p (chain t c) ≡ false → affected_all t (covering_all p rs) c ≡ false
covering_all-away t p [] c away = refl
covering_all-away t p (r ∷ rs) c away = step (same_class r.class p) refl (λ u e. covering_all-away u p rs c e)
  where
    step : (b : Bool) → same_class r.class p ≡ b → ((u : ClassTable) → is_member p (chain u c) ≡ false → affected_all u (covering_all p rs) c ≡ false)
        → affected_all t (cond b (covering p r.sel r.imp ∷ covering_all p rs) (covering_all p rs)) c ≡ false
    step true e rest =
        ap₂ (λ a b. a || b) (covering-reach t p r.sel r.imp c ∙ or-false (is_member p (chain t c)) ∙ away)
        (rest (table_after t (covering p r.sel r.imp)) (ap (λ supers. is_member p (chain_of supers c)) (covering-supers t p r.sel r.imp) ∙ away))
    step false e rest = rest t away

covering_all-supers : (t : ClassTable) (p : ClassRef) (rs : List Row) → (table_after_all t (covering_all p rs)).supers ≡ t.supers
covering_all-supers t p [] = refl
covering_all-supers t p (r ∷ rs) = step (same_class r.class p) (covering_all-supers t p rs) (covering_all-supers (table_after t (covering p r.sel r.imp)) p rs)
  where
    step : (b : Bool) → (table_after_all t (covering_all p rs)).supers ≡ t.supers → (table_after_all (table_after t (covering p r.sel r.imp)) (covering_all p rs)).supers ≡ (table_after t (covering p r.sel r.imp)).supers
        → (table_after_all t (cond b (covering p r.sel r.imp ∷ covering_all p rs) (covering_all p rs))).supers ≡ t.supers
    step true skip rest = rest ∙ covering-supers t p r.sel r.imp
    step false skip rest = skip

reach-back : (o : OriginView) (t : ClassTable) (x : Change) (c : ClassRef) → Kept o t → May o t x → affected_all (table_after t x) (undo t x) c ≡ affected t x c
unfolding refs table_after
reach-back o t (Add d s i) c kept e = or-false (below t c (d ∷ []))
reach-back o t (Replace d s i) c kept e = step (own t.rows d (selector_number s))
  where
    step : (v : Option ℕ) → affected_all (table_after t (Replace d s i)) (option_map_or (λ old. Replace d s (imp_ref_of old)) v (Remove d s) ∷ []) c ≡ below t c (d ∷ [])
    step None = or-false (below t c (d ∷ []))
    step (Some old) = or-false (below t c (d ∷ []))
reach-back o t (SetImp d s i) c kept e = old-reach (table_after t (SetImp d s i)) (holder_at t d (selector_number s)) s (lookup_at t d (selector_number s)) c
reach-back o t (Exchange d s f u) c kept e =
    let after = table_after t (Exchange d s f u) in
    let p = holder_at t d (selector_number s) in
    let q = holder_at t f (selector_number u) in
    let first = old_at q u (lookup_at t f (selector_number u)) in
    affected-append after first (old_at p s (lookup_at t d (selector_number s))) c
    ∙ ap₂ (λ a b. a || b) (old-reach after q u (lookup_at t f (selector_number u)) c)
    (old-reach (table_after_all after first) p s (lookup_at t d (selector_number s)) c ∙ ap (λ supers. list_any (λ place. is_member place (chain_of supers c)) (at_most_one p)) (old-supers after q u (lookup_at t f (selector_number u))))
    ∙ or-turned (below t c (at_most_one q)) (below t c (at_most_one p)) ∙ sym (list_any-append (λ place. is_member place (chain t c)) (at_most_one p) (at_most_one q))
reach-back o t (Attach k ms cs) c kept e =
    let after = table_after t (Attach k ms cs) in
    affected-append after (removing (of_meta k) cs) (removing (of_class k) ms) c
    ∙ ap₂ (λ a b. a || b) (removing-reach after (of_meta k) cs c)
    (removing-reach (table_after_all after (removing (of_meta k) cs)) (of_class k) ms c ∙ ap (λ supers. list_any (λ place. is_member place (chain_of supers c)) (if_any ms (of_class k))) (removing-supers after (of_meta k) cs))
    ∙ or-turned (below t c (if_any cs (of_meta k))) (below t c (if_any ms (of_class k))) ∙ sym (list_any-append (λ place. is_member place (chain t c)) (if_any ms (of_class k)) (if_any cs (of_meta k)))
reach-back o t (AddClass k d) c kept e = or-false ((c.class == k) || false)
reach-back o t (Remove d s) c kept e = step (own t.rows d (selector_number s)) (none_holds (against false o t (Remove d s)) 2 e)
  where
    step : (v : Option ℕ) → not (is_some v) ≡ false → affected_all (table_after t (Remove d s)) (option_map_or (λ old. covering d (selector_number s) old ∷ []) v []) c ≡ below t c (d ∷ [])
    step None there = cc
    step (Some old) there = or-false (affected (table_after t (Remove d s)) (covering d (selector_number s) old) c) ∙ covering-reach (table_after t (Remove d s)) d (selector_number s) old c
reach-back o t (DisposeClass k) c kept e =
    let l = leaves o t kept k e in
    let here = present-is t.supers k l.here in
    subst (λ v. affected_all (table_after t (DisposeClass k)) (option_map_or (λ (p : Presence). AddClass k p.superclass ∷ covering_all (of_class k) t.rows ++ covering_all (of_meta k) t.rows) v []) c ≡ ((c.class == k) || false))
    (sym here.1) (at here.0 (c.class == k) refl (set-twice t.supers k None (Some here.0) l.inside here.1) l.leaf)
  where
    at : (p : Presence) (b : Bool) → (c.class == k) ≡ b → slice_set (slice_set t.supers k None) k (Some p) ≡ t.supers → has_subclass t.supers k ≡ false
        → (((c.class == k) || false) || affected_all (table_after (table_after t (DisposeClass k)) (AddClass k p.superclass)) (covering_all (of_class k) t.rows ++ covering_all (of_meta k) t.rows) c) ≡ ((c.class == k) || false)
    at p true same made leaf = rw same refl
    at p false other made leaf =
        let u = table_after (table_after t (DisposeClass k)) (AddClass k p.superclass) in
        let ne = other_number c.class k other in
        let away = λ (q : ClassRef) (is : q.class ≡ k). ap (λ supers. is_member q (chain_of supers c)) made ∙ apart q is leaf ne in
        let first = covering_all-away u (of_class k) t.rows c (away (of_class k) refl) in
        let second = covering_all-away (table_after_all u (covering_all (of_class k) t.rows)) (of_meta k) t.rows c (ap (λ supers. is_member (of_meta k) (chain_of supers c)) (covering_all-supers u (of_class k) t.rows) ∙ away (of_meta k) refl) in
        ap (λ b. (c.class == k) || false || b) (affected-append u (covering_all (of_class k) t.rows) (covering_all (of_meta k) t.rows) c ∙ ap₂ (λ a b. a || b) first second) ∙ or-false ((c.class == k) || false)
      where
        apart : (q : ClassRef) → q.class ≡ k → has_subclass t.supers k ≡ false → c.class ≢ k → is_member q (chain_of t.supers c) ≡ false
        apart q is leaf ne = step (is_member q (chain_of t.supers c)) refl
          where
            step : (b : Bool) → is_member q (chain_of t.supers c) ≡ b → is_member q (chain_of t.supers c) ≡ false
            step false f = f
            step true f = absurd (chain-apart t.supers k leaf c q ne f is)

-- ---- all of a list

reach-all : (o : OriginView) (t : ClassTable) (xs : List Change) (c : ClassRef) → Kept o t → MayAll o t xs → list_all are_numbered xs ≡ true → affected_all (table_after_all t xs) (undo_all t xs) c ≡ affected_all t xs c
reach-all o t [] c kept all numbered = refl
reach-all o t (x ∷ xs) c kept all numbered =
    let parts = numbered-parts x xs numbered in
    let next = table_after t x in
    let then = kept-after o t x kept all.0 in
    affected-append (table_after_all next xs) (undo_all next xs) (undo t x) c
    ∙ ap₂ (λ a b. a || b) (reach-all o next xs c then all.1 parts.1)
    (affected_all-alike (table_after_all (table_after_all next xs) (undo_all next xs)) next (undo t x) c (back-all o next xs then all.1 parts.1) ∙ reach-back o t x c kept all.0)
    ∙ or-turned (affected_all next xs c) (affected t x c)

pub same-reach : (h : Log) (xs : List Change) (c : ClassRef) → IsMadeAt h xs → is_affected_by_all (and_all h xs) (undo_all (table h) xs) c ≡ is_affected_by_all h xs c
same-reach h xs c is =
    affected_all-is (and_all h xs) (undo_all (table h) xs) c ∙ ap (λ t. affected_all t (undo_all (table h) xs) c) (table-and_all h xs)
    ∙ reach-all h.origin (table h) xs c (kept-at h is.sound is.fit is.log) (accepted-may_all h xs is.accepted) is.numbered ∙ sym (affected_all-is h xs c)
