-- What accepted changes keep of tables: the listed classes, superclasses, and rows that could be
-- added again.
use Rattle.std.proofs.Common.{◌≡◌, ◌≢◌, ◌<◌, ◌≤◌, ◌+◌, ◌-◌, ℕ, List, [], ◌∷◌, ◌++◌, length, length-append, Option, Some, None, Bool, true, false, cond, reverse, refl, sym, ap₂, ◌∙◌, subst, arith}
use Rattle.std.specs.Prelude.{◌==◌, ◌&&◌, not, nat_lt, nat_le, is_some, is_none, slice_set, slice_get}
use Rattle.std.specs.List.{list_all, list_any}
use Rattle.std.proofs.lemmas.Bool.Decides.{nat_tests}
use Rattle.std.proofs.lemmas.List.{length-set, length-reverse, reverse-append}
use Rattle.std.proofs.lemmas.Option.{same_Some}
use Rattle.msg_names.proofs.TestLemmas.{both, neither, not_false, equal, same_number, other_number}
use Rattle.msg_names.specs.declared.value.ClassRef.{ClassRef}
use Rattle.msg_names.specs.declared.value.ImpRef.{ImpRef}
use Rattle.msg_names.specs.declared.value.Selector.{Selector}
use Rattle.msg_names.specs.ClassRef.{same_class}
use Rattle.msg_names.specs.Number.{selector_number, imp_number}
use Rattle.msg_tables.specs.declared.change.Change.{Change}
use Rattle.msg_tables.specs.declared.change.Change.TheVariants.{Add, Replace, SetImp, Exchange, Attach, AddClass, Remove, DisposeClass}
use Rattle.msg_tables.specs.declared.presence.Presence.{Presence}
use Rattle.msg_tables.specs.After.{of_class, of_meta, row, rows_at, set_own, set_method, without_own, without_class, rows_after, supers_after, table_after}
use Rattle.msg_tables.specs.Chain.{is_present, has_subclass, chain_of}
use Rattle.msg_tables.specs.Origin.{CountsView, OriginView, class_total, lacks_imp, misfits_in, unlike_in, differ}
use Rattle.msg_rows.specs.RowList.{or_else}
use Rattle.msg_tables.specs.Rows.{Row, ClassTable, is_at, own, holder_at, lookup_at}
use Rattle.msg_tables.specs.Undo.{fits_in}
use Rattle.msg_tables.proofs.AgainstLemmas.{May, absent_superclass, against}
use Rattle.msg_tables.proofs.ClassLemmas.{Grounded, made-stays, made-grounded, gone-stays, gone-grounded}
use Rattle.msg_tables.proofs.HoldsLemmas.{length-set_own, length-rows_at}
use Rattle.msg_tables.proofs.ImpsLemmas.{class-at}
use Rattle.msg_tables.proofs.LimitLemmas.{none_holds}
use Rattle.msg_tables.proofs.OrderLemmas.{present-inside}
use Rattle.msg_tables.proofs.OwnLemmas.{lookup-holder}

pub and-both : (a b : Bool) → a ≡ true → b ≡ true → (a && b) ≡ true
and-both a b e f = rw (e, f) refl

not-lt : (n m : ℕ) → nat_lt n m ≡ false → m ≤ n
not-lt n m e = grind (arith, nat_tests)

not-true : (b : Bool) → not b ≡ true → b ≡ false
not-true true e = cc
not-true false e = refl

not-of : (b : Bool) → b ≡ false → not b ≡ true
not-of b e = rw e refl

pub all-append : {A : Type 0} (p : A → Bool) (xs ys : List A) → list_all p xs ≡ true → list_all p ys ≡ true → list_all p (xs ++ ys) ≡ true
all-append p [] ys e f = f
all-append p (x ∷ xs) ys e f = let parts = both (p x) (list_all p xs) e in and-both (p x) (list_all p (xs ++ ys)) parts.0 (all-append p xs ys parts.1 f)

pub all-reverse : {A : Type 0} (p : A → Bool) (xs : List A) → list_all p xs ≡ true → list_all p (reverse xs) ≡ true
all-reverse p [] e = refl
all-reverse p (x ∷ xs) e =
    let parts = both (p x) (list_all p xs) e in
    subst (λ ys. list_all p ys ≡ true) (sym (reverse-append (x ∷ []) xs)) (all-append p (reverse xs) (x ∷ []) (all-reverse p xs parts.1) (and-both (p x) true parts.0 refl))

-- ---- what fits

-- a row's class is present, and it could be added
abbrev pub is_sound_row : OriginView → List (Option Presence) → Row → Bool
is_sound_row o supers r = is_present supers r.class.class && fits_in o.counts (r.sel, r.imp)

pub record Kept (o : OriginView) (t : ClassTable) : Type 0 where
  pub classes : length t.supers ≡ class_total o
  pub listed : (k : ℕ) → k < length o.superclasses → is_present t.supers k ≡ true
  pub grounded : Grounded t.supers
  pub rows : list_all (is_sound_row o t.supers) t.rows ≡ true
  pub few : length t.rows ≤ o.limits.rows

pub fits-parts : (counts : Option CountsView) (m : ℕ × ℕ) → fits_in counts m ≡ true → (lacks_imp counts m.1 ≡ false) × (misfits_in counts m.0 m.1 ≡ false)
fits-parts counts m e = let parts = both (not (lacks_imp counts m.1)) (not (misfits_in counts m.0 m.1)) e in (not-true (lacks_imp counts m.1) parts.0, not-true (misfits_in counts m.0 m.1) parts.1)

pub fits-both : (counts : Option CountsView) (m : ℕ × ℕ) → lacks_imp counts m.1 ≡ false → misfits_in counts m.0 m.1 ≡ false → fits_in counts m ≡ true
fits-both counts m e f = and-both (not (lacks_imp counts m.1)) (not (misfits_in counts m.0 m.1)) (not-of (lacks_imp counts m.1) e) (not-of (misfits_in counts m.0 m.1) f)

differ-then : (a b c : Option ℕ) → differ a b ≡ false → differ b c ≡ false → differ a c ≡ false
differ-then (Some n) (Some m) (Some l) e f =
    let same = same_number n m (not_false (n == m) e) in
    subst (λ k. differ (Some k) (Some l) ≡ false) (sym same) f
differ-then (Some n) (Some m) None e f = cc
differ-then (Some n) None c e f = cc
differ-then None (Some m) c e f = cc
differ-then None None c e f = cc

differ-turned : (a b : Option ℕ) → differ a b ≡ false → differ b a ≡ false
differ-turned (Some n) (Some m) e = let same = same_number n m (not_false (n == m) e) in rw (sym same, equal n) refl
differ-turned (Some n) None e = cc
differ-turned None (Some m) e = cc
differ-turned None None e = cc

-- two selectors with the same number of arguments fit the same implementations
misfits-like : (counts : Option CountsView) (s u i : ℕ) → unlike_in counts s u ≡ false → misfits_in counts u i ≡ false → misfits_in counts s i ≡ false
misfits-like None s u i e f = refl
misfits-like (Some c) s u i e f = differ-then (slice_get c.colons (s - 1)) (slice_get c.colons (u - 1)) (slice_get c.args (i - 1)) e f

unlike-turned : (counts : Option CountsView) (s u : ℕ) → unlike_in counts s u ≡ false → unlike_in counts u s ≡ false
unlike-turned None s u e = refl
unlike-turned (Some c) s u e = differ-turned (slice_get c.colons (s - 1)) (slice_get c.colons (u - 1)) e

-- a selector that some implementation fits has a number
pub fits-number : (counts : Option CountsView) (s i : ℕ) → misfits_in counts s i ≡ false → unlike_in counts s s ≡ false
fits-number None s i e = refl
fits-number (Some c) s i e =
    differ-then (slice_get c.colons (s - 1)) (slice_get c.args (i - 1)) (slice_get c.colons (s - 1)) e (differ-turned (slice_get c.colons (s - 1)) (slice_get c.args (i - 1)) e)

fits-like : (counts : Option CountsView) (s u i : ℕ) → unlike_in counts s u ≡ false → fits_in counts (u, i) ≡ true → fits_in counts (s, i) ≡ true
fits-like counts s u i e f = let parts = fits-parts counts (u, i) f in fits-both counts (s, i) parts.0 (misfits-like counts s u i e parts.1)

-- ---- sound rows

module _ (o : OriginView) (supers : List (Option Presence)) where
  Sound : List Row → Type 0
  Sound rows = list_all (is_sound_row o supers) rows ≡ true

  pub own-sound : (rows : List Row) (c : ClassRef) (s i : ℕ) → list_all (is_sound_row o supers) rows ≡ true → own rows c s ≡ Some i → (is_present supers c.class ≡ true) × (fits_in o.counts (s, i) ≡ true)
  own-sound [] c s i all e = cc
  own-sound (r ∷ rs) c s i all e =
      let parts = both (is_sound_row o supers r) (list_all (is_sound_row o supers) rs) all in
      step (own rs c s) (is_at c s r) refl (λ is. own-sound rs c s i parts.1 is) e parts.0
    where
      at-row : (is_at c s r ≡ true) → r.imp ≡ i → is_sound_row o supers r ≡ true → (is_present supers c.class ≡ true) × (fits_in o.counts (s, i) ≡ true)
      at-row at imp sound =
          let halves = both (is_present supers r.class.class) (fits_in o.counts (r.sel, r.imp)) sound in
          let class = class-at r c s at in
          let sel = sel-at at in
          (subst (λ k. is_present supers k.class ≡ true) class halves.0, sym (ap₂ (λ n j. fits_in o.counts (n, j)) sel imp) ∙ halves.1)
        where
          sel-at : is_at c s r ≡ true → r.sel ≡ s
          sel-at at = same_number r.sel s (both (same_class r.class c) (r.sel == s) at).1

      step : (v : Option ℕ) (b : Bool) → is_at c s r ≡ b → (v ≡ Some i → (is_present supers c.class ≡ true) × (fits_in o.counts (s, i) ≡ true)) → or_else v (cond b (Some r.imp) None) ≡ Some i → is_sound_row o supers r ≡ true
          → (is_present supers c.class ≡ true) × (fits_in o.counts (s, i) ≡ true)
      step (Some j) b at rest e sound = rest e
      step None true at rest e sound = at-row at (same_Some r.imp i e) sound
      step None false at rest e sound = cc

  set_own-sound : (c : ClassRef) (s i : ℕ) (rows : List Row) → is_sound_row o supers (record { class = c; sel = s; imp = i }) ≡ true → list_all (is_sound_row o supers) rows ≡ true → list_all (is_sound_row o supers) (set_own c s i rows) ≡ true
  set_own-sound c s i [] new all = refl
  set_own-sound c s i (r ∷ rs) new all =
      let parts = both (is_sound_row o supers r) (list_all (is_sound_row o supers) rs) all in
      step (is_at c s r && is_none (own rs c s)) parts.0 (set_own-sound c s i rs new parts.1)
    where
      step : (b : Bool) → is_sound_row o supers r ≡ true → list_all (is_sound_row o supers) (set_own c s i rs) ≡ true
          → list_all (is_sound_row o supers) (cond b (record { class = c; sel = s; imp = i }) r ∷ set_own c s i rs) ≡ true
      step true old rest = and-both (is_sound_row o supers (record { class = c; sel = s; imp = i })) (list_all (is_sound_row o supers) (set_own c s i rs)) new rest
      step false old rest = and-both (is_sound_row o supers r) (list_all (is_sound_row o supers) (set_own c s i rs)) old rest

  set_method-sound : (h : Option ClassRef) (s i : ℕ) (rows : List Row) → ((p : ClassRef) → h ≡ Some p → is_sound_row o supers (record { class = p; sel = s; imp = i }) ≡ true)
      → list_all (is_sound_row o supers) rows ≡ true → list_all (is_sound_row o supers) (set_method h s i rows) ≡ true
  set_method-sound None s i rows new all = all
  set_method-sound (Some p) s i rows new all = set_own-sound p s i rows (new p refl) all

  without-sound : (c : ClassRef) (s : ℕ) (rows : List Row) → list_all (is_sound_row o supers) rows ≡ true → list_all (is_sound_row o supers) (without_own c s rows) ≡ true
  without-sound c s [] all = refl
  without-sound c s (r ∷ rs) all =
      let parts = both (is_sound_row o supers r) (list_all (is_sound_row o supers) rs) all in
      step (is_at c s r && is_none (own rs c s)) parts.0 parts.1 (without-sound c s rs parts.1)
    where
      step : (b : Bool) → is_sound_row o supers r ≡ true → list_all (is_sound_row o supers) rs ≡ true → list_all (is_sound_row o supers) (without_own c s rs) ≡ true
          → list_all (is_sound_row o supers) (cond b rs (r ∷ without_own c s rs)) ≡ true
      step true old more rest = more
      step false old more rest = and-both (is_sound_row o supers r) (list_all (is_sound_row o supers) (without_own c s rs)) old rest

  pub rows_at-sound : (c : ClassRef) (ms : List (ℕ × ℕ)) → is_present supers c.class ≡ true → list_all (fits_in o.counts) ms ≡ true → list_all (is_sound_row o supers) (rows_at c ms) ≡ true
  rows_at-sound c [] here all = refl
  rows_at-sound c (m ∷ ms) here all =
      let parts = both (fits_in o.counts m) (list_all (fits_in o.counts) ms) all in
      and-both (is_present supers c.class && fits_in o.counts m) (list_all (is_sound_row o supers) (rows_at c ms)) (and-both (is_present supers c.class) (fits_in o.counts m) here parts.0) (rows_at-sound c ms here parts.1)

-- other classes are present
all-present : (o : OriginView) (supers after : List (Option Presence)) (rows : List Row) → ((r : Row) → is_present supers r.class.class ≡ true → is_present after r.class.class ≡ true)
    → list_all (is_sound_row o supers) rows ≡ true → list_all (is_sound_row o after) rows ≡ true
all-present o supers after [] stay all = refl
all-present o supers after (r ∷ rs) stay all =
    let parts = both (is_sound_row o supers r) (list_all (is_sound_row o supers) rs) all in
    let halves = both (is_present supers r.class.class) (fits_in o.counts (r.sel, r.imp)) parts.0 in
    and-both (is_sound_row o after r) (list_all (is_sound_row o after) rs) (and-both (is_present after r.class.class) (fits_in o.counts (r.sel, r.imp)) (stay r halves.0) halves.1) (all-present o supers after rs stay parts.1)

without_class-sound : (o : OriginView) (supers after : List (Option Presence)) (k : ℕ) (rows : List Row) → ((j : ℕ) → j ≢ k → is_present supers j ≡ true → is_present after j ≡ true)
    → list_all (is_sound_row o supers) rows ≡ true → list_all (is_sound_row o after) (without_class k rows) ≡ true
without_class-sound o supers after k [] stay all = refl
without_class-sound o supers after k (r ∷ rs) stay all =
    let parts = both (is_sound_row o supers r) (list_all (is_sound_row o supers) rs) all in
    let halves = both (is_present supers r.class.class) (fits_in o.counts (r.sel, r.imp)) parts.0 in
    step (r.class.class == k) refl halves.0 halves.1 (without_class-sound o supers after k rs stay parts.1)
  where
    step : (b : Bool) → (r.class.class == k) ≡ b → is_present supers r.class.class ≡ true → fits_in o.counts (r.sel, r.imp) ≡ true → list_all (is_sound_row o after) (without_class k rs) ≡ true
        → list_all (is_sound_row o after) (cond b (without_class k rs) (r ∷ without_class k rs)) ≡ true
    step true e here fits rest = rest
    step false e here fits rest =
        and-both (is_sound_row o after r) (list_all (is_sound_row o after) (without_class k rs)) (and-both (is_present after r.class.class) (fits_in o.counts (r.sel, r.imp)) (stay r.class.class (other_number r.class.class k e) here) fits) rest

-- ---- the number of rows

pub length-without : (c : ClassRef) (s : ℕ) (rows : List Row) → length (without_own c s rows) ≤ length rows
length-without c s [] = omega arith
length-without c s (r ∷ rs) = step (is_at c s r && is_none (own rs c s)) (length-without c s rs)
  where
    step : (b : Bool) → length (without_own c s rs) ≤ length rs → length (cond b rs (r ∷ without_own c s rs)) ≤ length (r ∷ rs)
    step true rest = omega arith
    step false rest = omega (arith, rest)

pub length-without_class : (k : ℕ) (rows : List Row) → length (without_class k rows) ≤ length rows
length-without_class k [] = omega arith
length-without_class k (r ∷ rs) = step (r.class.class == k) (length-without_class k rs)
  where
    step : (b : Bool) → length (without_class k rs) ≤ length rs → length (cond b (without_class k rs) (r ∷ without_class k rs)) ≤ length (r ∷ rs)
    step true rest = omega (arith, rest)
    step false rest = omega (arith, rest)

-- ---- after a change

module _ (o : OriginView) (t : ClassTable) (kept : Kept o t) where
  abbrev Next : Change → Type 0
  Next x = May o t x → Kept o (record { supers = supers_after t.supers x; rows = rows_after t x })

  there : (b : Bool) → not b ≡ false → b ≡ true
  there b e = not_false b e

  -- only rows are changed
  same-classes : (rows : List Row) → list_all (is_sound_row o t.supers) rows ≡ true → length rows ≤ o.limits.rows → Kept o (record { supers = t.supers; rows = rows })
  same-classes rows sound few = record { classes = kept.classes; listed = kept.listed; grounded = kept.grounded; rows = sound; few = few }

  sound-one : (c : ClassRef) (s i : ℕ) → is_present t.supers c.class ≡ true → lacks_imp o.counts i ≡ false → misfits_in o.counts s i ≡ false → is_sound_row o t.supers (record { class = c; sel = s; imp = i }) ≡ true
  sound-one c s i here imp args = and-both (is_present t.supers c.class) (fits_in o.counts (s, i)) here (fits-both o.counts (s, i) imp args)

  append-one : (c : ClassRef) (s i : ℕ) → is_present t.supers c.class ≡ true → lacks_imp o.counts i ≡ false → misfits_in o.counts s i ≡ false → length t.rows + 1 ≤ o.limits.rows
      → Kept o (record { supers = t.supers; rows = t.rows ++ record { class = c; sel = s; imp = i } ∷ [] })
  append-one c s i here imp args few =
      same-classes (t.rows ++ record { class = c; sel = s; imp = i } ∷ [])
      (all-append (is_sound_row o t.supers) t.rows (record { class = c; sel = s; imp = i } ∷ []) kept.rows (and-both (is_sound_row o t.supers (record { class = c; sel = s; imp = i })) true (sound-one c s i here imp args) refl))
      (let n = length-append t.rows (record { class = c; sel = s; imp = i } ∷ []) in omega (arith, few, n))

  set-one : (c : ClassRef) (s i : ℕ) → is_present t.supers c.class ≡ true → lacks_imp o.counts i ≡ false → misfits_in o.counts s i ≡ false → Kept o (record { supers = t.supers; rows = set_own c s i t.rows })
  set-one c s i here imp args =
      same-classes (set_own c s i t.rows) (set_own-sound o t.supers c s i t.rows (sound-one c s i here imp args) kept.rows) (let n = length-set_own c s i t.rows in omega (arith, n, kept.few))

  -- a method is in a class that is present, and fits
  pub held-sound : (c p : ClassRef) (s : ℕ) → holder_at t c s ≡ Some p → (is_present t.supers p.class ≡ true) × (fits_in o.counts (s, lookup_at t c s) ≡ true)
  held-sound c p s e = own-sound o t.supers t.rows p s (lookup_at t c s) kept.rows (sym (lookup-holder t.rows (chain_of t.supers c) s p e))

  pub held-there : (h : Option ClassRef) → is_none h ≡ false → (p : ClassRef) × (h ≡ Some p)
  held-there None e = cc
  held-there (Some p) e = (p, refl)

  pub any-fits : (ms cs : List (ℕ × ℕ)) → list_any (λ m. lacks_imp o.counts m.1) (ms ++ cs) ≡ false → list_any (λ m. misfits_in o.counts m.0 m.1) (ms ++ cs) ≡ false
      → (list_all (fits_in o.counts) ms ≡ true) × (list_all (fits_in o.counts) cs ≡ true)
  any-fits [] [] imp args = (refl, refl)
  any-fits [] (c ∷ cs) imp args =
      let imps = neither (lacks_imp o.counts c.1) (list_any (λ m. lacks_imp o.counts m.1) cs) imp in
      let counts = neither (misfits_in o.counts c.0 c.1) (list_any (λ m. misfits_in o.counts m.0 m.1) cs) args in
      (refl, and-both (fits_in o.counts c) (list_all (fits_in o.counts) cs) (fits-both o.counts c imps.0 counts.0) (any-fits [] cs imps.1 counts.1).1)
  any-fits (m ∷ ms) cs imp args =
      let imps = neither (lacks_imp o.counts m.1) (list_any (λ m. lacks_imp o.counts m.1) (ms ++ cs)) imp in
      let counts = neither (misfits_in o.counts m.0 m.1) (list_any (λ m. misfits_in o.counts m.0 m.1) (ms ++ cs)) args in
      let rest = any-fits ms cs imps.1 counts.1 in
      (and-both (fits_in o.counts m) (list_all (fits_in o.counts) ms) (fits-both o.counts m imps.0 counts.0) rest.0, rest.1)

  pub next-add : (c : ClassRef) (s : Selector) (i : ImpRef) → Next (Add c s i)
  next-add c s i e =
      append-one c (selector_number s) (imp_number i) (there _ (none_holds (against false o t (Add c s i)) 0 e)) (none_holds (against false o t (Add c s i)) 1 e) (none_holds (against false o t (Add c s i)) 2 e)
      (not-lt _ _ (none_holds (against false o t (Add c s i)) 4 e))

  pub next-replace : (c : ClassRef) (s : Selector) (i : ImpRef) → Next (Replace c s i)
  next-replace c s i e =
      step (is_some (own t.rows c (selector_number s))) (there _ (none_holds (against false o t (Replace c s i)) 0 e)) (none_holds (against false o t (Replace c s i)) 1 e) (none_holds (against false o t (Replace c s i)) 2 e)
      (not-lt _ _ (none_holds (against false o t (Replace c s i)) 3 e))
    where
      step : (b : Bool) → is_present t.supers c.class ≡ true → lacks_imp o.counts (imp_number i) ≡ false → misfits_in o.counts (selector_number s) (imp_number i) ≡ false → length t.rows + cond b 0 1 ≤ o.limits.rows
          → Kept o (record { supers = t.supers; rows = cond b (set_own c (selector_number s) (imp_number i) t.rows) (t.rows ++ row c s i ∷ []) })
      step true here imp args few = set-one c (selector_number s) (imp_number i) here imp args
      step false here imp args few = append-one c (selector_number s) (imp_number i) here imp args few

  pub next-set : (c : ClassRef) (s : Selector) (i : ImpRef) → Next (SetImp c s i)
  next-set c s i e =
      let held = held-there (holder_at t c (selector_number s)) (none_holds (against false o t (SetImp c s i)) 3 e) in
      let sound = held-sound c held.0 (selector_number s) held.1 in
      subst (λ h. Kept o (record { supers = t.supers; rows = set_method h (selector_number s) (imp_number i) t.rows })) (sym held.1)
      (set-one held.0 (selector_number s) (imp_number i) sound.0 (none_holds (against false o t (SetImp c s i)) 1 e) (none_holds (against false o t (SetImp c s i)) 2 e))

  pub next-exchange : (c d : ClassRef) (s u : Selector) → Next (Exchange c s d u)
  next-exchange c d s u e =
      let n = selector_number s in
      let m = selector_number u in
      let none = neither (is_none (holder_at t c n)) (is_none (holder_at t d m)) (none_holds (against false o t (Exchange c s d u)) 2 e) in
      let alike = none_holds (against false o t (Exchange c s d u)) 1 e in
      let p = held-there (holder_at t c n) none.0 in
      let q = held-there (holder_at t d m) none.1 in
      let one = held-sound c p.0 n p.1 in
      let two = held-sound d q.0 m q.1 in
      let first = fits-like o.counts n m (lookup_at t d m) alike two.1 in
      let second = fits-like o.counts m n (lookup_at t c n) (unlike-turned o.counts n m alike) one.1 in
      let inner = set_own-sound o t.supers q.0 m (lookup_at t c n) t.rows (and-both (is_present t.supers q.0.class) (fits_in o.counts (m, lookup_at t c n)) two.0 second) kept.rows in
      let outer = set_own-sound o t.supers p.0 n (lookup_at t d m) (set_own q.0 m (lookup_at t c n) t.rows) (and-both (is_present t.supers p.0.class) (fits_in o.counts (n, lookup_at t d m)) one.0 first) inner in
      let few = length-set_own p.0 n (lookup_at t d m) (set_own q.0 m (lookup_at t c n) t.rows) in
      let few' = length-set_own q.0 m (lookup_at t c n) t.rows in
      let all = same-classes (set_own p.0 n (lookup_at t d m) (set_own q.0 m (lookup_at t c n) t.rows)) outer (omega (arith, few, few', kept.few)) in
      subst (λ h. Kept o (record { supers = t.supers; rows = set_method h n (lookup_at t d m) (set_method (holder_at t d m) m (lookup_at t c n) t.rows) })) (sym p.1)
      (subst (λ h. Kept o (record { supers = t.supers; rows = set_own p.0 n (lookup_at t d m) (set_method h m (lookup_at t c n) t.rows) })) (sym q.1) all)

  pub next-attach : (k : ℕ) (ms cs : List (ℕ × ℕ)) → Next (Attach k ms cs)
  next-attach k ms cs e =
      let here = there (is_present t.supers k) (none_holds (against false o t (Attach k ms cs)) 0 e) in
      let fits = any-fits ms cs (none_holds (against false o t (Attach k ms cs)) 1 e) (none_holds (against false o t (Attach k ms cs)) 2 e) in
      let few = not-lt _ _ (none_holds (against false o t (Attach k ms cs)) 3 e) in
      let own' = rows_at-sound o t.supers (of_class k) (reverse ms) here (all-reverse (fits_in o.counts) ms fits.0) in
      let meta = rows_at-sound o t.supers (of_meta k) (reverse cs) here (all-reverse (fits_in o.counts) cs fits.1) in
      same-classes (t.rows ++ rows_at (of_class k) (reverse ms) ++ rows_at (of_meta k) (reverse cs))
      (all-append (is_sound_row o t.supers) (t.rows ++ rows_at (of_class k) (reverse ms)) (rows_at (of_meta k) (reverse cs)) (all-append (is_sound_row o t.supers) t.rows (rows_at (of_class k) (reverse ms)) kept.rows own') meta)
      (let a = length-append (t.rows ++ rows_at (of_class k) (reverse ms)) (rows_at (of_meta k) (reverse cs)) in let b = length-append t.rows (rows_at (of_class k) (reverse ms)) in
      let c = length-rows_at (of_class k) (reverse ms) in let d = length-rows_at (of_meta k) (reverse cs) in let f = length-reverse ms in let g = length-reverse cs in let n = length-append ms cs in omega (arith, few, a, b, c, d, f, g, n))

  pub next-remove : (c : ClassRef) (s : Selector) → Next (Remove c s)
  next-remove c s e =
      same-classes (without_own c (selector_number s) t.rows) (without-sound o t.supers c (selector_number s) t.rows kept.rows) (let n = length-without c (selector_number s) t.rows in omega (arith, n, kept.few))

  -- what is known of a class that may be made
  pub record Makes (k : ℕ) (d : Option ℕ) : Type 0 where
    pub inside : k < length t.supers
    pub gone : is_present t.supers k ≡ false
    pub up : (e : ℕ) → d ≡ Some e → is_present t.supers e ≡ true

  pub makes : (k : ℕ) (d : Option ℕ) → May o t (AddClass k d) → Makes k d
  makes k d e =
      let parts = neither (nat_le (class_total o) k) (absent_superclass false o t.supers d) (none_holds (against false o t (AddClass k d)) 0 e) in
      record { inside = inside parts.0; gone = gone (none_holds (against false o t (AddClass k d)) 2 e); up = up d parts.1 }
    where
      inside : nat_le (class_total o) k ≡ false → k < length t.supers
      inside e = let all = kept.classes in let few : k < class_total o = grind (arith, nat_tests, e) in omega (arith, all, few)

      gone : not (not (is_present t.supers k)) ≡ false → is_present t.supers k ≡ false
      gone e = not-true (is_present t.supers k) (not_false (not (is_present t.supers k)) e)

      up : (d : Option ℕ) → absent_superclass false o t.supers d ≡ false → (e : ℕ) → d ≡ Some e → is_present t.supers e ≡ true
      up None none e is = cc
      up (Some f) none e is = subst (λ j. is_present t.supers j ≡ true) (same_Some f e is) (there (is_present t.supers f) none)

  pub next-make : (k : ℕ) (d : Option ℕ) → Next (AddClass k d)
  next-make k d e =
      let m = makes k d e in
      record {
        classes = length-set t.supers k (Some (record { superclass = d })) ∙ kept.classes;
        listed = λ j inside. made-stays t.supers k d m.inside m.gone j (kept.listed j inside);
        grounded = made-grounded t.supers k d m.inside m.gone m.up kept.grounded;
        rows = all-present o t.supers (slice_set t.supers k (Some (record { superclass = d }))) t.rows (λ r here. made-stays t.supers k d m.inside m.gone r.class.class here) kept.rows;
        few = kept.few;
      }

  -- and of a class that may be disposed of
  pub record Leaves (k : ℕ) : Type 0 where
    pub here : is_present t.supers k ≡ true
    pub inside : k < length t.supers
    pub made : length o.superclasses ≤ k
    pub leaf : has_subclass t.supers k ≡ false

  pub leaves : (k : ℕ) → May o t (DisposeClass k) → Leaves k
  leaves k e =
      let here = there (is_present t.supers k) (none_holds (against false o t (DisposeClass k)) 0 e) in
      let parts = neither (nat_lt k (length o.superclasses)) (has_subclass t.supers k) (none_holds (against false o t (DisposeClass k)) 2 e) in
      record { here = here; inside = present-inside t.supers k here; made = not-lt k (length o.superclasses) parts.0; leaf = parts.1 }

  pub next-dispose : (k : ℕ) → Next (DisposeClass k)
  next-dispose k e =
      let l = leaves k e in
      record {
        classes = length-set t.supers k None ∙ kept.classes;
        listed = λ j inside. gone-stays t.supers k j (λ same. let made = l.made in absurd (omega (arith, inside, same, made))) (kept.listed j inside);
        grounded = gone-grounded t.supers k l.inside l.leaf kept.grounded;
        rows = without_class-sound o t.supers (slice_set t.supers k None) k t.rows (λ j ne there. gone-stays t.supers k j ne there) kept.rows;
        few = let n = length-without_class k t.rows in omega (arith, n, kept.few);
      }

pub kept-after : (o : OriginView) (t : ClassTable) (x : Change) → Kept o t → May o t x → Kept o (table_after t x)
unfolding table_after
kept-after o t (Add c s i) kept e = next-add o t kept c s i e
kept-after o t (Replace c s i) kept e = next-replace o t kept c s i e
kept-after o t (SetImp c s i) kept e = next-set o t kept c s i e
kept-after o t (Exchange c s d u) kept e = next-exchange o t kept c d s u e
kept-after o t (Attach k ms cs) kept e = next-attach o t kept k ms cs e
kept-after o t (AddClass k d) kept e = next-make o t kept k d e
kept-after o t (Remove c s) kept e = next-remove o t kept c s e
kept-after o t (DisposeClass k) kept e = next-dispose o t kept k e
