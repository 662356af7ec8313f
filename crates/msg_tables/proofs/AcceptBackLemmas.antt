-- The changes that take a change back are accepted directly afterwards, except for the limit on
-- changes.
use Rattle.std.proofs.Common.{◌≡◌, ◌≢◌, ◌<◌, ◌≤◌, ◌+◌, ℕ, zero, suc, List, [], ◌∷◌, ◌++◌, length, length-append, Option, Some, None, Bool, true, false, cond, map, reverse, refl, sym, ap, ap₂, ◌∙◌, subst, append-nil, append_assoc, arith}
use Rattle.std.specs.Prelude.{◌==◌, ◌&&◌, ◌||◌, not, nat_lt, nat_le, is_some, is_none, slice_set}
use Rattle.std.specs.List.{list_all, list_any}
use Rattle.std.specs.Option.{option_map_or}
use Rattle.std.proofs.lemmas.Bool.Decides.{nat_tests}
use Rattle.std.proofs.lemmas.List.{length-set, length-reverse}
use Rattle.std.proofs.lemmas.Option.{same_Some}
use Rattle.msg_names.proofs.TestLemmas.{both, neither, not_false, same_number, other_number}
use Rattle.msg_names.proofs.ClassRefLemmas.{same_class-is}
use Rattle.msg_names.specs.declared.value.ClassRef.{ClassRef}
use Rattle.msg_names.specs.declared.value.ImpRef.{ImpRef}
use Rattle.msg_names.specs.declared.value.Selector.{Selector}
use Rattle.msg_names.specs.ClassRef.{same_class}
use Rattle.msg_names.specs.Number.{selector_number, selector_of, imp_number, imp_ref_of}
use Rattle.msg_tables.specs.declared.change.Change.{Change}
use Rattle.msg_tables.specs.declared.change.Change.TheVariants.{Add, Replace, SetImp, Exchange, Attach, AddClass, Remove, DisposeClass}
use Rattle.msg_tables.specs.declared.fault.ChangeFault.{ChangeFault}
use Rattle.msg_tables.specs.declared.presence.Presence.{Presence}
use Rattle.msg_tables.specs.After.{of_class, of_meta, row, rows_at, set_own, set_method, without_own, without_class, rows_after, supers_after, table_after}
use Rattle.msg_tables.specs.Chain.{presence_of, is_present, is_directly_below, has_subclass, chain_of}
use Rattle.msg_tables.specs.Log.{table_after_all}
use Rattle.msg_tables.specs.Origin.{OriginView, class_total, lacks_imp, misfits_in, unlike_in}
use Rattle.msg_tables.specs.Refusal.{least_change_fault}
use Rattle.msg_rows.specs.RowList.{or_else}
use Rattle.msg_tables.specs.Rows.{Row, ClassTable, is_at, own, holder_at, lookup_at}
use Rattle.msg_tables.specs.Undo.{are_numbered, covering, covering_all, count_at, fits_in, is_numbered, old_at, removing, undo}
use Rattle.msg_tables.proofs.AgainstLemmas.{May, MayAll, against, absent, absent_superclass, may_all-append}
use Rattle.msg_tables.proofs.ImpsLemmas.{count-all, count-without}
use Rattle.msg_tables.proofs.AlikeLemmas.{SameRows, length-alike}
use Rattle.msg_tables.proofs.ClassLemmas.{Grounded, made-other, made-same, made-stays, gone-other, gone-same, gone-stays}
use Rattle.msg_tables.proofs.KeptLemmas.{Kept, Makes, Leaves, makes, leaves, kept-after, any-fits, held-sound, held-there, is_sound_row, own-sound, fits-parts, fits-both, fits-number}
use Rattle.msg_tables.proofs.LimitLemmas.{none_holds}
use Rattle.msg_tables.proofs.OrderLemmas.{present-inside}
use Rattle.msg_tables.proofs.OwnLemmas.{own-append, some-set_own, lookup-holder}
use Rattle.msg_tables.proofs.LawLemmas.{some-set_method}
use Rattle.msg_tables.proofs.WayBackLemmas.{attached-last, comes-again, covered, covered-all, here-at, present-is, remove-last, removed, rows_of, same-parts, selector-is, set-twice}

lt-not : (n m : ℕ) → m ≤ n → nat_lt n m ≡ false
lt-not n m e = grind (arith, nat_tests, e)

three : (a b c : Bool) (f g h : ChangeFault) → a ≡ false → b ≡ false → c ≡ false → least_change_fault ((a, f) ∷ (b, g) ∷ (c, h) ∷ []) ≡ None
three a b c f g h x y z = rw (x, y, z) refl

four : (a b c d : Bool) (f g h i : ChangeFault) → a ≡ false → b ≡ false → c ≡ false → d ≡ false → least_change_fault ((a, f) ∷ (b, g) ∷ (c, h) ∷ (d, i) ∷ []) ≡ None
four a b c d f g h i x y z w = rw (x, y, z, w) refl

not-true : (b : Bool) → b ≡ true → not b ≡ false
not-true b e = rw e refl

module _ (o : OriginView) (t : ClassTable) where
  pub may-remove : (c : ClassRef) (s : Selector) → is_present t.supers c.class ≡ true → unlike_in o.counts (selector_number s) (selector_number s) ≡ false → is_some (own t.rows c (selector_number s)) ≡ true
      → length t.rows ≤ o.limits.rows → May o t (Remove c s)
  may-remove c s here numbered has few = four _ _ _ _ _ _ _ _ (not-true _ here) numbered (not-true _ has) (lt-not o.limits.rows (length t.rows + 0) (omega (arith, few)))

  pub may-replace : (c : ClassRef) (s : Selector) (i : ℕ) → is_present t.supers c.class ≡ true → fits_in o.counts (selector_number s, i) ≡ true → is_some (own t.rows c (selector_number s)) ≡ true
      → length t.rows ≤ o.limits.rows → May o t (Replace c s (imp_ref_of i))
  may-replace c s i here fits has few =
      let parts = fits-parts o.counts (selector_number s, i) fits in
      four _ _ _ _ _ _ _ _ (not-true _ here) parts.0 parts.1 (ap (λ b. nat_lt o.limits.rows (length t.rows + cond b 0 1)) has ∙ lt-not o.limits.rows (length t.rows + 0) (omega (arith, few)))

  may-attach : (k : ℕ) (ms cs : List (ℕ × ℕ)) → is_present t.supers k ≡ true → list_any (λ m. lacks_imp o.counts m.1) (ms ++ cs) ≡ false → list_any (λ m. misfits_in o.counts m.0 m.1) (ms ++ cs) ≡ false
      → length t.rows + length (ms ++ cs) ≤ o.limits.rows → May o t (Attach k ms cs)
  may-attach k ms cs here imp args few = four _ _ _ _ _ _ _ _ (not-true _ here) imp args (lt-not o.limits.rows (length t.rows + length (ms ++ cs)) few)

  pub may-cover : (c : ClassRef) (s i : ℕ) → is_present t.supers c.class ≡ true → fits_in o.counts (s, i) ≡ true → length t.rows + 1 ≤ o.limits.rows → May o t (covering c s i)
  may-cover c s i here fits few = step c.meta
    where
      or-none : (b : Bool) → b ≡ false → (b || false) ≡ false
      or-none b e = rw e refl

      step : (b : Bool) → May o t (cond b (Attach c.class [] ((s, i) ∷ [])) (Attach c.class ((s, i) ∷ []) []))
      step true = let parts = fits-parts o.counts (s, i) fits in may-attach c.class [] ((s, i) ∷ []) here (or-none (lacks_imp o.counts i) parts.0) (or-none (misfits_in o.counts s i) parts.1) few
      step false = let parts = fits-parts o.counts (s, i) fits in may-attach c.class ((s, i) ∷ []) [] here (or-none (lacks_imp o.counts i) parts.0) (or-none (misfits_in o.counts s i) parts.1) few

-- each of some rows is added again
pub may-cover_all : (o : OriginView) (supers : List (Option Presence)) (c : ClassRef) (rows rs : List Row) → is_present supers c.class ≡ true → list_all (is_sound_row o supers) rs ≡ true
    → length rows + length (rows_of c rs) ≤ o.limits.rows → MayAll o (record { supers = supers; rows = rows }) (covering_all c rs)
may-cover_all o supers c rows [] here all few = tt
may-cover_all o supers c rows (r ∷ rs) here all few =
    let parts = both (is_sound_row o supers r) (list_all (is_sound_row o supers) rs) all in
    let fits = (both (is_present supers r.class.class) (fits_in o.counts (r.sel, r.imp)) parts.0).1 in
    step (same_class r.class c) few fits (may-cover_all o supers c rows rs here parts.1) (may-cover_all o supers c (rows ++ record { class = c; sel = r.sel; imp = r.imp } ∷ []) rs here parts.1)
  where
    new : Row
    new = record { class = c; sel = r.sel; imp = r.imp }

    step : (b : Bool) → length rows + length (cond b (record { class = c; sel = r.sel; imp = r.imp } ∷ rows_of c rs) (rows_of c rs)) ≤ o.limits.rows → fits_in o.counts (r.sel, r.imp) ≡ true
        → (length rows + length (rows_of c rs) ≤ o.limits.rows → MayAll o (record { supers = supers; rows = rows }) (covering_all c rs))
        → (length (rows ++ record { class = c; sel = r.sel; imp = r.imp } ∷ []) + length (rows_of c rs) ≤ o.limits.rows → MayAll o (record { supers = supers; rows = rows ++ record { class = c; sel = r.sel; imp = r.imp } ∷ [] }) (covering_all c rs))
        → MayAll o (record { supers = supers; rows = rows }) (cond b (covering c r.sel r.imp ∷ covering_all c rs) (covering_all c rs))
    step true few fits skip rest = (
      may-cover o (record { supers = supers; rows = rows }) c r.sel r.imp here fits (omega (arith, few)),
      subst (λ t. MayAll o t (covering_all c rs)) (sym (covered (record { supers = supers; rows = rows }) c r.sel r.imp))
          (rest (let n = length-append rows (record { class = c; sel = r.sel; imp = r.imp } ∷ []) in omega (arith, n, few))),
    )
    step false few fits skip rest = skip few

-- methods that were attached are removed, one after another
pub may-remove_all : (o : OriginView) (supers : List (Option Presence)) (rows : List Row) (c : ClassRef) (ms : List (ℕ × ℕ)) → Kept o (record { supers = supers; rows = rows ++ rows_at c (reverse ms) }) → is_present supers c.class ≡ true
    → list_all is_numbered ms ≡ true → list_all (fits_in o.counts) ms ≡ true → MayAll o (record { supers = supers; rows = rows ++ rows_at c (reverse ms) }) (removing c ms)
may-remove_all o supers rows c [] kept here numbered fits = tt
may-remove_all o supers rows c (m ∷ ms) kept here numbered fits =
    let number = both (is_numbered m) (list_all is_numbered ms) numbered in
    let fit = both (fits_in o.counts m) (list_all (fits_in o.counts) ms) fits in
    let same = selector-is m.0 number.0 in
    let args = (fits-parts o.counts m fit.0).1 in
    let may = may-remove o (record { supers = supers; rows = rows ++ rows_at c (reverse (m ∷ ms)) }) c (selector_of m.0) here
    (subst (λ n. unlike_in o.counts n n ≡ false) (sym same) (fits-number o.counts m.0 m.1 args))
    (subst (λ n. is_some (own (rows ++ rows_at c (reverse (m ∷ ms))) c n) ≡ true) (sym same) (last-own m ms)) kept.few in
    let next = remove-last supers rows c m ms number.0 in
    (may, subst (λ t. MayAll o t (removing c ms)) (sym next) (may-remove_all o supers rows c ms (subst (Kept o) next (kept-after o _ _ kept may)) here number.1 fit.1))
  where
    last-own : (m : ℕ × ℕ) (ms : List (ℕ × ℕ)) → is_some (own (rows ++ rows_at c (reverse (m ∷ ms))) c m.0) ≡ true
    last-own m ms =
        ap (λ rs. is_some (own rs c m.0)) (attached-last rows c m ms)
        ∙ ap is_some (own-append (rows ++ rows_at c (reverse ms)) (record { class = c; sel = m.0; imp = m.1 } ∷ []) c m.0)
        ∙ ap (λ b. is_some (or_else (cond b (Some m.1) None) (own (rows ++ rows_at c (reverse ms)) c m.0))) (here-at c m.0 m.1)

-- no class is directly below one that no class names
pub no_subclass-is : (supers : List (Option Presence)) (k : ℕ) → ((j e : ℕ) (p : Presence) → presence_of supers j ≡ Some p → p.superclass ≡ Some e → e ≢ k) → has_subclass supers k ≡ false
no_subclass-is [] k none = refl
no_subclass-is (x ∷ xs) k none = neither-is (is_directly_below k x) (has_subclass xs k) (first x (λ e p is up. none zero e p is up)) (no_subclass-is xs k (λ j e p is up. none (suc j) e p is up))
  where
    neither-is : (a b : Bool) → a ≡ false → b ≡ false → (a || b) ≡ false
    neither-is a b e f = rw (e, f) refl

    second : (d : Option ℕ) → ((e : ℕ) → d ≡ Some e → e ≢ k) → option_map_or (λ e. e == k) d false ≡ false
    second None none = refl
    second (Some e) none = step (e == k) refl
      where
        step : (b : Bool) → (e == k) ≡ b → b ≡ false
        step false f = refl
        step true f = absurd (none e refl (same_number e k f))

    first : (x : Option Presence) → ((e : ℕ) (p : Presence) → x ≡ Some p → p.superclass ≡ Some e → e ≢ k) → is_directly_below k x ≡ false
    first None none = refl
    first (Some p) none = second p.superclass (λ e up. none e p refl up)

pub kept-after_all : (o : OriginView) (t : ClassTable) (xs : List Change) → Kept o t → MayAll o t xs → Kept o (table_after_all t xs)
kept-after_all o t [] kept all = kept
kept-after_all o t (x ∷ xs) kept all = kept-after_all o (table_after t x) xs (kept-after o t x kept all.0) all.1

-- ---- own rows that are there

added-own : (rows : List Row) (c : ClassRef) (s : Selector) (i : ImpRef) → is_some (own (rows ++ row c s i ∷ []) c (selector_number s)) ≡ true
added-own rows c s i =
    ap is_some (own-append rows (row c s i ∷ []) c (selector_number s)) ∙ ap (λ b. is_some (or_else (cond b (Some (imp_number i)) None) (own rows c (selector_number s)))) (here-at c (selector_number s) (imp_number i))

replaced-own : (rows : List Row) (c : ClassRef) (s : Selector) (i : ImpRef) → is_some (own (cond (is_some (own rows c (selector_number s))) (set_own c (selector_number s) (imp_number i) rows) (rows ++ row c s i ∷ [])) c (selector_number s)) ≡ true
replaced-own rows c s i = step (is_some (own rows c (selector_number s))) refl
  where
    step : (b : Bool) → is_some (own rows c (selector_number s)) ≡ b → is_some (own (cond b (set_own c (selector_number s) (imp_number i) rows) (rows ++ row c s i ∷ [])) c (selector_number s)) ≡ true
    step true e = some-set_own c c (selector_number s) (selector_number s) (imp_number i) rows ∙ e
    step false e = added-own rows c s i

some-else : (a b : Option ℕ) → is_some b ≡ true → is_some (or_else a b) ≡ true
some-else (Some i) b e = refl
some-else None b e = e

-- a replacement leaves own rows in place
stays-own : (rows : List Row) (d c : ClassRef) (v : ℕ) (s : Selector) (i : ImpRef) → is_some (own rows d v) ≡ true
    → is_some (own (cond (is_some (own rows c (selector_number s))) (set_own c (selector_number s) (imp_number i) rows) (rows ++ row c s i ∷ [])) d v) ≡ true
stays-own rows d c v s i e = step (is_some (own rows c (selector_number s)))
  where
    step : (b : Bool) → is_some (own (cond b (set_own c (selector_number s) (imp_number i) rows) (rows ++ row c s i ∷ [])) d v) ≡ true
    step true = some-set_own c d (selector_number s) v (imp_number i) rows ∙ e
    step false = ap is_some (own-append rows (row c s i ∷ []) d v) ∙ some-else (own (row c s i ∷ []) d v) (own rows d v) e

-- ---- a method gets its implementation again, at its place

-- the method is there, and could be
pub record StandsAgain (o : OriginView) (t : ClassTable) (p : ClassRef) (s : ℕ) (i : ℕ) : Type 0 where
  pub here : is_present t.supers p.class ≡ true
  pub fits : fits_in o.counts (s, i) ≡ true
  pub has : is_some (own t.rows p s) ≡ true

may-old : (o : OriginView) (t : ClassTable) (h : Option ClassRef) (s : Selector) (i : ℕ) → Kept o t → ((p : ClassRef) → h ≡ Some p → StandsAgain o t p (selector_number s) i) → MayAll o t (old_at h s i)
may-old o t None s i kept stands = tt
may-old o t (Some p) s i kept stands = let a = stands p refl in (may-replace o t p s i a.here a.fits a.has kept.few, tt)

again-old : (o : OriginView) (t : ClassTable) (h : Option ClassRef) (s : Selector) (i : ℕ) (p : ClassRef) (n j : ℕ) → StandsAgain o t p n j → StandsAgain o (table_after_all t (old_at h s i)) p n j
unfolding table_after
again-old o t None s i p n j a = a
again-old o t (Some q) s i p n j a = record { here = a.here; fits = a.fits; has = stays-own t.rows p q n s (imp_ref_of i) a.has }

-- ---- one change

module _ (o : OriginView) (t : ClassTable) (kept : Kept o t) where
  accept-add : (c : ClassRef) (s : Selector) (i : ImpRef) → May o t (Add c s i) → MayAll o (table_after t (Add c s i)) (undo t (Add c s i))
  unfolding table_after
  accept-add c s i e =
      let next = kept-after o t (Add c s i) kept e in (
        may-remove o (table_after t (Add c s i)) c s (not_false _ (none_holds (against false o t (Add c s i)) 0 e)) (fits-number o.counts (selector_number s) (imp_number i) (none_holds (against false o t (Add c s i)) 2 e))
            (added-own t.rows c s i) next.few,
        tt,
      )

  accept-replace : (c : ClassRef) (s : Selector) (i : ImpRef) → May o t (Replace c s i) → MayAll o (table_after t (Replace c s i)) (undo t (Replace c s i))
  unfolding table_after
  accept-replace c s i e = step (own t.rows c (selector_number s)) refl
    where
      next : Kept o (table_after t (Replace c s i))
      next = kept-after o t (Replace c s i) kept e

      here : is_present t.supers c.class ≡ true
      here = not_false _ (none_holds (against false o t (Replace c s i)) 0 e)

      step : (v : Option ℕ) → own t.rows c (selector_number s) ≡ v → MayAll o (table_after t (Replace c s i)) (option_map_or (λ old. Replace c s (imp_ref_of old)) v (Remove c s) ∷ [])
      step None is = (may-remove o (table_after t (Replace c s i)) c s here (fits-number o.counts (selector_number s) (imp_number i) (none_holds (against false o t (Replace c s i)) 2 e)) (replaced-own t.rows c s i) next.few, tt)
      step (Some old) is = (may-replace o (table_after t (Replace c s i)) c s old here (own-sound o t.supers t.rows c (selector_number s) old kept.rows is).1 (replaced-own t.rows c s i) next.few, tt)

  -- a method that was found gets its implementation again, if the same own rows are there
  stands-held : (u : ClassTable) → u.supers ≡ t.supers → ((p : ClassRef) (n : ℕ) → is_some (own u.rows p n) ≡ is_some (own t.rows p n)) → (c : ClassRef) (s : ℕ) (p : ClassRef) → holder_at t c s ≡ Some p → StandsAgain o u p s (lookup_at t c s)
  stands-held u supers same c s p held =
      let sound = held-sound o t kept c p s held in
      record {
        here = ap (λ supers. is_present supers p.class) supers ∙ sound.0;
        fits = sound.1;
        has = same p s ∙ sym (ap is_some (lookup-holder t.rows (chain_of t.supers c) s p held));
      }

  accept-set : (c : ClassRef) (s : Selector) (i : ImpRef) → May o t (SetImp c s i) → MayAll o (table_after t (SetImp c s i)) (undo t (SetImp c s i))
  unfolding table_after
  accept-set c s i e =
      let n = selector_number s in
      may-old o (table_after t (SetImp c s i)) (holder_at t c n) s (lookup_at t c n) (kept-after o t (SetImp c s i) kept e)
      (λ p held. stands-held (table_after t (SetImp c s i)) refl (λ q m. some-set_method (holder_at t c n) n (imp_number i) t.rows q m) c n p held)

  accept-exchange : (c d : ClassRef) (s u : Selector) → May o t (Exchange c s d u) → MayAll o (table_after t (Exchange c s d u)) (undo t (Exchange c s d u))
  unfolding table_after
  accept-exchange c d s u e =
      let n = selector_number s in
      let m = selector_number u in
      let after = table_after t (Exchange c s d u) in
      let next = kept-after o t (Exchange c s d u) kept e in
      let same = λ (q : ClassRef) (v : ℕ). some-set_method (holder_at t c n) n (lookup_at t d m) (set_method (holder_at t d m) m (lookup_at t c n) t.rows) q v ∙ some-set_method (holder_at t d m) m (lookup_at t c n) t.rows q v in
      let first = may-old o after (holder_at t d m) u (lookup_at t d m) next (λ q held. stands-held after refl same d m q held) in
      may_all-append o after (old_at (holder_at t d m) u (lookup_at t d m)) (old_at (holder_at t c n) s (lookup_at t c n)) first
      (may-old o (table_after_all after (old_at (holder_at t d m) u (lookup_at t d m))) (holder_at t c n) s (lookup_at t c n) (kept-after_all o after (old_at (holder_at t d m) u (lookup_at t d m)) next first)
      (λ p held. again-old o after (holder_at t d m) u (lookup_at t d m) p n (lookup_at t c n) (stands-held after refl same c n p held)))

  accept-attach : (k : ℕ) (ms cs : List (ℕ × ℕ)) → May o t (Attach k ms cs) → are_numbered (Attach k ms cs) ≡ true → MayAll o (table_after t (Attach k ms cs)) (undo t (Attach k ms cs))
  unfolding table_after
  accept-attach k ms cs e numbered =
      let number = both (list_all is_numbered ms) (list_all is_numbered cs) numbered in
      let here = not_false _ (none_holds (against false o t (Attach k ms cs)) 0 e) in
      let fits = any-fits o t kept ms cs (none_holds (against false o t (Attach k ms cs)) 1 e) (none_holds (against false o t (Attach k ms cs)) 2 e) in
      let next = kept-after o t (Attach k ms cs) kept e in
      let after = table_after t (Attach k ms cs) in
      let first = may-remove_all o t.supers (t.rows ++ rows_at (of_class k) (reverse ms)) (of_meta k) cs next here number.1 fits.1 in
      let left = removed t.supers (t.rows ++ rows_at (of_class k) (reverse ms)) (of_meta k) cs number.1 in
      let then = subst (Kept o) left (kept-after_all o after (removing (of_meta k) cs) next first) in
      may_all-append o after (removing (of_meta k) cs) (removing (of_class k) ms) first
      (subst (λ u. MayAll o u (removing (of_class k) ms)) (sym left) (may-remove_all o t.supers t.rows (of_class k) ms then here number.0 fits.0))

  accept-make : (k : ℕ) (d : Option ℕ) → May o t (AddClass k d) → MayAll o (table_after t (AddClass k d)) (undo t (AddClass k d))
  unfolding table_after
  accept-make k d e =
      let m = makes o t kept k d e in
      let after = slice_set t.supers k (Some (record { superclass = d })) in
      let few = kept.few in (
        three _ _ _ _ _ _ (not-true _ (ap is_some (made-same t.supers k d m.inside m.gone))) (lt-not o.limits.rows (length t.rows + 0) (omega (arith, few)))
            (or-none (nat_lt k (length o.superclasses)) (has_subclass after k) (unlisted (nat_lt k (length o.superclasses)) refl m.gone) (no_subclass-is after k (λ j f p is up. named j f p is up (j == k) refl m))),
        tt,
      )
    where
      or-none : (a b : Bool) → a ≡ false → b ≡ false → (a || b) ≡ false
      or-none a b x y = rw (x, y) refl

      unlisted : (b : Bool) → nat_lt k (length o.superclasses) ≡ b → is_present t.supers k ≡ false → b ≡ false
      unlisted false is gone = refl
      unlisted true is gone = let inside : k < length o.superclasses = grind (arith, nat_tests, is) in let there = kept.listed k inside in let clash : true ≡ false = sym there ∙ gone in cc

      apart : (f : ℕ) → is_present t.supers f ≡ true → is_present t.supers k ≡ false → f ≢ k
      apart f there gone same = let clash : true ≡ false = sym there ∙ ap (is_present t.supers) same ∙ gone in cc

      named : (j f : ℕ) (p : Presence) → presence_of (slice_set t.supers k (Some (record { superclass = d }))) j ≡ Some p → p.superclass ≡ Some f → (b : Bool) → (j == k) ≡ b → Makes o t kept k d → f ≢ k
      named j f p is up true same m =
          let here : presence_of (slice_set t.supers k (Some (record { superclass = d }))) k ≡ Some p = subst (λ i. presence_of (slice_set t.supers k (Some (record { superclass = d }))) i ≡ Some p) (same_number j k same) is in
          let made : Some (record { superclass = d }) ≡ Some p = sym (made-same t.supers k d m.inside m.gone) ∙ here in
          let of : d ≡ Some f = ap (λ (q : Presence). q.superclass) (same_Some (record { superclass = d }) p made) ∙ up in
          apart f (m.up f of) m.gone
      named j f p is up false other m =
          let before = kept.grounded.above j f p (sym (made-other t.supers k d m.inside m.gone j (other_number j k other)) ∙ is) up in
          apart f before.0 m.gone

  accept-remove : (c : ClassRef) (s : Selector) → May o t (Remove c s) → MayAll o (table_after t (Remove c s)) (undo t (Remove c s))
  unfolding table_after
  accept-remove c s e = step (own t.rows c (selector_number s)) refl
    where
      n : ℕ
      n = selector_number s

      step : (v : Option ℕ) → own t.rows c (selector_number s) ≡ v → MayAll o (table_after t (Remove c s)) (option_map_or (λ old. covering c (selector_number s) old ∷ []) v [])
      step None is = tt
      step (Some old) is =
          let rows = without_own c (selector_number s) t.rows in
          let same = length-alike _ _ (comes-again t.rows c (selector_number s) old is) in
          let more = length-append rows (record { class = c; sel = selector_number s; imp = old } ∷ []) in
          (may-cover o (table_after t (Remove c s)) c (selector_number s) old (not_false _ (none_holds (against false o t (Remove c s)) 0 e)) (own-sound o t.supers t.rows c (selector_number s) old kept.rows is).1 (let few = kept.few in omega (arith, same, more, few)), tt)

  accept-dispose : (k : ℕ) → May o t (DisposeClass k) → MayAll o (table_after t (DisposeClass k)) (undo t (DisposeClass k))
  unfolding table_after
  accept-dispose k e =
      let l = leaves o t kept k e in
      let here = present-is t.supers k l.here in
      subst (λ v. MayAll o (table_after t (DisposeClass k)) (option_map_or (λ (p : Presence). AddClass k p.superclass ∷ covering_all (of_class k) t.rows ++ covering_all (of_meta k) t.rows) v [])) (sym here.1) (again l here.0 here.1)
    where
      or-none : (a b : Bool) → a ≡ false → b ≡ false → (a || b) ≡ false
      or-none a b x y = rw (x, y) refl

      again : Leaves o t kept k → (p : Presence) → presence_of t.supers k ≡ Some p → MayAll o (table_after t (DisposeClass k)) (AddClass k p.superclass ∷ covering_all (of_class k) t.rows ++ covering_all (of_meta k) t.rows)
      again l p is =
          let gone = gone-same t.supers k l.inside in
          let made = slice_set (slice_set t.supers k None) k (Some (record { superclass = p.superclass })) in
          let inside : k < length (slice_set t.supers k None) = let n = length-set t.supers k None in let i = l.inside in omega (arith, n, i) in
          let present : is_present made k ≡ true = ap is_some (made-same (slice_set t.supers k None) k p.superclass inside (ap is_some gone)) in
          let back : made ≡ t.supers = set-twice t.supers k None (Some p) l.inside is in
          let sound = subst (λ supers. list_all (is_sound_row o supers) t.rows ≡ true) (sym back) kept.rows in
          let all = length-alike _ _ (same-parts k t.rows) in
          let first = length-append (without_class k t.rows ++ rows_of (of_class k) t.rows) (rows_of (of_meta k) t.rows) in
          let second = length-append (without_class k t.rows) (rows_of (of_class k) t.rows) in
          let few = kept.few in
          let comes = covered-all made (without_class k t.rows) (of_class k) t.rows in (
            three _ _ _ _ _ _ (or-none (nat_le (class_total o) k) (absent_superclass false o (slice_set t.supers k None) p.superclass) (numbered l.inside) (up p.superclass refl l))
                (lt-not o.limits.rows (length (without_class k t.rows) + 0) (omega (arith, all, first, second, few))) (ap (λ (o : Option Presence). not (not (is_some o))) gone),
            may_all-append o (record { supers = made; rows = without_class k t.rows }) (covering_all (of_class k) t.rows) (covering_all (of_meta k) t.rows)
                (may-cover_all o made (of_class k) (without_class k t.rows) t.rows present sound (omega (arith, all, first, second, few)))
                (subst (λ u. MayAll o u (covering_all (of_meta k) t.rows)) (sym comes)
                (may-cover_all o made (of_meta k) (without_class k t.rows ++ rows_of (of_class k) t.rows) t.rows present sound (omega (arith, all, first, few)))),
          )
        where
          numbered : k < length t.supers → nat_le (class_total o) k ≡ false
          numbered inside = let n = kept.classes in let few : k < class_total o = omega (arith, n, inside) in grind (arith, nat_tests, few)

          up : (d : Option ℕ) → p.superclass ≡ d → Leaves o t kept k → absent_superclass false o (slice_set t.supers k None) d ≡ false
          up None of l = refl
          up (Some f) of l =
              let above = kept.grounded.above k f p is of in
              let low = above.1 in
              not-true _ (gone-stays t.supers k f (λ same. let even = ap kept.grounded.rank same in absurd (omega (arith, low, even))) above.0)

pub accept-back : (o : OriginView) (t : ClassTable) (x : Change) → Kept o t → May o t x → are_numbered x ≡ true → MayAll o (table_after t x) (undo t x)
accept-back o t (Add c s i) kept e numbered = accept-add o t kept c s i e
accept-back o t (Replace c s i) kept e numbered = accept-replace o t kept c s i e
accept-back o t (SetImp c s i) kept e numbered = accept-set o t kept c s i e
accept-back o t (Exchange c s d u) kept e numbered = accept-exchange o t kept c d s u e
accept-back o t (Attach k ms cs) kept e numbered = accept-attach o t kept k ms cs e numbered
accept-back o t (AddClass k d) kept e numbered = accept-make o t kept k d e
accept-back o t (Remove c s) kept e numbered = accept-remove o t kept c s e
accept-back o t (DisposeClass k) kept e numbered = accept-dispose o t kept k e
