-- A way back writes no more entries than its list, and needs no memory if there is room for those.
use Rattle.std.proofs.Common.{◌≡◌, ◌<◌, ◌≤◌, ◌+◌, ◌⊎◌, ℕ, zero, suc, List, [], ◌∷◌, ◌++◌, take, length, length-append, Option, Some, None, Bool, true, false, cond, refl, sym, ap, ◌∙◌, subst, arith}
use Rattle.std.specs.Prelude.{◌==◌, ◌&&◌, nat_le}
use Rattle.std.proofs.lemmas.Bool.Decides.{nat_tests}
use Rattle.std.proofs.lemmas.List.{length-map}
use Rattle.std.specs.List.{list_all}
use Rattle.std.specs.Option.{option_map_or}
use Rattle.std.proofs.Common.{⊎_elim}
use Rattle.msg_names.specs.ClassRef.{same_class}
use Rattle.msg_names.specs.Number.{selector_number, selector_of, imp_ref_of}
use Rattle.msg_names.specs.declared.value.ClassRef.{ClassRef}
use Rattle.msg_names.specs.declared.value.Selector.{Selector}
use Rattle.msg_names.proofs.ClassRefLemmas.{same_class-is}
use Rattle.msg_names.proofs.TestLemmas.{both}
use Rattle.msg_tables.specs.After.{of_class, of_meta, table_after}
use Rattle.msg_tables.specs.Chain.{is_present, presence_of}
use Rattle.msg_tables.specs.ListLaws.{HoldsAtMost, IsMadeAt}
use Rattle.msg_tables.specs.Log.{Log, and_then, table, table_after_all}
use Rattle.msg_tables.specs.RoomLaws.{HaveRoomFor, LackRoomFor, room_in}
use Rattle.msg_tables.specs.Origin.{OriginView}
use Rattle.msg_tables.specs.Rows.{Row, ClassTable, own, holder_at, lookup_at}
use Rattle.msg_tables.specs.Several.{and_all}
use Rattle.msg_tables.specs.Undo.{AreAlike, are_numbered, count_at, covering, covering_all, fits_in, old_at, removing, undo, undo_all}
use Rattle.msg_tables.specs.declared.change.Change.{Change}
use Rattle.msg_tables.specs.declared.change.Change.TheVariants.{Add, Replace, SetImp, Exchange, Attach, AddClass, Remove, DisposeClass}
use Rattle.msg_tables.specs.declared.presence.Presence.{Presence}
use Rattle.msg_tables.proofs.AgainstLemmas.{May, MayAll, accepted-may_all}
use Rattle.msg_tables.proofs.KeptLemmas.{Kept, all-append, is_sound_row, kept-after, makes}
use Rattle.msg_tables.proofs.RoomBackLemmas.{holds-back}
use Rattle.msg_tables.proofs.SeveralLemmas.{table-and_all}
use Rattle.msg_tables.proofs.UndoLemmas.{after_all-append}
use Rattle.msg_tables.proofs.WayBackAllLemmas.{back-all, kept-at, numbered-parts}

-- ---- changes that write at most one entry

tells_one : Change → Bool
tells_one (Add c s i) = true
tells_one (Replace c s i) = true
tells_one (SetImp c s i) = false
tells_one (Exchange c s d u) = false
tells_one (Attach k ms cs) = nat_le (length ms + length cs) 1
tells_one (AddClass k d) = true
tells_one (Remove c s) = true
tells_one (DisposeClass k) = false

few-one : (t : ClassTable) (y : Change) → tells_one y ≡ true → length (undo t y) ≤ 1
unfolding tells_one
few-one t (Add c s i) e = omega arith
few-one t (Replace c s i) e = omega arith
few-one t (SetImp c s i) e = cc
few-one t (Exchange c s d u) e = cc
few-one t (Attach k ms cs) e =
    let all = length-append (removing (of_meta k) cs) (removing (of_class k) ms) in
    let own = length-map ms (λ (m : ℕ × ℕ). Remove (of_class k) (selector_of m.0)) in
    let meta = length-map cs (λ (m : ℕ × ℕ). Remove (of_meta k) (selector_of m.0)) in
    let few : length ms + length cs ≤ 1 = least (length ms + length cs) e in
    omega (arith, all, own, meta, few)
  where
    least : (n : ℕ) → nat_le n 1 ≡ true → n ≤ 1
    least n f = grind (arith, nat_tests, f)
few-one t (AddClass k d) e = omega arith
few-one t (Remove c s) e = step (own t.rows c (selector_number s))
  where
    step : (o : Option ℕ) → length (option_map_or (λ old. covering c (selector_number s) old ∷ []) o []) ≤ 1
    step None = omega arith
    step (Some i) = omega arith
few-one t (DisposeClass k) e = cc

-- each of a list does, at the tables before it
abbrev FewAll : ClassTable → List Change → Type 0
FewAll t [] = Unit {0}
FewAll t (y ∷ ys) = (length (undo t y) ≤ 1) × FewAll (table_after t y) ys

few-simple : (t : ClassTable) (ys : List Change) → list_all tells_one ys ≡ true → FewAll t ys
few-simple t [] e = tt
few-simple t (y ∷ ys) e = let parts = both (tells_one y) (list_all tells_one ys) e in (few-one t y parts.0, few-simple (table_after t y) ys parts.1)

few-append : (t : ClassTable) (xs ys : List Change) → FewAll t xs → FewAll (table_after_all t xs) ys → FewAll t (xs ++ ys)
few-append t [] ys first second = second
few-append t (x ∷ xs) ys first second = (first.0, few-append (table_after t x) xs ys first.1 second)

few-length : (t : ClassTable) (ys : List Change) (k : ℕ) → FewAll t ys → length (undo_all t (take k ys)) ≤ length ys
few-length t ys zero few = omega arith
few-length t [] (suc k) few = omega arith
few-length t (y ∷ ys) (suc k) few =
    let rest = few-length (table_after t y) ys k few.1 in
    let n = length-append (undo_all (table_after t y) (take k ys)) (undo t y) in
    let one = few.0 in
    omega (arith, rest, n, one)

-- ---- of a way back

simple-old : (h : Option ClassRef) (s : Selector) (i : ℕ) → list_all tells_one (old_at h s i) ≡ true
unfolding tells_one
simple-old None s i = refl
simple-old (Some p) s i = refl

simple-removing : (c : ClassRef) (ms : List (ℕ × ℕ)) → list_all tells_one (removing c ms) ≡ true
unfolding tells_one
simple-removing c [] = refl
simple-removing c (m ∷ ms) = simple-removing c ms

simple-covering : (c : ClassRef) (s i : ℕ) → tells_one (covering c s i) ≡ true
unfolding tells_one
simple-covering c s i = step c.meta
  where
    step : (b : Bool) → tells_one (cond b (Attach c.class [] ((s, i) ∷ [])) (Attach c.class ((s, i) ∷ []) [])) ≡ true
    step true = refl
    step false = refl

simple-covering_all : (c : ClassRef) (rs : List Row) → list_all tells_one (covering_all c rs) ≡ true
simple-covering_all c [] = refl
simple-covering_all c (r ∷ rs) = step (same_class r.class c) (simple-covering_all c rs)
  where
    step : (b : Bool) → list_all tells_one (covering_all c rs) ≡ true → list_all tells_one (cond b (covering c r.sel r.imp ∷ covering_all c rs) (covering_all c rs)) ≡ true
    step true rest = rw (simple-covering c r.sel r.imp) rest
    step false rest = rest

count-covering : (c : ClassRef) (rs : List Row) → length (covering_all c rs) ≡ count_at (λ d. same_class d c) rs
count-covering c [] = refl
count-covering c (r ∷ rs) = step (same_class r.class c) (count-covering c rs)
  where
    step : (b : Bool) → length (covering_all c rs) ≡ count_at (λ d. same_class d c) rs → length (cond b (covering c r.sel r.imp ∷ covering_all c rs) (covering_all c rs)) ≡ cond b 1 0 + count_at (λ d. same_class d c) rs
    step true e = omega (arith, e)
    step false e = omega (arith, e)

-- no row is at a class that isn't present
count-absent : (o : OriginView) (supers : List (Option Presence)) (c : ClassRef) (rs : List Row) → is_present supers c.class ≡ false → list_all (is_sound_row o supers) rs ≡ true → count_at (λ d. same_class d c) rs ≡ 0
count-absent o supers c [] gone sound = refl
count-absent o supers c (r ∷ rs) gone sound =
    let parts = both (is_sound_row o supers r) (list_all (is_sound_row o supers) rs) sound in
    let here = both (is_present supers r.class.class) (fits_in o.counts (r.sel, r.imp)) parts.0 in
    step (same_class r.class c) refl here.0 (count-absent o supers c rs gone parts.1)
  where
    step : (b : Bool) → same_class r.class c ≡ b → is_present supers r.class.class ≡ true → count_at (λ d. same_class d c) rs ≡ 0 → cond b 1 0 + count_at (λ d. same_class d c) rs ≡ 0
    step true e there rest = let clash = sym there ∙ ap (λ (d : ClassRef). is_present supers d.class) (same_class-is r.class c e) ∙ gone in cc
    step false e there rest = omega (arith, rest)

-- a class that was made has no rows after what came after it was taken back
few-dispose : (o : OriginView) (t u : ClassTable) (k : ℕ) (d : Option ℕ) → Kept o t → May o t (AddClass k d) → AreAlike u (table_after t (AddClass k d)) → length (undo u (DisposeClass k)) ≤ 1
unfolding table_after
few-dispose o t u k d kept may alike =
    let gone = (makes o t kept k d may).gone in
    let own = count-absent o t.supers (of_class k) t.rows gone kept.rows in
    let meta = count-absent o t.supers (of_meta k) t.rows gone kept.rows in
    let a = alike.count (λ c. same_class c (of_class k)) in
    let b = alike.count (λ c. same_class c (of_meta k)) in
    let x = count-covering (of_class k) u.rows in
    let y = count-covering (of_meta k) u.rows in
    let n = length-append (covering_all (of_class k) u.rows) (covering_all (of_meta k) u.rows) in
    step (presence_of u.supers k) (omega (arith, own, meta, a, b, x, y, n))
  where
    step : (v : Option Presence) → length (covering_all (of_class k) u.rows ++ covering_all (of_meta k) u.rows) ≡ 0
        → length (option_map_or (λ (p : Presence). AddClass k p.superclass ∷ covering_all (of_class k) u.rows ++ covering_all (of_meta k) u.rows) v []) ≤ 1
    step None none = omega arith
    step (Some p) none = omega (arith, none)

few-back : (o : OriginView) (t u : ClassTable) (x : Change) → Kept o t → May o t x → AreAlike u (table_after t x) → FewAll u (undo t x)
unfolding tells_one
few-back o t u (Add c s i) kept may alike = few-simple u (undo t (Add c s i)) refl
few-back o t u (Replace c s i) kept may alike = few-simple u (undo t (Replace c s i)) (step (own t.rows c (selector_number s)))
  where
    step : (v : Option ℕ) → list_all tells_one (option_map_or (λ old. Replace c s (imp_ref_of old)) v (Remove c s) ∷ []) ≡ true
    step None = refl
    step (Some i) = refl
few-back o t u (SetImp c s i) kept may alike = few-simple u (undo t (SetImp c s i)) (simple-old (holder_at t c (selector_number s)) s (lookup_at t c (selector_number s)))
few-back o t u (Exchange c s d v) kept may alike =
    few-simple u (undo t (Exchange c s d v))
    (all-append tells_one (old_at (holder_at t d (selector_number v)) v (lookup_at t d (selector_number v))) (old_at (holder_at t c (selector_number s)) s (lookup_at t c (selector_number s)))
    (simple-old (holder_at t d (selector_number v)) v (lookup_at t d (selector_number v))) (simple-old (holder_at t c (selector_number s)) s (lookup_at t c (selector_number s))))
few-back o t u (Attach k ms cs) kept may alike = few-simple u (undo t (Attach k ms cs)) (all-append tells_one (removing (of_meta k) cs) (removing (of_class k) ms) (simple-removing (of_meta k) cs) (simple-removing (of_class k) ms))
few-back o t u (AddClass k d) kept may alike = (few-dispose o t u k d kept may alike, tt)
few-back o t u (Remove c s) kept may alike = few-simple u (undo t (Remove c s)) (step (own t.rows c (selector_number s)))
  where
    step : (v : Option ℕ) → list_all tells_one (option_map_or (λ old. covering c (selector_number s) old ∷ []) v []) ≡ true
    step None = refl
    step (Some old) = rw (simple-covering c (selector_number s) old) refl
few-back o t u (DisposeClass k) kept may alike = few-simple u (undo t (DisposeClass k)) (step (presence_of t.supers k))
  where
    step : (v : Option Presence) → list_all tells_one (option_map_or (λ (p : Presence). AddClass k p.superclass ∷ covering_all (of_class k) t.rows ++ covering_all (of_meta k) t.rows) v []) ≡ true
    step None = refl
    step (Some p) = all-append tells_one (covering_all (of_class k) t.rows) (covering_all (of_meta k) t.rows) (simple-covering_all (of_class k) t.rows) (simple-covering_all (of_meta k) t.rows)

few-all : (o : OriginView) (t : ClassTable) (xs : List Change) → Kept o t → MayAll o t xs → list_all are_numbered xs ≡ true → FewAll (table_after_all t xs) (undo_all t xs)
few-all o t [] kept may numbered = tt
few-all o t (x ∷ xs) kept may numbered =
    let parts = numbered-parts x xs numbered in
    let next = table_after t x in
    let then = kept-after o t x kept may.0 in
    few-append (table_after_all next xs) (undo_all next xs) (undo t x) (few-all o next xs then may.1 parts.1)
    (few-back o t (table_after_all (table_after_all next xs) (undo_all next xs)) x kept may.0 (back-all o next xs then may.1 parts.1))

-- ---- of logs

pub writes-no-more : (h : Log) (xs : List Change) (k : ℕ) → IsMadeAt h xs → length (undo_all (table (and_all h xs)) (take k (undo_all (table h) xs))) ≤ length (undo_all (table h) xs)
writes-no-more h xs k is =
    let few = few-all h.origin (table h) xs (kept-at h is.sound is.fit is.log) (accepted-may_all h xs is.accepted) is.numbered in
    few-length (table (and_all h xs)) (undo_all (table h) xs) k (subst (λ t. FewAll t (undo_all (table h) xs)) (sym (table-and_all h xs)) few)

-- what holds at all times holds at those before one
held-front : (n : ℕ) (c : ClassRef) (h : Log) (xs : List Change) (k : ℕ) → HoldsAtMost n c h xs → HoldsAtMost n c h (take k xs)
held-front n c h [] zero holds = holds
held-front n c h [] (suc k) holds = holds
held-front n c h (x ∷ xs) zero holds = holds.0
held-front n c h (x ∷ xs) (suc k) holds = (holds.0, held-front n c (and_then h x) xs k holds.1)

pub wants-none : (h : Log) (xs : List Change) (rooms : List ℕ) (room k : ℕ) → IsMadeAt h xs → HaveRoomFor rooms h xs → length (undo_all (table h) xs) ≤ room → LackRoomFor rooms room (and_all h xs) (take k (undo_all (table h) xs)) → ⊥
wants-none h xs rooms room k is held few wants =
    ⊎_elim
    (λ (entries : room < length (undo_all (table (and_all h xs)) (take k (undo_all (table h) xs)))). absurd (let no = writes-no-more h xs k is in omega (arith, no, few, entries)))
    (λ (rows : (c : ClassRef) × (HoldsAtMost (room_in rooms c) c (and_all h xs) (take k (undo_all (table h) xs)) → ⊥)).
    let (c, too) = rows in
    too (held-front (room_in rooms c) c (and_all h xs) (undo_all (table h) xs) k (holds-back c (room_in rooms c) h xs is (held c))))
    wants
