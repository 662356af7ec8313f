-- What a journal describes is taken back.
use Rattle.std.proofs.Common.{◌≡◌, ◌<◌, ◌≤◌, ◌+◌, ◌-◌, ℕ, zero, suc, List, [], ◌∷◌, ◌++◌, append-nil, append_assoc, length, length-append, take, Option, Some, None, option_map, Bool, true, false, cond, refl, sym, ap, ◌∙◌, subst, arith}
use Rattle.std.specs.Prelude.{slice_set, slice_index_or, ◌==◌, ◌&&◌, is_none, is_some}
use Rattle.std.proofs.lemmas.List.{get_or-set_same, length-set}
use Rattle.std.proofs.lemmas.Option.{same_Some}
use Rattle.std.proofs.Math.Seq.{take-append_seam}
use Rattle.msg_names.proofs.TestLemmas.{same_number, equal}
use Rattle.msg_names.specs.declared.value.ClassRef.{ClassRef}
use Rattle.msg_names.specs.declared.value.Selector.{Selector}
use Rattle.msg_names.specs.declared.value.ImpRef.{ImpRef}
use Rattle.msg_names.specs.ClassRef.{slot_of}
use Rattle.msg_names.specs.Number.{selector_number, imp_number, selector_of}
use Rattle.msg_tables.specs.declared.entry.Entry.{Entry}
use Rattle.msg_tables.specs.declared.entry.Entry.TheVariants.{Added, Rewrote, Removed, Made, Disposed}
use Rattle.msg_tables.specs.declared.presence.Presence.{Presence}
use Rattle.msg_tables.specs.After.{of_class, of_meta}
use Rattle.msg_tables.specs.Chain.{is_present, presence_of}
use Rattle.msg_tables.specs.Journal.{lists_before, supers_before, order_before, before_all, makes, added_all, AllFitBack, FitsBack, IsJournalOf}
use Rattle.msg_rows.specs.RowList.{or_else, HaveGrown, own_in, last_index, set_last, with_row_at, without_last, without_row}
use Rattle.msg_tables.specs.View.{TablesView, kept}
use Rattle.msg_tables.proofs.HoldsLemmas.{kept-other, class-apart}
use Rattle.msg_tables.proofs.ListedLemmas.{own_in-set_last}
use Rattle.msg_rows.proofs.PopLemmas.{without-added}
use Rattle.msg_rows.proofs.RowLemmas.{is_none-own_in, set_last-none}
use Rattle.msg_rows.proofs.RoomLemmas.{grown-on, grown-same}

-- ---- the entries, one after another

pub before-append : {A : Type 0} (f : Entry → A → A) (xs ys : List Entry) (a : A) → before_all f (xs ++ ys) a ≡ before_all f xs (before_all f ys a)
before-append f [] ys a = refl
before-append f (x ∷ xs) ys a = ap (f x) (before-append f xs ys a)

-- if there is room for what an entry gives back, more room is enough too
fit-more : (rooms more : List ℕ) (n m : ℕ) (lists : List (List (ℕ × ℕ))) (order : List ℕ) (e : Entry) → HaveGrown rooms more → n ≤ m → FitsBack rooms n lists order e → FitsBack more m lists order e
fit-more rooms more n m lists order (Added c s) grown same fit = tt
fit-more rooms more n m lists order (Rewrote c s i) grown same fit = tt
fit-more rooms more n m lists order (Removed c s i at) grown same fit = let here = grown.at (slot_of c) in (fit.0, omega (arith, fit.1, here))
fit-more rooms more n m lists order (Made k) grown same fit = tt
fit-more rooms more n m lists order (Disposed k d at) grown same fit = (fit.0, omega (arith, fit.1, same))

pub fit-all : (rooms more : List ℕ) (n m : ℕ) (lists : List (List (ℕ × ℕ))) (order : List ℕ) (es : List Entry) → HaveGrown rooms more → n ≤ m → AllFitBack rooms n lists order es → AllFitBack more m lists order es
fit-all rooms more n m lists order [] grown same fit = tt
fit-all rooms more n m lists order (e ∷ es) grown same fit =
    (fit-more rooms more n m (before_all lists_before (e ∷ es) lists) (before_all order_before (e ∷ es) order) e grown same fit.0, fit-all rooms more n m lists order es grown same fit.1)

pub fit-append : (rooms : List ℕ) (n : ℕ) (lists : List (List (ℕ × ℕ))) (order : List ℕ) (xs ys : List Entry) → AllFitBack rooms n (before_all lists_before ys lists) (before_all order_before ys order) xs
    → AllFitBack rooms n lists order ys → AllFitBack rooms n lists order (xs ++ ys)
fit-append rooms n lists order [] ys first second = second
fit-append rooms n lists order (x ∷ xs) ys first second =
    let head = subst (λ ls. FitsBack rooms n ls (order_before x (before_all order_before xs (before_all order_before ys order))) x) (sym (ap (lists_before x) (before-append lists_before xs ys lists))) first.0 in
    let head' = subst (λ o. FitsBack rooms n (lists_before x (before_all lists_before (xs ++ ys) lists)) o x) (sym (ap (order_before x) (before-append order_before xs ys order))) head in
    (head', fit-append rooms n lists order xs ys first.1 second)

-- the classes stay the same if none was made
pub supers-kept : (e : Entry) (supers : List (Option Presence)) → makes e ≡ false → supers_before e supers ≡ supers
supers-kept (Added c n) supers none = refl
supers-kept (Rewrote c s i) supers none = refl
supers-kept (Removed c s i at) supers none = refl
supers-kept (Made k) supers none = cc
supers-kept (Disposed k d at) supers none = cc

-- and their number
pub supers-length : (es : List Entry) (supers : List (Option Presence)) → length (before_all supers_before es supers) ≡ length supers
supers-length [] supers = refl
supers-length (Added c n ∷ es) supers = supers-length es supers
supers-length (Rewrote c s i ∷ es) supers = supers-length es supers
supers-length (Removed c s i at ∷ es) supers = supers-length es supers
supers-length (Made k ∷ es) supers = length-set (before_all supers_before es supers) k None ∙ supers-length es supers
supers-length (Disposed k d at ∷ es) supers = length-set (before_all supers_before es supers) k (Some (record { superclass = d })) ∙ supers-length es supers

-- those before, and those after them
pub fit-front : (rooms : List ℕ) (n : ℕ) (lists : List (List (ℕ × ℕ))) (order : List ℕ) (xs ys : List Entry) → AllFitBack rooms n lists order (xs ++ ys) → AllFitBack rooms n (before_all lists_before ys lists) (before_all order_before ys order) xs
fit-front rooms n lists order [] ys all = tt
fit-front rooms n lists order (x ∷ xs) ys all =
    let head = subst (λ ls. FitsBack rooms n ls (order_before x (before_all order_before (xs ++ ys) order)) x) (ap (lists_before x) (before-append lists_before xs ys lists)) all.0 in
    let head' = subst (λ o. FitsBack rooms n (lists_before x (before_all lists_before xs (before_all lists_before ys lists))) o x) (ap (order_before x) (before-append order_before xs ys order)) head in
    (head', fit-front rooms n lists order xs ys all.1)

pub fit-back : (rooms : List ℕ) (n : ℕ) (lists : List (List (ℕ × ℕ))) (order : List ℕ) (xs ys : List Entry) → AllFitBack rooms n lists order (xs ++ ys) → AllFitBack rooms n lists order ys
fit-back rooms n lists order [] ys all = all
fit-back rooms n lists order (x ∷ xs) ys all = fit-back rooms n lists order xs ys all.1

pub journal-append : (xs ys : List Entry) (old between new : TablesView) → IsJournalOf xs old between → IsJournalOf ys between new → IsJournalOf (xs ++ ys) old new
journal-append xs ys old between new first second = record {
  lists = before-append lists_before xs ys new.lists ∙ ap (before_all lists_before xs) second.lists ∙ first.lists;
  supers = before-append supers_before xs ys new.supers ∙ ap (before_all supers_before xs) second.supers ∙ first.supers;
  order = before-append order_before xs ys new.order ∙ ap (before_all order_before xs) second.order ∙ first.order;
  grown = grown-on old.rooms between.rooms new.rooms first.grown second.grown;
  room =
      let many : length between.supers ≡ length new.supers = sym (ap length second.supers) ∙ supers-length ys new.supers in
      let more = fit-all between.rooms new.rooms (length between.supers) (length new.supers) between.lists between.order xs second.grown (omega (arith, many)) first.room in
      let at = subst (λ ls. AllFitBack new.rooms (length new.supers) ls between.order xs) (sym second.lists) more in
      let at' = subst (λ o. AllFitBack new.rooms (length new.supers) (before_all lists_before ys new.lists) o xs) (sym second.order) at in
      fit-append new.rooms (length new.supers) new.lists new.order xs ys at' second.room;
}

-- nothing was written
pub journal-none : (t : TablesView) → IsJournalOf [] t t
journal-none t = record { lists = refl; supers = refl; order = refl; grown = grown-same t.rooms; room = tt }

-- ---- a list that is written at a place twice

pub set-twice : {A : Type 0} (xs : List A) (k : ℕ) (v w : A) → slice_set (slice_set xs k v) k w ≡ slice_set xs k w
set-twice [] k v w = refl
set-twice (x ∷ xs) zero v w = refl
set-twice (x ∷ xs) (suc k) v w = ap (λ ys. x ∷ ys) (set-twice xs k v w)

pub set-as_was : {A : Type 0} (xs : List A) (k : ℕ) (d : A) → slice_set xs k (slice_index_or xs k d) ≡ xs
set-as_was [] k d = refl
set-as_was (x ∷ xs) zero d = refl
set-as_was (x ∷ xs) (suc k) d = ap (λ ys. x ∷ ys) (set-as_was xs k d)

-- ---- rows that were added

pub back-added : (lists : List (List (ℕ × ℕ))) (c : ClassRef) (s : Selector) (m : ℕ × ℕ) → slot_of c < length lists → lists_before (Added c s) (slice_set lists (slot_of c) (kept lists c ++ m ∷ [])) ≡ lists
back-added lists c s m inside =
    let longer = slice_set lists (slot_of c) (kept lists c ++ m ∷ []) in
    let read : kept longer c ≡ kept lists c ++ m ∷ [] = get_or-set_same lists (slot_of c) (kept lists c ++ m ∷ []) [] inside in
    ap (λ rs. slice_set longer (slot_of c) (without_last 1 rs)) read
    ∙ ap (slice_set longer (slot_of c)) (without-added (kept lists c) (m ∷ []))
    ∙ set-twice lists (slot_of c) (kept lists c ++ m ∷ []) (kept lists c)
    ∙ set-as_was lists (slot_of c) []

-- several
pub back-added_all : (lists : List (List (ℕ × ℕ))) (c : ClassRef) (ms : List (ℕ × ℕ)) → slot_of c < length lists → before_all lists_before (added_all c ms) (slice_set lists (slot_of c) (kept lists c ++ ms)) ≡ lists
back-added_all lists c [] inside = ap (slice_set lists (slot_of c)) (append-nil (kept lists c)) ∙ set-as_was lists (slot_of c) []
back-added_all lists c (m ∷ ms) inside =
    let one = slice_set lists (slot_of c) (kept lists c ++ m ∷ []) in
    let read : kept one c ≡ kept lists c ++ m ∷ [] = get_or-set_same lists (slot_of c) (kept lists c ++ m ∷ []) [] inside in
    let all : slice_set lists (slot_of c) (kept lists c ++ m ∷ ms) ≡ slice_set one (slot_of c) (kept one c ++ ms) =
    ap (slice_set lists (slot_of c)) (sym (append_assoc (kept lists c) (m ∷ []) ms)) ∙ ap (λ rs. slice_set lists (slot_of c) (rs ++ ms)) (sym read)
    ∙ sym (set-twice lists (slot_of c) (kept lists c ++ m ∷ []) (kept one c ++ ms)) in
    let rest = back-added_all one c ms (omega (arith, inside, length-set lists (slot_of c) (kept lists c ++ m ∷ []))) in
    ap (λ ls. before_all lists_before (added_all c (m ∷ ms)) ls) all ∙ ap (lists_before (Added c (selector_of m.0))) rest ∙ back-added lists c (selector_of m.0) m inside

pub supers-added : (c : ClassRef) (ms : List (ℕ × ℕ)) (supers : List (Option Presence)) → before_all supers_before (added_all c ms) supers ≡ supers
supers-added c [] supers = refl
supers-added c (m ∷ ms) supers = supers-added c ms supers

pub order-added : (c : ClassRef) (ms : List (ℕ × ℕ)) (order : List ℕ) → before_all order_before (added_all c ms) order ≡ order
order-added c [] order = refl
order-added c (m ∷ ms) order = order-added c ms order

pub fit-added : (rooms : List ℕ) (n : ℕ) (lists : List (List (ℕ × ℕ))) (order : List ℕ) (c : ClassRef) (ms : List (ℕ × ℕ)) → AllFitBack rooms n lists order (added_all c ms)
fit-added rooms n lists order c [] = tt
fit-added rooms n lists order c (m ∷ ms) = (tt, fit-added rooms n lists order c ms)

-- of a class and of its metaclass
pub back-attached : (lists : List (List (ℕ × ℕ))) (k at : ℕ) (ms cs : List (ℕ × ℕ)) → at ≡ slot_of (of_class k) → at + 1 < length lists
    → before_all lists_before (added_all (of_class k) ms ++ added_all (of_meta k) cs) (slice_set (slice_set lists at (slice_index_or lists at [] ++ ms)) (at + 1) (slice_index_or lists (at + 1) [] ++ cs)) ≡ lists
back-attached lists k at ms cs here inside =
    let one = slice_set lists (slot_of (of_class k)) (kept lists (of_class k) ++ ms) in
    let beside : at + 1 ≡ slot_of (of_meta k) = omega arith in
    let room : slot_of (of_meta k) < length one = omega (arith, length-set lists (slot_of (of_class k)) (kept lists (of_class k) ++ ms)) in
    let same : kept one (of_meta k) ≡ kept lists (of_meta k) = kept-other lists (of_class k) (of_meta k) (kept lists (of_class k) ++ ms) (class-apart k) in
    let meta : before_all lists_before (added_all (of_meta k) cs) (slice_set one (slot_of (of_meta k)) (kept lists (of_meta k) ++ cs)) ≡ one =
    subst (λ rs. before_all lists_before (added_all (of_meta k) cs) (slice_set one (slot_of (of_meta k)) (rs ++ cs)) ≡ one) same (back-added_all one (of_meta k) cs room) in
    let own = back-added_all lists (of_class k) ms (omega arith) in
    before-append lists_before (added_all (of_class k) ms) (added_all (of_meta k) cs) (slice_set (slice_set lists at (slice_index_or lists at [] ++ ms)) (at + 1) (slice_index_or lists (at + 1) [] ++ cs))
    ∙ rw (beside, here, meta) own

-- ---- a row that was rewritten

none : (o : Option ℕ) → is_none o ≡ true → o ≡ None
none None e = refl
none (Some i) e = cc

set-none : (s i : ℕ) (ms : List (ℕ × ℕ)) → own_in s ms ≡ None → set_last s i ms ≡ ms
set-none s i ms e = sym (set_last-none s i ms (none (last_index s ms) (sym (is_none-own_in s ms) ∙ ap is_none e)))

pub set_last-back : (s i j : ℕ) (ms : List (ℕ × ℕ)) → own_in s ms ≡ Some j → set_last s j (set_last s i ms) ≡ ms
set_last-back s i j [] e = refl
set_last-back s i j (m ∷ ms) e = step (own_in s ms) refl (m.0 == s) refl (own_in s (set_last s i ms)) refl (own_in-set_last s s i ms) (set_last-back s i j ms) e
  where
    step : (o : Option ℕ) → own_in s ms ≡ o → (b : Bool) → (m.0 == s) ≡ b → (q : Option ℕ) → own_in s (set_last s i ms) ≡ q → is_some (own_in s (set_last s i ms)) ≡ is_some (own_in s ms)
        → (own_in s ms ≡ Some j → set_last s j (set_last s i ms) ≡ ms) → or_else o (cond b (Some m.1) None) ≡ Some j
        → cond (((cond (b && is_none o) (s, i) m).0 == s) && is_none q) (s, j) (cond (b && is_none o) (s, i) m) ∷ set_last s j (set_last s i ms) ≡ m ∷ ms
    step (Some k) f true g (Some l) h some rest e = rw g (ap (λ ys. m ∷ ys) (rest (f ∙ e)))
    step (Some k) f false g (Some l) h some rest e = rw g (ap (λ ys. m ∷ ys) (rest (f ∙ e)))
    step (Some k) f b g None h some rest e = let clash = sym (ap is_some h) ∙ some ∙ ap is_some f in cc
    step None f b g (Some l) h some rest e = let clash = sym (ap is_some h) ∙ some ∙ ap is_some f in cc
    step None f false g None h some rest e = cc
    step None f true g None h some rest e =
        let tail : set_last s j (set_last s i ms) ≡ ms = ap (set_last s j) (set-none s i ms f) ∙ set-none s j ms f in
        let sel = sym (same_number m.0 s g) in
        let imp = sym (same_Some m.1 j e) in
        let head : ◌≡◌ {A = ℕ × ℕ} (s, j) m = λ k. (sel k, imp k) in
        rw (equal s, tail) (ap (λ x. x ∷ ms) head)

pub back-rewrote : (lists : List (List (ℕ × ℕ))) (c : ClassRef) (sel : Selector) (imp : ImpRef) (i : ℕ) → slot_of c < length lists → own_in (selector_number sel) (kept lists c) ≡ Some (imp_number imp)
    → lists_before (Rewrote c sel imp) (slice_set lists (slot_of c) (set_last (selector_number sel) i (kept lists c))) ≡ lists
back-rewrote lists c sel imp i inside own =
    let s = selector_number sel in
    let now = slice_set lists (slot_of c) (set_last s i (kept lists c)) in
    let read : kept now c ≡ set_last s i (kept lists c) = get_or-set_same lists (slot_of c) (set_last s i (kept lists c)) [] inside in
    ap (λ rs. slice_set now (slot_of c) (set_last s (imp_number imp) rs)) read
    ∙ ap (slice_set now (slot_of c)) (set_last-back s i (imp_number imp) (kept lists c) own)
    ∙ set-twice lists (slot_of c) (set_last s i (kept lists c)) (kept lists c)
    ∙ set-as_was lists (slot_of c) []

-- ---- a class that was made

pub back-supers : (supers : List (Option Presence)) (k : ℕ) (p : Presence) → is_present supers k ≡ false → slice_set (slice_set supers k (Some p)) k None ≡ supers
back-supers supers k p absent =
    let was : presence_of supers k ≡ None = gone (presence_of supers k) absent in
    set-twice supers k (Some p) None ∙ ap (slice_set supers k) (sym was) ∙ set-as_was supers k None
  where
    gone : (o : Option Presence) → is_some o ≡ false → o ≡ None
    gone None e = refl
    gone (Some q) e = cc

pub back-order : (order : List ℕ) (k : ℕ) → order_before (Made k) (order ++ k ∷ []) ≡ order
back-order order k =
    let count : length (order ++ k ∷ []) - 1 ≡ length order = omega (arith, length-append order (k ∷ [])) in
    ap (λ n. take n (order ++ k ∷ [])) count ∙ take-append_seam order (k ∷ [])

-- ---- a row that was removed

put-at : (s : ℕ) (ms : List (ℕ × ℕ)) (sel : Selector) (imp : ImpRef) (at : ℕ) → selector_number sel ≡ s → last_index s ms ≡ Some at → own_in s ms ≡ Some (imp_number imp) → with_row_at at sel imp (without_row s ms) ≡ ms
put-at s [] sel imp at named last own = cc
put-at s (m ∷ ms) sel imp at named last own = step (last_index s ms) refl (own_in s ms) refl (m.0 == s) refl (is_none-own_in s ms) (λ p. put-at s ms sel imp p named) last own
  where
    step : (o : Option ℕ) → last_index s ms ≡ o → (q : Option ℕ) → own_in s ms ≡ q → (b : Bool) → (m.0 == s) ≡ b → is_none (own_in s ms) ≡ is_none (last_index s ms)
        → ((p : ℕ) → last_index s ms ≡ Some p → own_in s ms ≡ Some (imp_number imp) → with_row_at p sel imp (without_row s ms) ≡ ms)
        → or_else (option_map suc o) (cond b (Some 0) None) ≡ Some at → or_else q (cond b (Some m.1) None) ≡ Some (imp_number imp)
        → with_row_at at sel imp (cond (b && is_none q) ms (m ∷ without_row s ms)) ≡ m ∷ ms
    step (Some p) f (Some j) g b h same rest e own =
        let at-is : suc p ≡ at = same_Some (suc p) at e in
        let tail = rest p f (g ∙ own) in
        rw (← at-is) (no_last b tail)
      where
        no_last : (b : Bool) → with_row_at p sel imp (without_row s ms) ≡ ms → with_row_at (suc p) sel imp (cond (b && false) ms (m ∷ without_row s ms)) ≡ m ∷ ms
        no_last true tail = ap (λ ys. m ∷ ys) tail
        no_last false tail = ap (λ ys. m ∷ ys) tail
    step (Some p) f None g b h same rest e own = let clash = sym (ap is_none g) ∙ same ∙ ap is_none f in cc
    step None f (Some j) g b h same rest e own = let clash = sym (ap is_none g) ∙ same ∙ ap is_none f in cc
    step None f None g true h same rest e own =
        let at-is : 0 ≡ at = same_Some 0 at e in
        let sel-is = named ∙ sym (same_number m.0 s h) in
        let imp-is = sym (same_Some m.1 (imp_number imp) own) in
        let head : ◌≡◌ {A = ℕ × ℕ} (selector_number sel, imp_number imp) m = λ k. (sel-is k, imp-is k) in
        rw (← at-is) (ap (λ x. x ∷ ms) head)
    step None f None g false h same rest e own = cc

pub length-without_row : (s : ℕ) (ms : List (ℕ × ℕ)) (at : ℕ) → last_index s ms ≡ Some at → suc (length (without_row s ms)) ≡ length ms
length-without_row s [] at last = cc
length-without_row s (m ∷ ms) at last = step (last_index s ms) refl (own_in s ms) refl (m.0 == s) (is_none-own_in s ms) (length-without_row s ms) last
  where
    step : (o : Option ℕ) → last_index s ms ≡ o → (q : Option ℕ) → own_in s ms ≡ q → (b : Bool) → is_none (own_in s ms) ≡ is_none (last_index s ms) → ((p : ℕ) → last_index s ms ≡ Some p → suc (length (without_row s ms)) ≡ length ms)
        → or_else (option_map suc o) (cond b (Some 0) None) ≡ Some at → suc (length (cond (b && is_none q) ms (m ∷ without_row s ms))) ≡ length (m ∷ ms)
    step (Some p) f (Some j) g true same rest e = ap suc (rest p f)
    step (Some p) f (Some j) g false same rest e = ap suc (rest p f)
    step (Some p) f None g b same rest e = let clash = sym (ap is_none g) ∙ same ∙ ap is_none f in cc
    step None f (Some j) g b same rest e = let clash = sym (ap is_none g) ∙ same ∙ ap is_none f in cc
    step None f None g true same rest e = refl
    step None f None g false same rest e = cc

pub last-inside : (s : ℕ) (ms : List (ℕ × ℕ)) (at : ℕ) → last_index s ms ≡ Some at → at < length ms
last-inside s [] at last = cc
last-inside s (m ∷ ms) at last = step (last_index s ms) (m.0 == s) (last-inside s ms) last
  where
    step : (o : Option ℕ) (b : Bool) → ((p : ℕ) → o ≡ Some p → p < length ms) → or_else (option_map suc o) (cond b (Some 0) None) ≡ Some at → at < length (m ∷ ms)
    step (Some p) b rest e = let at-is : suc p ≡ at = same_Some (suc p) at e in let less = rest p refl in omega (arith, at-is, less)
    step None true rest e = let at-is : 0 ≡ at = same_Some 0 at e in omega (arith, at-is)
    step None false rest e = cc

pub back-removed : (lists : List (List (ℕ × ℕ))) (c : ClassRef) (sel : Selector) (imp : ImpRef) (at : ℕ) → slot_of c < length lists → own_in (selector_number sel) (kept lists c) ≡ Some (imp_number imp) → last_index (selector_number sel) (kept lists c) ≡ Some at
    → lists_before (Removed c sel imp at) (slice_set lists (slot_of c) (without_row (selector_number sel) (kept lists c))) ≡ lists
back-removed lists c sel imp at inside own last =
    let s = selector_number sel in
    let now = slice_set lists (slot_of c) (without_row s (kept lists c)) in
    let read : kept now c ≡ without_row s (kept lists c) = get_or-set_same lists (slot_of c) (without_row s (kept lists c)) [] inside in
    ap (λ rs. slice_set now (slot_of c) (with_row_at at sel imp rs)) read
    ∙ ap (slice_set now (slot_of c)) (put-at s (kept lists c) sel imp at refl last own)
    ∙ set-twice lists (slot_of c) (without_row s (kept lists c)) (kept lists c)
    ∙ set-as_was lists (slot_of c) []
