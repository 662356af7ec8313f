-- The changes that take a list of changes back.
use Rattle.std.proofs.Common.{◌≡◌, ◌<◌, ◌≤◌, ◌+◌, ℕ, zero, suc, List, [], ◌∷◌, ◌++◌, length, length-append, Option, Some, None, Bool, true, refl, sym, ap, ◌∙◌, subst, arith}
use Rattle.std.specs.Prelude.{◌&&◌, All, is_some, sum_by}
use Rattle.std.specs.List.{list_all}
use Rattle.std.specs.Option.{option_map_or}
use Rattle.msg_names.specs.ClassRef.{above}
use Rattle.std.proofs.lemmas.List.Elements.{All-head, All-tail}
use Rattle.msg_names.proofs.TestLemmas.{both}
use Rattle.msg_names.specs.declared.value.ClassRef.{ClassRef}
use Rattle.msg_tables.specs.declared.change.Change.{Change}
use Rattle.msg_tables.specs.declared.presence.Presence.{Presence}
use Rattle.msg_tables.specs.After.{of_class, rows_at, list_rows, opened_supers, opening_table, table_after}
use Rattle.msg_tables.specs.Chain.{presence_of, is_present, steps_of, super_of}
use Rattle.msg_tables.specs.ListLaws.{IsMadeAt}
use Rattle.msg_tables.specs.Log.{Log, empty, and_then, table, table_after_all, lookup}
use Rattle.msg_tables.specs.Methods.{MethodsOf}
use Rattle.msg_tables.specs.Order.{IsOrder}
use Rattle.msg_tables.specs.Origin.{OriginView, IsSound, IsSoundList, row_total}
use Rattle.msg_tables.specs.Refusal.{AreAccepted, IsLog, refusal}
use Rattle.msg_tables.specs.Rows.{Row, ClassTable}
use Rattle.msg_tables.specs.Several.{and_all, refused_from}
use Rattle.msg_tables.specs.Undo.{AreAlike, AreFit, are_numbered, fits_in, undo, undo_all}
use Rattle.msg_order.proofs.ExistLemmas.{order_exists}
use Rattle.msg_tables.proofs.AcceptBackLemmas.{accept-back, kept-after_all}
use Rattle.msg_tables.proofs.AgainstLemmas.{May, MayAll, accepted-may_all, may_all-accepted, may_all-alike, may_all-append}
use Rattle.msg_tables.proofs.AlikeLemmas.{alike-after_all, alike-is, alike-refl, alike-sym, alike-then, lookup-alike}
use Rattle.msg_tables.proofs.ClassLemmas.{Grounded}
use Rattle.msg_tables.proofs.HoldsLemmas.{length-rows_at}
use Rattle.msg_tables.proofs.KeptLemmas.{Kept, all-append, is_sound_row, kept-after, rows_at-sound}
use Rattle.msg_tables.proofs.ListedOrderLemmas.{length-opened, opened-is_present, order-listed}
use Rattle.msg_tables.proofs.OpeningLemmas.{length-list_rows}
use Rattle.msg_tables.proofs.OrderLemmas.{super-fewer, super-present}
use Rattle.msg_tables.proofs.SeveralLemmas.{accepted-none, table-and_all}
use Rattle.msg_tables.proofs.UndoLemmas.{after_all-append}
use Rattle.msg_tables.proofs.WayBackLemmas.{back}

-- ---- of tables

pub numbered-parts : (x : Change) (xs : List Change) → list_all are_numbered (x ∷ xs) ≡ true → (are_numbered x ≡ true) × (list_all are_numbered xs ≡ true)
numbered-parts x xs e = both (are_numbered x) (list_all are_numbered xs) e

-- the tables are as they were
pub back-all : (o : OriginView) (t : ClassTable) (xs : List Change) → Kept o t → MayAll o t xs → list_all are_numbered xs ≡ true → AreAlike (table_after_all (table_after_all t xs) (undo_all t xs)) t
back-all o t [] kept all numbered = alike-refl t
back-all o t (x ∷ xs) kept all numbered =
    let parts = numbered-parts x xs numbered in
    let next = table_after t x in
    let rest = back-all o next xs (kept-after o t x kept all.0) all.1 parts.1 in
    let first = back o t x kept all.0 parts.0 in
    alike-then _ _ t (alike-is _ _ (after_all-append (table_after_all next xs) (undo_all next xs) (undo t x)))
    (alike-then _ _ t (alike-after_all (table_after_all (table_after_all next xs) (undo_all next xs)) next (undo t x) rest) first)

-- each change of a way back is accepted
pub accept-all : (o : OriginView) (t : ClassTable) (xs : List Change) → Kept o t → MayAll o t xs → list_all are_numbered xs ≡ true → MayAll o (table_after_all t xs) (undo_all t xs)
accept-all o t [] kept all numbered = tt
accept-all o t (x ∷ xs) kept all numbered =
    let parts = numbered-parts x xs numbered in
    let next = table_after t x in
    let then = kept-after o t x kept all.0 in
    may_all-append o (table_after_all next xs) (undo_all next xs) (undo t x) (accept-all o next xs then all.1 parts.1)
    (may_all-alike o next (table_after_all (table_after_all next xs) (undo_all next xs)) (undo t x) (alike-sym _ _ (back-all o next xs then all.1 parts.1)) (accept-back o t x kept all.0 parts.0))

-- ---- what is kept at each log

lists-sound : (o : OriginView) (supers : List (Option Presence)) (ls : List MethodsOf) → ((k : ℕ) → k < length o.superclasses → is_present supers k ≡ true) → All (IsSoundList o) ls → All (λ (l : MethodsOf). list_all (fits_in o.counts) l.methods ≡ true) ls
    → list_all (is_sound_row o supers) (list_rows ls) ≡ true
lists-sound o supers [] listed all fit = refl
lists-sound o supers (l ∷ ls) listed all fit =
    all-append (is_sound_row o supers) (rows_at l.class l.methods) (list_rows ls)
    (rows_at-sound o supers l.class l.methods (listed l.class.class (All-head (IsSoundList o) l ls all).class) (All-head (λ (l : MethodsOf). list_all (fits_in o.counts) l.methods ≡ true) l ls fit))
    (lists-sound o supers ls listed (All-tail (IsSoundList o) l ls all) (All-tail (λ (l : MethodsOf). list_all (fits_in o.counts) l.methods ≡ true) l ls fit))

grounded-order : (supers : List (Option Presence)) (order : List ℕ) → IsOrder supers order → Grounded supers
grounded-order supers order is = record {
  rank = λ k. steps_of order (of_class k);
  above = λ k d p here up.
      let super : super_of supers (of_class k) ≡ Some (of_class d) = ap (λ (o : Option Presence). option_map_or (λ (q : Presence). above (of_class k) q.superclass) o None) here ∙ ap (above (of_class k)) up in
      let there : is_present supers k ≡ true = ap is_some here in
      (super-present supers order is (of_class k) (of_class d) super, super-fewer supers order is (of_class k) (of_class d) super);
}

opened-kept : (o : OriginView) → IsSound o → AreFit o → Kept o (opening_table o)
unfolding opening_table
opened-kept o sound fit =
    let (order, is) = order_exists o.superclasses sound.classes sound.chains in
    record {
      classes = length-opened o;
      listed = λ k inside. opened-is_present o k inside;
      grounded = grounded-order (opened_supers o) order (order-listed o order is);
      rows = lists-sound o (opened_supers o) o.lists (λ k inside. opened-is_present o k inside) sound.lists fit;
      few = let n = length-list_rows o.lists in let few = sound.few_rows in omega (arith, n, few);
    }

pub kept-at : (h : Log) → IsSound h.origin → AreFit h.origin → IsLog h → Kept h.origin (table h)
unfolding IsLog table
kept-at h sound fit log = kept-after_all h.origin (opening_table h.origin) h.changes (opened-kept h.origin sound fit) (accepted-may_all (empty h.origin) h.changes log)

-- ---- of a log

pub tables-back : (h : Log) (xs : List Change) → IsMadeAt h xs → AreAlike (table (and_all (and_all h xs) (undo_all (table h) xs))) (table h)
tables-back h xs is =
    alike-then _ _ _ (alike-is _ _ (table-and_all (and_all h xs) (undo_all (table h) xs) ∙ ap (λ t. table_after_all t (undo_all (table h) xs)) (table-and_all h xs)))
    (back-all h.origin (table h) xs (kept-at h is.sound is.fit is.log) (accepted-may_all h xs is.accepted) is.numbered)

pub lookups-back : (h : Log) (xs : List Change) (c : ClassRef) (s : ℕ) → IsMadeAt h xs → lookup (and_all (and_all h xs) (undo_all (table h) xs)) c s ≡ lookup h c s
unfolding lookup
lookups-back h xs c s is = lookup-alike _ _ (tables-back h xs is) c s

length-all : (h : Log) (xs : List Change) → length (and_all h xs).changes ≡ length h.changes + length xs
length-all h [] = omega arith
length-all h (x ∷ xs) = let rest = length-all (and_then h x) xs in let n = length-append h.changes (x ∷ []) in omega (arith, rest, n)

origin-all : (h : Log) (xs : List Change) → (and_all h xs).origin ≡ h.origin
origin-all h [] = refl
origin-all h (x ∷ xs) = origin-all (and_then h x) xs

pub way-accepted : (h : Log) (xs : List Change) → IsMadeAt h xs → length h.changes + length xs + length (undo_all (table h) xs) ≤ h.origin.limits.changes → AreAccepted (and_all h xs) (undo_all (table h) xs)
way-accepted h xs is few =
    let may = accept-all h.origin (table h) xs (kept-at h is.sound is.fit is.log) (accepted-may_all h xs is.accepted) is.numbered in
    let at = subst (λ o. MayAll o (table_after_all (table h) xs) (undo_all (table h) xs)) (sym (origin-all h xs)) may in
    may_all-accepted (and_all h xs) (undo_all (table h) xs) (subst (λ t. MayAll (and_all h xs).origin t (undo_all (table h) xs)) (sym (table-and_all h xs)) at)
    (let n = length-all h xs in let same = ap (λ (o : OriginView). o.limits.changes) (origin-all h xs) in omega (arith, n, few, same))
