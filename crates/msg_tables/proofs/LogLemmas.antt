-- Logs with a change added.
use Rattle.std.proofs.Common.{◌≡◌, ℕ, List, [], ◌∷◌, ◌++◌, ◌+◌, map, replicate, length, length-append, Option, Some, None, refl, sym, ap₂, ◌∙◌, subst, append_assoc, append-nil}
use Rattle.std.proofs.lemmas.List.{length-map, length-replicate}
use Rattle.std.proofs.Math.ListN.{length-set}
use Rattle.msg_tables.specs.declared.change.Change.{Change}
use Rattle.msg_tables.specs.Origin.{class_total}
use Rattle.msg_tables.specs.declared.presence.Presence.{Presence}
use Rattle.msg_tables.specs.declared.change.Change.TheVariants.{Add, Replace, SetImp, Exchange, Attach, AddClass, Remove, DisposeClass}
use Rattle.msg_tables.specs.Rows.{ClassTable}
use Rattle.msg_tables.specs.After.{opening_table, table_after, supers_after}
use Rattle.msg_tables.specs.Log.{Log, BeginsWith, empty, and_then, table_after_all, table}
use Rattle.msg_tables.specs.Refusal.{refusal, AreAccepted, IsLog}

after_all-append : (t : ClassTable) (xs ys : List Change) → table_after_all t (xs ++ ys) ≡ table_after_all (table_after_all t xs) ys
after_all-append t [] ys = refl
after_all-append t (x ∷ xs) ys = after_all-append (table_after t x) xs ys

-- the tables at a longer log
pub table-and_then : (h : Log) (x : Change) → table (and_then h x) ≡ table_after (table h) x
unfolding table
table-and_then h x = after_all-append (opening_table h.origin) h.changes (x ∷ [])

pub length-supers_after : (supers : List (Option Presence)) (x : Change) → length (supers_after supers x) ≡ length supers
length-supers_after supers (Add c s i) = refl
length-supers_after supers (Replace c s i) = refl
length-supers_after supers (SetImp c s i) = refl
length-supers_after supers (Exchange c s d u) = refl
length-supers_after supers (Attach k ms cs) = refl
length-supers_after supers (AddClass k d) = length-set supers k (Some (record { superclass = d }))
length-supers_after supers (Remove c s) = refl
length-supers_after supers (DisposeClass k) = length-set supers k None

length-after_all : (t : ClassTable) (xs : List Change) → length (table_after_all t xs).supers ≡ length t.supers
unfolding table_after
length-after_all t [] = refl
length-after_all t (x ∷ xs) = length-after_all (table_after t x) xs ∙ length-supers_after t.supers x

-- no change gives a class a number
pub length-supers : (h : Log) → length (table h).supers ≡ class_total h.origin
unfolding table opening_table
length-supers h =
    length-after_all (opening_table h.origin) h.changes ∙ length-append (map listed h.origin.superclasses) (replicate h.origin.made None)
    ∙ ap₂ (λ n m. n + m) (length-map h.origin.superclasses listed) (length-replicate h.origin.made None)
  where
    listed : Option ℕ → Option Presence
    listed d = Some (record { superclass = d })

accepted-push : (h : Log) (xs : List Change) (x : Change) → AreAccepted h xs → refusal (record { origin = h.origin; changes = h.changes ++ xs }) x ≡ None → AreAccepted h (xs ++ x ∷ [])
accepted-push h [] x all none = (subst (λ cs. refusal (record { origin = h.origin; changes = cs }) x ≡ None) (append-nil h.changes) none, tt)
accepted-push h (y ∷ ys) x all none =
    (all.0, accepted-push (and_then h y) ys x all.1 (subst (λ cs. refusal (record { origin = h.origin; changes = cs }) x ≡ None) (sym (append_assoc h.changes (y ∷ []) ys)) none))

-- a log with an accepted change added is a log
pub log-and_then : (h : Log) (x : Change) → IsLog h → refusal h x ≡ None → IsLog (and_then h x)
unfolding IsLog
log-and_then h x is none = accepted-push (empty h.origin) h.changes x is none

accepted-prefix : (h : Log) (xs ys : List Change) → AreAccepted h (xs ++ ys) → AreAccepted h xs
accepted-prefix h [] ys all = tt
accepted-prefix h (x ∷ xs) ys all = (all.0, accepted-prefix (and_then h x) xs ys all.1)

-- a log with which another begins
pub log-before : (h g : Log) → BeginsWith h g → IsLog h → IsLog g
unfolding IsLog
log-before h g begins is =
    let (more, changes) = begins.rest in
    let longer = subst (AreAccepted (empty h.origin)) changes is in
    subst (λ o. AreAccepted (empty o) g.changes) begins.same (accepted-prefix (empty h.origin) g.changes more longer)

pub log-empty : (h : Log) → h.changes ≡ [] → IsLog h
unfolding IsLog
log-empty h e = rw e tt

-- a later change is accepted at its place
pub accepted-suffix : (h : Log) (xs ys : List Change) → AreAccepted h (xs ++ ys) → AreAccepted (record { origin = h.origin; changes = h.changes ++ xs }) ys
accepted-suffix h [] ys all = subst (λ cs. AreAccepted (record { origin = h.origin; changes = cs }) ys) (sym (append-nil h.changes)) all
accepted-suffix h (x ∷ xs) ys all = subst (λ cs. AreAccepted (record { origin = h.origin; changes = cs }) ys) (append_assoc h.changes (x ∷ []) xs) (accepted-suffix (and_then h x) xs ys all.1)
