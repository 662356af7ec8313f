-- Histories, and the logs of their changes.
use Rattle.std.proofs.Common.{◌≡◌, ◌≤◌, ◌<◌, ℕ, List, [], ◌∷◌, ◌++◌, length, length-append, None, refl, sym, ap, ◌∙◌, subst, append_assoc, append-nil, arith, All}
use Rattle.std.proofs.lemmas.List.Elements.{All-head, All-tail}
use Rattle.msg_tables.specs.declared.change.Change.{Change}
use Rattle.msg_tables.specs.Log as logs
use Rattle.msg_tables.specs.Log.{Log}
use Rattle.msg_tables.specs.History.{History, BeginsWith, and_then, one_by_one, log}
use Rattle.msg_tables.specs.Refusal.{AreAccepted, IsLog}
use Rattle.msg_tables.specs.Several.{and_all}
use Rattle.msg_tables.proofs.LogLemmas.{log-and_then, log-before}

one_by_one-append : (xs ys : List (List Change)) → one_by_one (xs ++ ys) ≡ one_by_one xs ++ one_by_one ys
one_by_one-append [] ys = refl
one_by_one-append (x ∷ xs) ys = ap (λ zs. x ++ zs) (one_by_one-append xs ys) ∙ sym (append_assoc x (one_by_one xs) (one_by_one ys))

-- a log with a list of changes added at once
abbrev pub longer : Log → List Change → Log
longer g xs = record { origin = g.origin; changes = g.changes ++ xs }

pub and_all-longer : (g : Log) (xs : List Change) → and_all g xs ≡ longer g xs
and_all-longer g [] = ap (λ (cs : List Change). (let l : Log = record { origin = g.origin; changes = cs } in l)) (sym (append-nil g.changes))
and_all-longer g (x ∷ xs) =
    and_all-longer (logs.and_then g x) xs ∙ ap (λ (cs : List Change). (let l : Log = record { origin = g.origin; changes = cs } in l)) (append_assoc g.changes (x ∷ []) xs)

-- the log of a history with a list of changes added
pub log-all : (h : History) (xs : List Change) → log (and_then h xs) ≡ and_all (log h) xs
log-all h xs =
    ap (λ (cs : List Change). (let l : Log = record { origin = h.origin; changes = cs } in l))
    (one_by_one-append h.changes (xs ∷ []) ∙ ap (λ ys. one_by_one h.changes ++ ys) (append-nil xs))
    ∙ sym (and_all-longer (log h) xs)

-- or by one change
pub log-one : (h : History) (x : Change) → log (and_then h (x ∷ [])) ≡ logs.and_then (log h) x
log-one h x = log-all h (x ∷ [])

pub log-begins : (p h : History) → BeginsWith p h → logs.BeginsWith (log p) (log h)
log-begins p h b = record { same = b.same; rest = (one_by_one b.rest.0, ap one_by_one b.rest.1 ∙ one_by_one-append h.changes b.rest.0) }

pub accepted-all_then : (g : Log) (xs : List Change) → IsLog g → AreAccepted g xs → IsLog (and_all g xs)
accepted-all_then g [] is all = is
accepted-all_then g (x ∷ xs) is all = accepted-all_then (logs.and_then g x) xs (log-and_then g x is all.0) all.1

-- a history with an accepted list added
pub is-longer : (h : History) (xs : List Change) → IsLog (log h) → AreAccepted (log h) xs → IsLog (log (and_then h xs))
is-longer h xs is all = subst IsLog (sym (log-all h xs)) (accepted-all_then (log h) xs is all)

-- a history with which another begins
pub is-before : (h g : History) → BeginsWith h g → IsLog (log h) → IsLog (log g)
is-before h g begins is = log-before (log h) (log g) (log-begins h g begins) is

-- if no list is empty, there are no more lists than changes
pub few-lists : (xs : List (List Change)) → All (λ ys. 0 < length ys) xs → length xs ≤ length (one_by_one xs)
few-lists [] some = omega arith
few-lists (x ∷ xs) some = let rest = few-lists xs (All-tail (λ ys. 0 < length ys) x xs some) in omega (arith, rest, All-head (λ ys. 0 < length ys) x xs some, length-append x (one_by_one xs))
