-- What rows mean can be taken back.
use Rattle.std.proofs.Common.{◌≡◌, ℕ, List, [], ◌∷◌, ◌++◌, append-nil, append_assoc, Bool, true, false, Result, Ok, Err, ◌+◌, length, length-append, take, refl, sym, ap, ◌∙◌, arith}
use Rattle.std.specs.Prelude.{◌&&◌, ◌==◌, nat_lt, if◌then◌else◌}
use Rattle.std.proofs.lemmas.Bool.Decides.{nat_tests}
use Rattle.std.specs.List.{list_all}
use Rattle.msg_names.specs.Number.{selector_number, imp_ref_of}
use Rattle.msg_names.specs.declared.value.ClassRef.{ClassRef}
use Rattle.msg_names.specs.declared.value.Selector.{Selector}
use Rattle.msg_tables.specs.Undo.{AreFit, AreNumbered, are_numbered, covering, undo, undo_all}
use Rattle.msg_tables.specs.declared.change.Change.{Change}
use Rattle.msg_tables.specs.History.{History, log}
use Rattle.msg_tables.specs.After.{table_after}
use Rattle.msg_tables.specs.Log.{Log, and_then, table_after_all}
use Rattle.msg_tables.specs.Made.{and_as_one}
use Rattle.msg_tables.specs.Refusal.{IsLog}
use Rattle.msg_tables.specs.Several.{and_all}
use Rattle.msg_tables.proofs.HistoryLemmas.{log-all}
use Rattle.msg_tables.specs.declared.change.Change.TheVariants.{Add, Replace, SetImp, Attach, Remove}
use Rattle.msg_host.specs.Config.{IsHostOrigin, host_origin}
use Rattle.msg_host.specs.WayBack.{EveryListOfRowsHasWayBack, TakesBack, TwoListsGoBack}
use Rattle.msg_host.specs.Listing.{AreMeant, MakesRows, UndoesRows, change_in, change_of, exchange_of, method_in, both}
use Rattle.msg_host.specs.declared.config.HostConfig.{HostConfig}
use Rattle.msg_host.specs.declared.fault.AskFault.{AskFault}
use Rattle.msg_host.specs.declared.listing.ChangeRow.{ChangeRow}
use Rattle.msg_runtime.specs.View.{RuntimeView}

-- ---- selectors that rows attach are numbered from 1

abbrev numbered-in : Result Change AskFault → Bool
numbered-in (Ok x) = are_numbered x
numbered-in (Err f) = true

either : (b : Bool) (p q : Result Change AskFault) → numbered-in p ≡ true → numbered-in q ≡ true → numbered-in (if b then p else q) ≡ true
either true p q one other = one
either false p q one other = other

of-one : {A : Type 0} (make : A → Change) (r : Result A AskFault) → ((a : A) → are_numbered (make a) ≡ true) → numbered-in (change_of make r) ≡ true
of-one make (Ok a) each = each a
of-one make (Err f) each = refl

covering-numbered : (c : ClassRef) (s : Selector) (i : ℕ) → are_numbered (covering c (selector_number s) i) ≡ true
covering-numbered c s i = step c.meta
  where
    some : nat_lt 0 (selector_number s) ≡ true
    some = let p = s.positive in grind (arith, nat_tests, p)

    step : (b : Bool) → are_numbered (if b then Attach c.class [] ((selector_number s, i) ∷ []) else Attach c.class ((selector_number s, i) ∷ []) []) ≡ true
    step true = ap (λ b. b && true) some
    step false = ap (λ b. (b && true) && true) some

row-numbered : (r : ChangeRow) → numbered-in (change_in r) ≡ true
row-numbered r =
    either (r.kind == 1) _ _ (of-one (λ (m : ClassRef × Selector). Add m.0 m.1 (imp_ref_of r.imp)) (method_in r.class r.meta r.sel) (λ m. refl))
    (either (r.kind == 2) _ _ (of-one (λ (m : ClassRef × Selector). Replace m.0 m.1 (imp_ref_of r.imp)) (method_in r.class r.meta r.sel) (λ m. refl))
    (either (r.kind == 3) _ _ (of-one (λ (m : ClassRef × Selector). SetImp m.0 m.1 (imp_ref_of r.imp)) (method_in r.class r.meta r.sel) (λ m. refl))
    (either (r.kind == 4) _ _ (of-one (λ (m : (ClassRef × Selector) × (ClassRef × Selector)). exchange_of m.0 m.1) (both (method_in r.class r.meta r.sel) (method_in r.other r.other_meta r.other_sel)) (λ m. refl))
    (either (r.kind == 5) _ _ refl
    (either (r.kind == 6) _ _ refl
    (either (r.kind == 7) _ _ (of-one (λ (m : ClassRef × Selector). Remove m.0 m.1) (method_in r.class r.meta r.sel) (λ m. refl))
    (either (r.kind == 8) _ _ refl
    (either (r.kind == 9) _ _ (of-one (λ (m : ClassRef × Selector). covering m.0 (selector_number m.1) r.imp) (method_in r.class r.meta r.sel) (λ m. covering-numbered m.0 m.1 r.imp)) refl))))))))

all-numbered : (rows : List ChangeRow) (xs : List Change) → AreMeant rows xs → list_all are_numbered xs ≡ true
all-numbered [] [] e = refl
all-numbered [] (x ∷ xs) e = cc
all-numbered (r ∷ rows) [] e = cc
all-numbered (r ∷ rows) (x ∷ xs) e =
    let first : numbered-in (change_in r) ≡ numbered-in (Ok x) = ap (λ (rs : List (Result Change AskFault)). numbered-in (list_first rs)) e in
    let rest = all-numbered rows xs (ap (λ (rs : List (Result Change AskFault)). list_rest rs) e) in
    ap (λ b. b && list_all are_numbered xs) (sym first ∙ row-numbered r) ∙ rest
  where
    list_first : List (Result Change AskFault) → Result Change AskFault
    list_first [] = Ok x
    list_first (a ∷ more) = a

    list_rest : List (Result Change AskFault) → List (Result Change AskFault)
    list_rest [] = []
    list_rest (a ∷ more) = more

pub rows-numbered : (rows : List ChangeRow) (xs : List Change) → AreMeant rows xs → AreNumbered xs
rows-numbered rows xs meant = all-numbered rows xs meant

-- a host's tables begin without methods
pub host-fit : (config : HostConfig) → AreFit (host_origin config)
host-fit config = λ k d inside. absurd (omega (arith, inside))

-- ---- histories

-- the log after changes that are made as one
pub log-as_one : (h : History) (xs : List Change) → log (and_as_one h xs) ≡ and_all (log h) xs
log-as_one h [] = refl
log-as_one h (x ∷ xs) = log-all h (x ∷ xs)

pub length-all : (h : Log) (xs : List Change) → length (and_all h xs).changes ≡ length h.changes + length xs
length-all h [] = omega arith
length-all h (x ∷ xs) =
    let rest = length-all (and_then h x) xs in
    let one = length-append h.changes (x ∷ []) in
    omega (arith, rest, one)

-- ---- a runtime's own list

-- the rows that were written when a list was made take it back
pub taken_back : (v w : RuntimeView) (rows undo : List ChangeRow) (n : ℕ) → EveryListOfRowsHasWayBack → IsHostOrigin v.keeper.history.origin → IsLog (log v.keeper.history)
    → MakesRows rows v w → UndoesRows rows v.keeper.history undo n → TakesBack (take n undo) v w
taken_back v w rows undo n law hosts accepted made undoes =
    law v w rows undo n (record { origin = hosts; log = accepted }) made undoes

-- ---- two lists as one

pub two_back : TwoListsGoBack
two_back t [] ys = sym (append-nil (undo_all t ys))
two_back t (x ∷ xs) ys =
    let next = table_after t x in
    ap (λ zs. zs ++ undo t x) (two_back next xs ys) ∙ append_assoc (undo_all (table_after_all next xs) ys) (undo_all next xs) (undo t x)
