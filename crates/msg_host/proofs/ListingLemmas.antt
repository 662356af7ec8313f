-- Rows that mean changes, and rows that take them back.
use Rattle.std.proofs.Common.{◌≡◌, ◌≢◌, ◌<◌, ◌+◌, ℕ, List, [], ◌∷◌, ◌++◌, Bool, true, false, None, Some, Ok, length, map, take, drop, refl, sym, subst, ap, ap₂, ◌∙◌, arith}
use Rattle.std.specs.Prelude.{◌==◌, ◌-◌, if◌then◌else◌, slice_set, slice_index_or, Result, Err}
use Rattle.std.specs.Result.{is_ok}
use Rattle.std.proofs.lemmas.Bool.{and_parts}
use Rattle.std.proofs.lemmas.Bool.Decides.{nat_tests}
use Rattle.std.proofs.lemmas.List.{drop_more, map-append, take_more_set}
use Rattle.msg_names.specs.declared.value.ClassRef.{ClassRef}
use Rattle.msg_names.specs.declared.value.Selector.{Selector}
use Rattle.msg_names.specs.Number.{selector_of, selector_number}
use Rattle.msg_tables.specs.declared.change.Change.{Change}
use Rattle.msg_tables.specs.declared.entry.Entry.{Entry}
use Rattle.msg_tables.specs.declared.entry.Entry.TheVariants as entries
use Rattle.msg_tables.specs.History.{History, log}
use Rattle.msg_tables.specs.Journal.{undo_entry, undo_journal}
use Rattle.msg_tables.specs.Log.{table}
use Rattle.msg_tables.specs.Undo.{undo_all}
use Rattle.msg_tables.proofs.UndoJournalLemmas.{selector-same}
use Rattle.msg_tables.specs.FaultNumber.{change_fault_number}
use Rattle.msg_tables.specs.declared.fault.ChangeFault.{ChangeFault}
use Rattle.msg_tables.specs.declared.fault.ChangeFault.TheVariants as faults
use Rattle.msg_host.specs.Asking.{want_of_room}
use Rattle.msg_host.specs.Listing.{AreMeant, TellsRowsBack, UndoesRows, are_meant, change_in, change_or_other, changes_in, ref_in, selector_in, undoing}
use Rattle.msg_host.specs.declared.fault.AskFault.{AskFault}
use Rattle.msg_host.specs.declared.listing.ChangeRow.{ChangeRow}

-- no change is refused for lack of room
pub no_want_of_room : (f : ChangeFault) → change_fault_number f ≢ want_of_room
no_want_of_room faults.NoClass e = absurd (omega (arith, e))
no_want_of_room faults.NoImp e = absurd (omega (arith, e))
no_want_of_room faults.ArgumentCount e = absurd (omega (arith, e))
no_want_of_room faults.MethodPresent e = absurd (omega (arith, e))
no_want_of_room faults.NoMethod e = absurd (omega (arith, e))
no_want_of_room faults.Limit e = absurd (omega (arith, e))
no_want_of_room faults.Memory e = absurd (omega (arith, e))
no_want_of_room faults.DuplicateClass e = absurd (omega (arith, e))
no_want_of_room faults.ClassInUse e = absurd (omega (arith, e))

-- ---- rows each of which means a change

ok-itself : (a : Result Change AskFault) → is_ok a ≡ true → a ≡ Ok (change_or_other a)
ok-itself (Ok x) e = refl
ok-itself (Err f) e = cc

pub meant-changes : (rows : List ChangeRow) → are_meant rows ≡ true → AreMeant rows (changes_in rows)
meant-changes [] e = refl
meant-changes (r ∷ rows) e =
    let (first, rest) = and_parts (is_ok (change_in r)) (are_meant rows) e in
    ap₂ (λ a b. a ∷ b) (ok-itself (change_in r) first) (meant-changes rows rest)

-- ---- rows that take changes back

selector-in : (n : ℕ) (s : Selector) → 0 < n → selector_of n ≡ s → selector_in n ≡ Ok s
selector-in n s lt e =
    let some : (n == 0) ≡ false = grind (arith, nat_tests) in
    rw some (ap Ok e)

ref-in : (c : ClassRef) (b : Bool) → c.meta ≡ b → ref_in c.class (if b then 1 else 0) ≡ Ok c
ref-in c true e = ap (λ m. Ok (record { class = c.class; meta = m })) (sym e)
ref-in c false e = ap (λ m. Ok (record { class = c.class; meta = m })) (sym e)

selector-in-same : (s : Selector) → selector_in (selector_number s) ≡ Ok s
selector-in-same s = selector-in (selector_number s) s s.positive (selector-same s)

-- the row that is given back means what takes the entry back
pub undoing-meant : (e : Entry) → change_in (undoing e) ≡ Ok (undo_entry e)
undoing-meant (entries.Added c s) = rw (ref-in c c.meta refl, selector-in-same s) refl
undoing-meant (entries.Rewrote c s i) = rw (ref-in c c.meta refl, selector-in-same s) refl
undoing-meant (entries.Removed c s i at) = rw (ref-in c c.meta refl, selector-in-same s) refl
undoing-meant (entries.Made k) = refl
undoing-meant (entries.Disposed k None at) = refl
undoing-meant (entries.Disposed k (Some d) at) = refl

-- ---- rows mean one list of changes

ok-same : (xs ys : List Change) → map (λ x. (let r : Result Change AskFault = Ok x in r)) xs ≡ map (λ x. Ok x) ys → xs ≡ ys
ok-same [] [] e = refl
ok-same [] (y ∷ ys) e = cc
ok-same (x ∷ xs) [] e = cc
ok-same (x ∷ xs) (y ∷ ys) e =
    ap₂ (λ a b. a ∷ b) (ap (λ (rs : List (Result Change AskFault)). change_or_other (list_first rs)) e) (ok-same xs ys (ap (λ (rs : List (Result Change AskFault)). drop 1 rs) e))
  where
    list_first : List (Result Change AskFault) → Result Change AskFault
    list_first [] = Ok x
    list_first (r ∷ rs) = r

pub meant-same : (rows : List ChangeRow) (xs ys : List Change) → AreMeant rows xs → AreMeant rows ys → xs ≡ ys
meant-same rows xs ys one other = ok-same xs ys (sym one ∙ other)

-- ---- what was written takes back the changes that rows mean

-- rows that mean what takes the entries back
pub rows_undone : (rows undo : List ChangeRow) (h : History) (n : ℕ) (es : List Entry) → TellsRowsBack rows h es → n ≡ length es → AreMeant (take (length es) undo) (undo_journal es) → UndoesRows rows h undo n
rows_undone rows undo h n es (xs, meant, told) count written =
    (xs, meant, subst (λ k. AreMeant (take k undo) (undo_all (table (log h)) xs)) (sym count) (subst (AreMeant (take (length es) undo)) (sym told.undo) written))

-- ---- rows that are written

-- one more row
pub one-more : (rows : List ChangeRow) (count : ℕ) (r : ChangeRow) (xs : List Change) (x : Change) → count < length rows → change_in r ≡ Ok x → AreMeant (take count rows) xs
    → AreMeant (take (count + 1) (slice_set rows count r)) (xs ++ x ∷ [])
one-more rows count r xs x inside is meant =
    ap (map change_in) (take_more_set rows count r inside) ∙ map-append change_in (take count rows) (r ∷ [])
    ∙ ap₂ (λ a b. a ++ b ∷ []) meant is ∙ sym (map-append Ok xs (x ∷ []))

-- what takes the last entries back, and one more
pub undo-drop : (es : List Entry) (i : ℕ) (e : Entry) → i < length es → e ≡ slice_index_or es (length es - 1 - i) e
    → undo_journal (drop (length es - (i + 1)) es) ≡ undo_journal (drop (length es - i) es) ++ undo_entry e ∷ []
undo-drop es i e inside is =
    let at : length es - (i + 1) ≡ length es - 1 - i = omega arith in
    let next : length es - 1 - i + 1 ≡ length es - i = omega (arith, inside) in
    let lies : length es - 1 - i < length es = omega (arith, inside) in
    ap (λ k. undo_journal (drop k es)) at
    ∙ ap undo_journal (drop_more es (length es - 1 - i) e lies)
    ∙ ap (λ x. undo_journal (drop (length es - 1 - i + 1) es) ++ undo_entry x ∷ []) (sym is)
    ∙ ap (λ k. undo_journal (drop k es) ++ undo_entry e ∷ []) next
