-- Rows that mean lookups.
use Rattle.std.proofs.Common.{◌≡◌, ◌<◌, ℕ, zero, suc, List, [], ◌∷◌, Bool, true, false, All, length, map, refl, ap, ap₂, ◌∙◌, arith}
use Rattle.std.specs.Prelude.{◌==◌, nat_lt, if◌then◌else◌, Option, Some, None, IfSome, IfNone, is_some, Result, Ok, Err}
use Rattle.std.specs.Result.{is_ok}
use Rattle.std.proofs.lemmas.Bool.{and_parts}
use Rattle.std.proofs.lemmas.Bool.Decides.{nat_tests}
use Rattle.std.proofs.lemmas.List.Elements.{All-cons, All-nil}
use Rattle.msg_names.specs.Number.{selector_of}
use Rattle.msg_tables.specs.History.{History, BeginsWith, lookup}
use Rattle.msg_cache.specs.declared.view.SenderView.{SenderView as Seen}
use Rattle.msg_reader.specs.Several.{AreFoundAfter, AreFoundAt, AreFoundTogether, found_of}
use Rattle.msg_reader.proofs.SeveralLemmas.{found_together}
use Rattle.msg_reader.specs.declared.lookup.Lookup.{Lookup}
use Rattle.msg_host.specs.Named.{ref_of}
use Rattle.msg_host.specs.Lookups.{AreRowsFoundAt, are_asked, lookup_by, lookup_in, lookup_or_other, lookups_in, row_found}
use Rattle.msg_host.specs.declared.fault.AskFault.{AskFault}
use Rattle.msg_host.specs.declared.fault.AskFault.TheVariants.{NoClass, NoSelector, BadRow}
use Rattle.msg_host.specs.declared.lookups.LookupRow.{LookupRow}

-- a lookup that is asked is by one of that many classes, and finds what the numbers say
abbrev Fits : ℕ → History → Result Lookup AskFault → ℕ → Type 0
Fits n h r found = ((lookup_or_other r).class.class < n) × (found_of h (lookup_or_other r) ≡ found)

by-fits : (n class : ℕ) (meta : Bool) (sel : ℕ) (h : History) → is_ok (lookup_by n class meta sel) ≡ true → Fits n h (lookup_by n class meta sel) (lookup h (ref_of class meta) sel)
by-fits n class meta sel h = at (nat_lt class n) refl sel
  where
    at : (b : Bool) → nat_lt class n ≡ b → (s : ℕ)
        → (let r : Result Lookup AskFault = (if b then (if s == 0 then Err NoSelector else Ok (record { class = ref_of class meta; sel = selector_of s })) else Err NoClass) in is_ok r ≡ true → Fits n h r (lookup h (ref_of class meta) s))
    at true less zero e = absurd (cc)
    at true less (suc s) e =
        let lt : class < n = grind (arith, nat_tests) in
        let some : (suc s == 0) ≡ false = grind (arith, nat_tests) in
        rw some (lt, refl)
    at false less s e = absurd (cc)

row-fits : (n : ℕ) (h : History) (r : LookupRow) → is_ok (lookup_in n r) ≡ true → Fits n h (lookup_in n r) (row_found h r)
row-fits n h r = at r.meta
  where
    at : (meta : ℕ)
        → (let it : Result Lookup AskFault = (if meta == 0 then lookup_by n r.class false r.sel else (if meta == 1 then lookup_by n r.class true r.sel else Err BadRow)) in is_ok it ≡ true → Fits n h it (lookup h (ref_of r.class (meta == 1)) r.sel))
    at zero e = by-fits n r.class false r.sel h e
    at (suc zero) e = by-fits n r.class true r.sel h e
    at (suc (suc m)) e =
        let no : (suc (suc m) == 0) ≡ false = grind (arith, nat_tests) in
        let nor : (suc (suc m) == 1) ≡ false = grind (arith, nat_tests) in
        let bad : false ≡ true = rw (no, nor) at e in
        absurd (cc)

-- the arena has words for the classes of lookups that are asked
pub asked-classes : (n : ℕ) (h : History) (rows : List LookupRow) → are_asked n rows ≡ true → All (λ (k : Lookup). k.class.class < n) (lookups_in n rows)
asked-classes n h [] e = All-nil (λ (k : Lookup). k.class.class < n)
asked-classes n h (r ∷ rows) e =
    let (one, rest) = and_parts (is_ok (lookup_in n r)) (are_asked n rows) e in
    All-cons (λ (k : Lookup). k.class.class < n) (lookup_or_other (lookup_in n r)) (lookups_in n rows) (row-fits n h r one).0 (asked-classes n h rows rest)

-- what they find is what the rows say
pub rows-found : (n : ℕ) (h : History) (rows : List LookupRow) → are_asked n rows ≡ true → map (found_of h) (lookups_in n rows) ≡ map (row_found h) rows
rows-found n h [] e = refl
rows-found n h (r ∷ rows) e =
    let (one, rest) = and_parts (is_ok (lookup_in n r)) (are_asked n rows) e in
    ap₂ (λ (i : ℕ) (more : List ℕ). i ∷ more) (row-fits n h r one).1 (rows-found n h rows rest)

pub found-rows : (n : ℕ) (h : History) (rows : List LookupRow) (imps : List ℕ) → are_asked n rows ≡ true → AreFoundAt h (lookups_in n rows) imps → AreRowsFoundAt h rows imps
found-rows n h rows imps e are = are ∙ rows-found n h rows e

-- ---- several that are found, or not

pub if_found : (v w : Seen) (ks : List Lookup) (imps : List ℕ) (r : Option ℕ) → BeginsWith w.front v.front → is_some r ≡ true → IfSome r (AreFoundAfter v w ks imps) → AreFoundTogether v w ks imps
if_found v w ks imps None b e are = absurd (cc)
if_found v w ks imps (Some n) b e are = found_together v w ks imps n b are

pub if_lacking : (P : Type 0) (r : Option ℕ) → is_some r ≡ false → IfNone r P → P
if_lacking P None e so = so
if_lacking P (Some n) e so = absurd (cc)

-- each row means one lookup, or another
pub as_many : (n : ℕ) (rows : List LookupRow) → length (lookups_in n rows) ≡ length rows
as_many n [] = refl
as_many n (row ∷ rows) = ap suc (as_many n rows)
