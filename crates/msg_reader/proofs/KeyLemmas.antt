-- A seal tells the key and the mark that it was made of.
use Rattle.std.proofs.Common.{◌≡◌, ◌≢◌, ◌<◌, ◌≤◌, ◌+◌, ◌*◌, ◌%◌, ◌^◌, ◌⊎◌, inl, inr, ℕ, sym, ap, subst, ◌∙◌, arith}
use Rattle.std.proofs.lemmas.Bool.{cases_eq, cases_lt, eq-eqb, ne_eqb, lt-ltb, le-ltb}
use Rattle.std.proofs.lemmas.Option.{get_or_from_slice_get, slice_get_within}
use Rattle.std.specs.Prelude.{List, Some, slice_get}
use Rattle.msg_tables.specs.History.{History}
use Rattle.msg_reader.specs.declared.note.Note.{Note}
use Rattle.msg_reader.specs.declared.notes.Notes.{Notes}
use Rattle.msg_reader.specs.Key.{key_of, mark_of, place_of}
use Rattle.msg_reader.specs.Notes.{AreNotesOf, AreNotesAt, LiesAt, LiesThere, SealTells}

-- keys are one to one
pub keys_differ : (slot sel other next : ℕ) → sel < 2 ^ 32 → next < 2 ^ 32 → key_of slot sel ≡ key_of other next → (slot ≡ other) × (sel ≡ next)
keys_differ slot sel other next few less e = (omega (arith, e, few, less), omega (arith, e, few, less))

-- a mark takes 16 bits, and is none of a blank note's
pub mark_few : (imp : ℕ) → (0 < mark_of imp) × (mark_of imp < 65536)
mark_few imp = by_case (cases_eq imp 0) (cases_lt imp 65534)
  where
    by_case : (imp ≡ 0) ⊎ (imp ≡ 0 → ⊥) → (imp < 65534) ⊎ (65534 ≤ imp) → (0 < mark_of imp) × (mark_of imp < 65536)
    by_case (inl e) c = rw (eq-eqb imp 0 e) (omega arith, omega arith)
    by_case (inr n) (inl few) = rw (ne_eqb imp 0 n, lt-ltb imp 65534 few) (omega (arith, n), omega (arith, few))
    by_case (inr n) (inr many) = rw (ne_eqb imp 0 n, le-ltb imp 65534 many) (omega arith, omega arith)

-- a word that is so little below two keys of one place is so of one key
apart_not : (seal said mark slot sel : ℕ) → 0 < said → said < 65536 → 0 < mark → mark < 65536 → seal + said ≡ key_of slot sel → (seal + mark) % 65536 ≡ place_of slot sel * 8 → said ≡ mark
apart_not seal said mark slot sel a b c d e there = omega (arith, a, b, c, d, e, there)

-- so the seal of a note tells of the lookups that have its place
seal_tells : (h : History) (ns : List Note) (slot sel : ℕ) (k : Note) → AreNotesAt h ns → slice_get ns (place_of slot sel) ≡ Some k → SealTells k slot sel
seal_tells h ns slot sel k are at said some few e =
    let p = place_of slot sel in
    let lies : LiesAt p k = subst (LiesAt p) (get_or_from_slice_get ns p k k at) (are.placed p k (slice_get_within ns p k at)) in
    let full : k.seal ≢ 0 = λ none. omega (arith, none, few, e) in
    let bound = mark_few k.imp in
    let same : said ≡ mark_of k.imp = apart_not k.seal said (mark_of k.imp) slot sel some few bound.0 bound.1 e (lies full) in
    (ap (λ m. k.seal + m) (sym same) ∙ e, same)

pub seals_tell : (h : History) (n : Notes) (slot sel : ℕ) (k : Note) → AreNotesOf h n → LiesThere n (place_of slot sel) k → SealTells k slot sel
seals_tell h n slot sel k are (inl at) = seal_tells h n.first slot sel k are.first at
seals_tell h n slot sel k are (inr at) = seal_tells h n.second slot sel k are.second at
