-- What is noted stays right where the history grows.
use Rattle.std.proofs.Common.{◌≡◌, ◌≢◌, ◌<◌, ◌≤◌, ◌+◌, ℕ, List, ◌⊎◌, inl, inr, ◌++◌, ◌^◌, length, get_or, set, refl, sym, ap, subst, ◌∙◌, arith, length-append, length-set, get_or-set_other}
use Rattle.std.proofs.lemmas.Bool.{cases_eq, ne_eqb}
use Rattle.std.proofs.lemmas.List.{take-append-le}
use Rattle.std.proofs.lemmas.Grind.{get_or-set_at}
use Rattle.std.specs.Prelude.{◌&&◌, Bool, true, false, Option, Some, None, if◌then◌else◌, nat_le, nat_lt, option_and_then, slice_get, All}
use Rattle.std.specs.Option.{option_or}
use Rattle.std.proofs.lemmas.List.Elements.{All-set}
use Rattle.msg_tables.specs.Origin.{OriginView, last_imp}
use Rattle.msg_tables.specs.declared.change.Change.{Change}
use Rattle.msg_names.proofs.ClassRefLemmas.{slot_of-same, slot_of-inside}
use Rattle.msg_names.specs.ClassRef.{slot_of}
use Rattle.msg_names.specs.declared.value.ClassRef.{ClassRef}
use Rattle.msg_tables.specs.History.{History, BeginsWith, lookup}
use Rattle.msg_tables.proofs.TakeLemmas.{All-at}
use Rattle.msg_model.specs.State.{first}
use Rattle.msg_reader.specs.declared.note.Note.{Note}
use Rattle.msg_reader.specs.declared.notes.Notes.{Notes}
use Rattle.msg_reader.specs.Blank.{IsBlank}
use Rattle.msg_reader.specs.Key.{IsSealOf, key_of, mark_of, place_of}
use Rattle.msg_model.specs.Stamps.{last_affected}
use Rattle.msg_model.proofs.StampLemmas.{since as stays-since}
use Rattle.msg_cache.specs.Rule.{IsAccepted}
use Rattle.msg_reader.specs.Notes.{found_by, found_in, recalled, AreBlank, IsNoteOf, AreNotesAt, AreNotesOf, IsRecalled, IsRecalledSince, LiesAt}

-- a blank note is one of each history
pub unnamed : (h : History) (n : Note) → IsBlank n → IsNoteOf h n
unnamed h n none = record {
  recalled = λ slot sel short few e.
      let none_of : mark_of n.imp ≡ 65535 = ap mark_of none.imp in
      absurd (omega (arith, none.seal, e, none_of));
}

blank_at : (h : History) (ns : List Note) → All IsBlank ns → AreNotesAt h ns
blank_at h ns b = record {
  notes = λ k d inside. unnamed h (get_or ns k d) (b k d inside);
  placed = λ p d inside full. absurd (full (b p d inside).seal);
}

pub blank_of : (h : History) (m : Notes) → AreBlank m → AreNotesOf h m
blank_of h m b = record { first = blank_at h m.first b.first; second = blank_at h m.second b.second }

-- what isn't at its place isn't noted
pub apart : (n : Note) (since slot sel : ℕ) → n.seal + mark_of n.imp ≢ key_of slot sel → found_by n since slot sel ≡ None
apart n since slot sel ne = ap (λ b. if b && nat_le since n.count then Some n.imp else None) (ne_eqb (n.seal + mark_of n.imp) (key_of slot sel) ne)

-- of selector 0 nothing is noted
found_none : (ns : List Note) (since slot : ℕ) → found_in ns since slot 0 ≡ None
found_none ns since slot = at (slice_get ns (place_of slot 0))
  where
    at : (o : Option Note) → option_and_then (λ k. found_by k since slot 0) o ≡ None
    at None = refl
    at (Some n) = apart n since slot 0 (n.sealed.named slot)

-- what neither of both has isn't recalled
neither : (m : Notes) (since slot sel : ℕ) → found_in m.first since slot sel ≡ None → found_in m.second since slot sel ≡ None → recalled m since slot sel ≡ None
neither m since slot sel e f = at (nat_lt slot (2 ^ 26)) (found_in m.first since slot sel) (found_in m.second since slot sel) e f
  where
    at : (b : Bool) (o p : Option ℕ) → o ≡ None → p ≡ None → (if b then option_or o p else None) ≡ None
    at true None p e f = f
    at true (Some x) p e f = cc
    at false o p e f = refl

pub recalled_none : (m : Notes) (since slot : ℕ) → recalled m since slot 0 ≡ None
recalled_none m since slot = neither m since slot 0 (found_none m.first since slot) (found_none m.second since slot)

-- nor is anything in blank notes
found_blank : (ns : List Note) (since slot sel : ℕ) → All IsBlank ns → found_in ns since slot sel ≡ None
found_blank ns since slot sel blank = at (slice_get ns (place_of slot sel)) refl
  where
    at : (o : Option Note) → slice_get ns (place_of slot sel) ≡ o → option_and_then (λ k. found_by k since slot sel) o ≡ None
    at None e = refl
    at (Some n) e =
        let none : IsBlank n = All-at IsBlank ns (place_of slot sel) n blank e in
        let none_of : mark_of n.imp ≡ 65535 = ap mark_of none.imp in
        apart n since slot sel (λ same. omega (arith, none.seal, same, none_of))

pub recalled_blank : (m : Notes) (since slot sel : ℕ) → AreBlank m → recalled m since slot sel ≡ None
recalled_blank m since slot sel blank = neither m since slot sel (found_blank m.first since slot sel blank.first) (found_blank m.second since slot sel blank.second)

-- a note answers what it notes
pub as_noted : (h : History) (n : Note) (since slot sel : ℕ) → slot < 2 ^ 26 → sel < 2 ^ 32 → IsSealOf n.seal slot sel n.imp → since ≤ n.count → IsNoteOf h n → IsRecalledSince h since slot sel n.imp
as_noted h n since slot sel short few e le is = (n.count, le, is.recalled slot sel short few e)

-- what is recalled since the last change that affects the class reference is the lookup at the
-- history
pub recalled_still : (h : History) (c : ClassRef) (since sel imp : ℕ) → IsAccepted h → last_affected h c ≤ since → IsRecalledSince h since (slot_of c) sel imp → imp ≡ lookup h c sel
recalled_still h c since sel imp ok last (k, le, is) = is.found c refl ∙ stays-since h c sel k ok.origin ok.changes (omega arith) is.seen

-- what the lookup finds after this number of changes may be noted at these
pub recalled_then : (h : History) (c : ClassRef) (n sel imp : ℕ) → n ≤ length h.changes → imp ≡ lookup (first n h) c sel → imp ≤ last_imp h.origin.counts → IsRecalled h n (slot_of c) sel imp
recalled_then h c n sel imp le found listed = record {
  seen = le;
  listed = listed;
  found = λ d same. found ∙ ap (λ x. lookup (first n h) x sel) (sym (slot_of-same d c same));
}

first_same : (h : History) (origin : OriginView) (more : List (List Change)) (n : ℕ) → n ≤ length h.changes → origin ≡ h.origin
    → first n (record { origin = origin; changes = h.changes ++ more }) ≡ first n h
first_same h origin more n le same = rw (same, take-append-le n h.changes more le) refl

-- the points of notes are the same in a longer history
pub first-begins : (p h : History) (n : ℕ) → BeginsWith p h → n ≤ length h.changes → first n p ≡ first n h
first-begins p h n b le = ap (λ cs. first n (record { origin = p.origin; changes = cs })) b.rest.1 ∙ first_same h p.origin b.rest.0 n le b.same

pub recalled-begins : (p h : History) (n slot sel imp : ℕ) → BeginsWith p h → IsRecalled h n slot sel imp → IsRecalled p n slot sel imp
recalled-begins p h n slot sel imp b is = record {
  seen = omega (arith, is.seen, ap length b.rest.1, length-append h.changes b.rest.0);
  listed = subst (λ (m : OriginView). imp ≤ last_imp m.counts) (sym b.same) is.listed;
  found = λ c same. is.found c same ∙ ap (λ q. lookup q c sel) (sym (first-begins p h n b is.seen));
}

pub note-begins : (p h : History) (n : Note) → BeginsWith p h → IsNoteOf h n → IsNoteOf p n
note-begins p h n b is = record { recalled = λ slot sel short few e. recalled-begins p h n.count slot sel n.imp b (is.recalled slot sel short few e) }

at_begin : (p h : History) (ns : List Note) → BeginsWith p h → AreNotesAt h ns → AreNotesAt p ns
at_begin p h ns b is = record { notes = λ k d inside. note-begins p h (get_or ns k d) b (is.notes k d inside); placed = is.placed }

-- notes of a history are those of a longer history
pub notes_begin : (p h : History) (m : Notes) → BeginsWith p h → AreNotesOf h m → AreNotesOf p m
notes_begin p h m b is = record { first = at_begin p h m.first b is.first; second = at_begin p h m.second b is.second }

pub short_slot : (c : ClassRef) → c.class < 2 ^ 25 → slot_of c < 2 ^ 26
short_slot c few = slot_of-inside c (2 ^ 25) (2 ^ 26) refl few

-- another note of the history in the place of one
pub notes_keep : (h : History) (ns : List Note) (place : ℕ) (n : Note) → AreNotesAt h ns → IsNoteOf h n → LiesAt place n → AreNotesAt h (set ns place n)
notes_keep h ns place n are is lies = record {
  notes = All-set (IsNoteOf h) ns place n is are.notes;
  placed = λ p d within. at p d within (cases_eq p place);
}
  where
    short : (p : ℕ) → p < length (set ns place n) → p < length ns
    short p within = subst (λ q. p < q) (length-set ns place n) within

    at : (p : ℕ) (d : Note) → p < length (set ns place n) → (p ≡ place) ⊎ (p ≡ place → ⊥) → LiesAt p (get_or (set ns place n) p d)
    at p d within (inl e) = subst (LiesAt p) (sym (get_or-set_at ns place p n d e (subst (λ q. q < length ns) e (short p within)))) (subst (λ q. LiesAt q n) (sym e) lies)
    at p d within (inr ne) = subst (LiesAt p) (sym (get_or-set_other ns place p n d ne)) (are.placed p d (short p within))
