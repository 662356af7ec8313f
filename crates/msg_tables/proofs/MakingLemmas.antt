-- Changes of a list that are made one after another.
use Rattle.std.proofs.Common.{◌≡◌, ◌<◌, ◌+◌, ℕ, zero, suc, List, [], ◌∷◌, ◌++◌, take, length, append_assoc, append-nil, Some, None, refl, sym, ap, ap₂, ◌∙◌, subst, slice_index_or, arith}
use Rattle.std.specs.Prelude.{slice_get}
use Rattle.std.proofs.lemmas.List.{take_more}
use Rattle.std.proofs.lemmas.Option.{get_or_from_slice_get}
use Rattle.msg_tables.specs.declared.change.Change.{Change}
use Rattle.msg_tables.specs.declared.edit.Edit.{Edit}
use Rattle.msg_tables.specs.declared.edit.Edit.TheVariants.{Append, Rewrite, RewriteBoth, Attach, Make, Remove, Dispose}
use Rattle.msg_tables.specs.declared.entry.Entry.{Entry}
use Rattle.msg_tables.specs.declared.fault.ChangeFault.{ChangeFault}
use Rattle.msg_tables.specs.Affected.{written_refs}
use Rattle.msg_tables.specs.Edits.{supers_edited}
use Rattle.msg_tables.specs.Log.{Log, and_then, table}
use Rattle.msg_tables.specs.Journal.{AllFitBack, AllNameListed, ArePlacesOf, Journals, before_all, lists_before, order_before, supers_before, edit_made, edit_places, undo_journal, IsUndoneBy, WritesAt, IsJournalOf, places_of, classes_of}
use Rattle.msg_tables.specs.Making.{IsBeside, IsPart, IsMade}
use Rattle.msg_tables.specs.Refusal.{refusal, AreAccepted}
use Rattle.msg_tables.specs.Several.{and_all, refused_from, made_by, made_by_all, written_by_all}
use Rattle.msg_tables.specs.Stands.{StandsAt}
use Rattle.msg_tables.specs.Undo.{undo, undo_all}
use Rattle.msg_tables.specs.View.{IsKept, TablesView}
use Rattle.msg_rows.specs.RowList.{HaveGrown}
use Rattle.msg_rows.proofs.RoomLemmas.{grown-on}
use Rattle.msg_tables.proofs.StandsLemmas.{stands-kept}
use Rattle.msg_tables.proofs.SeveralLemmas.{table-and_all}
use Rattle.msg_tables.proofs.UndoJournalLemmas.{undo_all-snoc, undo_journal-append}
use Rattle.msg_tables.proofs.JournalLemmas.{fit-all, journal-append, journal-none}
use Rattle.msg_tables.proofs.NoteLemmas.{listed-append, places-append, places-both, places-equal, classes-append}
use Rattle.std.proofs.Math.ListN.{length-set}

-- ---- one change

length-edited_supers : (e : Edit) (t : TablesView) → length (supers_edited e t.supers) ≡ length t.supers
length-edited_supers (Append r) t = refl
length-edited_supers (Rewrite r) t = refl
length-edited_supers (RewriteBoth a b) t = refl
length-edited_supers (Attach k ms cs) t = refl
length-edited_supers (Make k d) t = length-set t.supers k (Some (record { superclass = d }))
length-edited_supers (Remove c s) t = refl
length-edited_supers (Dispose k) t = length-set t.supers k None

-- an edit was made and noted, and the change is counted
pub part-made : (x : Change) (e : Edit) (journal longer : List Entry) (old new : TablesView) → WritesAt old x e → edit_made e ≡ made_by x → IsUndoneBy old x e → Journals e journal longer old new
    → IsPart x journal longer old (record new { change_count = new.change_count + 1 })
part-made x e journal longer old new written makes undoes journals = record {
  entries = journals.entries;
  is = journals.is;
  back = record { lists = journals.back.lists; supers = journals.back.supers; order = journals.back.order; grown = journals.back.grown; room = journals.back.room };
  places = λ h stands. subst (λ ps. ArePlacesOf ps (made_by x) (places_of journals.entries)) (written h stands) (subst (λ ks. ArePlacesOf (edit_places e) ks (places_of journals.entries)) makes journals.places);
  made = journals.made ∙ makes;
  undone = λ h stands. journals.undone ∙ undoes h stands;
  listed = journals.listed;
  beside = record {
    count = ap (λ (t : TablesView). length t.supers) journals.writes.rest ∙ length-edited_supers e old;
    rest = sym (ap (λ (t : TablesView). record t { supers = old.supers; order = old.order; lists = old.lists; rooms = old.rooms; row_count = old.row_count; change_count = old.change_count }) journals.writes.rest);
  };
}

-- ---- one more change

accepted-snoc : (h : Log) (xs : List Change) (x : Change) → AreAccepted h xs → refusal (and_all h xs) x ≡ None → AreAccepted h (xs ++ x ∷ [])
accepted-snoc h [] x all none = (none, tt)
accepted-snoc h (y ∷ ys) x all none = (all.0, accepted-snoc (and_then h y) ys x all.1 none)

pub and_all-snoc : (h : Log) (xs : List Change) (x : Change) → and_all h (xs ++ x ∷ []) ≡ and_then (and_all h xs) x
and_all-snoc h [] x = refl
and_all-snoc h (y ∷ ys) x = and_all-snoc (and_then h y) ys x

written-snoc : (h : Log) (xs : List Change) (x : Change) → written_by_all h (xs ++ x ∷ []) ≡ written_by_all h xs ++ written_refs (and_all h xs) x
written-snoc h [] x = append-nil (written_refs h x)
written-snoc h (y ∷ ys) x = ap (λ ps. written_refs h y ++ ps) (written-snoc (and_then h y) ys x) ∙ sym (append_assoc (written_refs h y) (written_by_all (and_then h y) ys) (written_refs (and_all h (y ∷ ys)) x))

made-snoc : (xs : List Change) (x : Change) → made_by_all (xs ++ x ∷ []) ≡ made_by_all xs ++ made_by x
made-snoc [] x = append-nil (made_by x)
made-snoc (y ∷ ys) x = ap (λ ks. made_by y ++ ks) (made-snoc ys x) ∙ sym (append_assoc (made_by y) (made_by_all ys) (made_by x))

beside-on : (old between new : TablesView) → IsBeside old between → IsBeside between new → IsBeside old new
beside-on old between new a b = record {
  count = b.count ∙ a.count;
  rest = a.rest ∙ ap (λ (t : TablesView). record t { supers = old.supers; order = old.order; lists = old.lists; rooms = old.rooms; row_count = old.row_count; change_count = old.change_count }) b.rest;
}

-- the change at a place, as lists of changes give it
pub at-place : (xs : List Change) (i : ℕ) (x : Change) → slice_get xs i ≡ Some x → x ≡ slice_index_or xs i x
at-place xs i x e = sym (get_or_from_slice_get xs i x x e)

-- a place farther
pub accepted-next : (h : Log) (xs : List Change) (i : ℕ) (x : Change) → i < length xs → x ≡ slice_index_or xs i x → AreAccepted h (take i xs) → refusal (and_all h (take i xs)) x ≡ None → AreAccepted h (take (i + 1) xs)
accepted-next h xs i x inside is all none =
    subst (AreAccepted h) (sym (take_more xs i x inside ∙ ap (λ y. take i xs ++ y ∷ []) (sym is))) (accepted-snoc h (take i xs) x all none)

pub made-none : (t : TablesView) (journal : List Entry) → journal ≡ [] → IsMade [] journal t t
made-none t [] e = record {
  back = journal-none t;
  stands = λ h stands. (tt, stands);
  places = λ h stands. places-equal [] [] [] refl;
  made = refl;
  undone = λ h stands. refl;
  listed = tt;
  beside = record { count = refl; rest = refl };
}
made-none t (x ∷ journal) e = cc

pub made-next : (xs : List Change) (i : ℕ) (x : Change) (journal longer : List Entry) (old between new : TablesView) → i < length xs → x ≡ slice_index_or xs i x → IsMade (take i xs) journal old between
    → ((h : Log) → StandsAt between h → (refusal h x ≡ None) × StandsAt new (and_then h x)) → IsPart x journal longer between new → IsMade (take (i + 1) xs) longer old new
made-next xs i x journal longer old between new inside is so-far ok part =
    subst (λ ys. IsMade ys longer old new) (sym (take_more xs i x inside ∙ ap (λ y. take i xs ++ y ∷ []) (sym is))) record {
      back = subst (λ es. IsJournalOf es old new) (sym part.is) (journal-append journal part.entries old between new so-far.back part.back);
      stands = λ h stands.
          let (all, now) = so-far.stands h stands in
          let (none, after) = ok (and_all h (take i xs)) now in
          (accepted-snoc h (take i xs) x all none, subst (StandsAt new) (sym (and_all-snoc h (take i xs) x)) after);
      places = λ h stands.
          let now = (so-far.stands h stands).1 in
          let both = places-both (written_by_all h (take i xs)) (written_refs (and_all h (take i xs)) x) (made_by_all (take i xs)) (made_by x) (places_of journal) (places_of part.entries) (so-far.places h stands) (part.places (and_all h (take i xs)) now) in
          let at = subst (λ ps. ArePlacesOf ps (made_by_all (take i xs) ++ made_by x) (places_of journal ++ places_of part.entries)) (sym (written-snoc h (take i xs) x)) both in
          let at' = subst (λ ks. ArePlacesOf (written_by_all h (take i xs ++ x ∷ [])) ks (places_of journal ++ places_of part.entries)) (sym (made-snoc (take i xs) x)) at in
          subst (ArePlacesOf (written_by_all h (take i xs ++ x ∷ [])) (made_by_all (take i xs ++ x ∷ []))) (sym (ap places_of part.is ∙ places-append journal part.entries)) at';
      made = ap classes_of part.is ∙ classes-append journal part.entries ∙ ap₂ (λ a b. a ++ b) so-far.made part.made ∙ sym (made-snoc (take i xs) x);
      undone = λ h stands.
          let now = (so-far.stands h stands).1 in
          undo_all-snoc (table h) (take i xs) x
          ∙ ap (λ t. undo t x ++ undo_all (table h) (take i xs)) (sym (table-and_all h (take i xs)))
          ∙ ap₂ (λ a b. a ++ b) (sym (part.undone (and_all h (take i xs)) now)) (so-far.undone h stands)
          ∙ sym (ap undo_journal part.is ∙ undo_journal-append journal part.entries);
      listed = subst (AllNameListed (length old.supers)) (sym part.is) (listed-append (length old.supers) journal part.entries so-far.listed (subst (λ n. AllNameListed n part.entries) so-far.beside.count part.listed));
      beside = beside-on old between new so-far.beside part.beside;
    }

-- ---- the one that is refused

pub refused-place : (k : ℕ) (h : Log) (xs : List Change) (i : ℕ) (x : Change) (f : ChangeFault) → i < length xs → x ≡ slice_index_or xs i x → AreAccepted h (take i xs) → refusal (and_all h (take i xs)) x ≡ Some f
    → refused_from k h xs ≡ Some (k + i, f)
refused-place k h [] i x f inside is all fault = absurd (omega (arith, inside))
refused-place k h (y ∷ ys) zero x f inside is all fault =
    let here : refusal h y ≡ Some f = subst (λ z. refusal h z ≡ Some f) is fault in
    let place : k ≡ k + 0 = omega arith in
    rw here (ap (λ n. Some (n, f)) place)
refused-place k h (y ∷ ys) (suc i) x f inside is all fault =
    let place : suc k + i ≡ k + suc i = omega arith in
    rw all.0 (refused-place (suc k) (and_then h y) ys i x f (omega (arith, inside)) is all.1 fault ∙ ap (λ n. Some (n, f)) place)

-- ---- more room

journal-kept : (es : List Entry) (old between new : TablesView) → IsKept between new → HaveGrown between.rooms new.rooms → IsJournalOf es old between → IsJournalOf es old new
journal-kept es old between new kept grown back =
    let lists = ap (λ (t : TablesView). t.lists) kept in
    let supers = ap (λ (t : TablesView). t.supers) kept in
    let order = ap (λ (t : TablesView). t.order) kept in
    let many = ap length supers in
    let more = fit-all between.rooms new.rooms (length between.supers) (length new.supers) between.lists between.order es grown (omega (arith, many)) back.room in
    record {
      lists = ap (before_all lists_before es) lists ∙ back.lists;
      supers = ap (before_all supers_before es) supers ∙ back.supers;
      order = ap (before_all order_before es) order ∙ back.order;
      grown = grown-on old.rooms between.rooms new.rooms back.grown grown;
      room = subst (λ o. AllFitBack new.rooms (length new.supers) new.lists o es) (sym order) (subst (λ ls. AllFitBack new.rooms (length new.supers) ls between.order es) (sym lists) more);
    }

pub made-kept : (xs : List Change) (journal : List Entry) (old between new : TablesView) → IsKept between new → HaveGrown between.rooms new.rooms → IsMade xs journal old between → IsMade xs journal old new
made-kept xs journal old between new kept grown made = record {
  back = journal-kept journal old between new kept grown made.back;
  stands = λ h stands. let (all, now) = made.stands h stands in (all, stands-kept between new (and_all h xs) kept now);
  places = made.places;
  made = made.made;
  undone = made.undone;
  listed = made.listed;
  beside = record {
    count = ap (λ (t : TablesView). length t.supers) kept ∙ made.beside.count;
    rest = made.beside.rest ∙ sym (ap (λ (t : TablesView). record t { supers = old.supers; order = old.order; lists = old.lists; rooms = old.rooms; row_count = old.row_count; change_count = old.change_count }) kept);
  };
}
