-- Rows that are removed from a class reference one after another, and a class that is disposed of.
use Rattle.std.proofs.Common.{◌≡◌, ◌<◌, ◌+◌, ◌-◌, ℕ, suc, List, [], ◌∷◌, ◌++◌, append-nil, append_assoc, length, length-append, slice_get, Option, Some, None, option_map, Bool, true, false, cond, refl, sym, ap, ap₂, ◌∙◌, subst, arith}
use Rattle.std.specs.Prelude.{◌==◌, ◌&&◌, ◌||◌, slice_set}
use Rattle.std.specs.Option.{option_map_or}
use Rattle.std.proofs.lemmas.List.{get_or-set_same, map-append}
use Rattle.std.proofs.lemmas.Option.{same_Some}
use Rattle.msg_names.specs.ClassRef.{same_class, slot_of}
use Rattle.msg_names.specs.Number.{selector_number, imp_number}
use Rattle.msg_names.specs.declared.value.ClassRef.{ClassRef}
use Rattle.msg_names.specs.declared.value.Selector.{Selector}
use Rattle.msg_names.proofs.ClassRefLemmas.{same_class-is}
use Rattle.msg_names.proofs.TestLemmas.{equal}
use Rattle.msg_tables.specs.After.{of_class, of_meta, without_class}
use Rattle.msg_tables.specs.Chain.{is_member, presence_of}
use Rattle.msg_tables.specs.Journal.{AllNameListed, IsJournalOf, IsRemoved, Journals, TakesRows, TellsDisposed, TellsRemoved, classes_of, cover_all, places_of, undo_entry, undo_journal}
use Rattle.msg_rows.specs.RowList.{last_row, own_in, without_row}
use Rattle.msg_tables.specs.Several.{is_of_one}
use Rattle.msg_tables.specs.Stands.{Holds}
use Rattle.msg_tables.specs.Undo.{covering}
use Rattle.msg_tables.specs.View.{TablesView, kept}
use Rattle.msg_tables.specs.declared.change.Change.{Change}
use Rattle.msg_tables.specs.declared.change.Change.TheVariants.{AddClass}
use Rattle.msg_tables.specs.declared.edit.Edit.TheVariants as edit
use Rattle.msg_tables.specs.declared.entry.Entry.{Entry}
use Rattle.msg_tables.specs.declared.presence.Presence.{Presence}
use Rattle.msg_tables.proofs.EditLemmas.{holds-dispose}
use Rattle.msg_tables.proofs.HoldsLemmas.{kept-other, meta-apart}
use Rattle.msg_tables.proofs.JournalLemmas.{journal-append, journal-none, set-as_was, set-twice}
use Rattle.msg_tables.proofs.NoteLemmas.{classes-append, listed-append, places-append, places-made, member-append, or-split}
use Rattle.msg_tables.proofs.UndoJournalLemmas.{undo_journal-append}

-- ---- the last row

pub last-split : (ms : List (ℕ × ℕ)) (m : ℕ × ℕ) → last_row ms ≡ Some m → (front : List (ℕ × ℕ)) × (ms ≡ front ++ m ∷ [])
last-split [] m e = cc
last-split (x ∷ []) m e = ([], ap (λ y. y ∷ []) (same_Some x m e))
last-split (x ∷ y ∷ ms) m e =
    let there : last_row (y ∷ ms) ≡ Some m = step ∙ e in
    let (front, is) = last-split (y ∷ ms) m there in
    (x ∷ front, ap (λ ys. x ∷ ys) is)
  where
    step : slice_get (y ∷ ms) (length (y ∷ ms) - 1) ≡ slice_get (x ∷ y ∷ ms) (length (x ∷ y ∷ ms) - 1)
    step =
        let n : length (x ∷ y ∷ ms) - 1 ≡ suc (length (y ∷ ms) - 1) = omega arith in
        sym (ap (slice_get (x ∷ y ∷ ms)) n)

own-last : (s i : ℕ) (ms : List (ℕ × ℕ)) → own_in s (ms ++ (s, i) ∷ []) ≡ Some i
own-last s i [] = rw (equal s) refl
own-last s i (m ∷ ms) = rw (own-last s i ms) refl

without-last : (s i : ℕ) (ms : List (ℕ × ℕ)) → without_row s (ms ++ (s, i) ∷ []) ≡ ms
without-last s i [] = rw (equal s) refl
without-last s i (m ∷ ms) = rw (own-last s i ms) (step (m.0 == s) (without-last s i ms))
  where
    step : (b : Bool) → without_row s (ms ++ (s, i) ∷ []) ≡ ms → cond (b && false) (ms ++ (s, i) ∷ []) (m ∷ without_row s (ms ++ (s, i) ∷ [])) ≡ m ∷ ms
    step true e = ap (λ ys. m ∷ ys) e
    step false e = ap (λ ys. m ∷ ys) e

-- the last row of all is the last of its selector
pub record EndsWith (s : ℕ) (ms : List (ℕ × ℕ)) : Type 0 where
  pub front : List (ℕ × ℕ)
  pub imp : ℕ
  pub is : ms ≡ front ++ (s, imp) ∷ []
  pub own : own_in s ms ≡ Some imp
  pub without : without_row s ms ≡ front

pub ends-with : (s : ℕ) (ms : List (ℕ × ℕ)) → option_map (λ (m : ℕ × ℕ). m.0) (last_row ms) ≡ Some s → EndsWith s ms
ends-with s ms e = step (last_row ms) refl e
  where
    split : (m : ℕ × ℕ) → last_row ms ≡ Some m → m.0 ≡ s → EndsWith s ms
    split m f named =
        let (front, is) = last-split ms m f in
        let same : ◌≡◌ {A = ℕ × ℕ} m (s, m.1) = λ k. (named k, m.1) in
        let whole : ms ≡ front ++ (s, m.1) ∷ [] = is ∙ ap (λ n. front ++ n ∷ []) same in
        record { front = front; imp = m.1; is = whole; own = ap (own_in s) whole ∙ own-last s m.1 front; without = ap (without_row s) whole ∙ without-last s m.1 front }

    step : (o : Option (ℕ × ℕ)) → last_row ms ≡ o → option_map (λ (m : ℕ × ℕ). m.0) o ≡ Some s → EndsWith s ms
    step None f e = cc
    step (Some m) f e = split m f (same_Some m.0 s e)

-- ---- rows of a class reference, one after another

pub takes-none : (c : ClassRef) (journal : List Entry) (t : TablesView) → TakesRows c journal journal t t
takes-none c journal t = record {
  entries = [];
  is = sym (append-nil journal);
  few = omega arith;
  row_count = omega arith;
  lists = sym (set-as_was t.lists (slot_of c) []);
  rest = refl;
  back = journal-none t;
  places = λ d e. cc;
  made = refl;
  undone = append-nil (cover_all c (kept t.lists c));
  listed = tt;
}

cover-append : (c : ClassRef) (xs ys : List (ℕ × ℕ)) → cover_all c (xs ++ ys) ≡ cover_all c xs ++ cover_all c ys
cover-append c xs ys = map-append (λ (m : ℕ × ℕ). covering c m.0 m.1) xs ys

module _ (c : ClassRef) (journal mid : List Entry) (old between new : TablesView) (e : Entry) (s : Selector)
    (inside : slot_of c < length between.lists) (listed : c.class < length old.supers)
    (last : option_map (λ (m : ℕ × ℕ). m.0) (last_row (kept between.lists c)) ≡ Some (selector_number s))
    (gone : IsRemoved c s between new) (fewer : new.row_count + 1 ≡ between.row_count) (tells : TellsRemoved between c s e) (back : IsJournalOf (e ∷ []) between new) where
  ends : EndsWith (selector_number s) (kept between.lists c)
  ends = ends-with (selector_number s) (kept between.lists c) last

  now-lists : new.lists ≡ slice_set between.lists (slot_of c) (ends-with (selector_number s) (kept between.lists c) last).front
  now-lists = ap (λ (t : TablesView). t.lists) gone ∙ ap (slice_set between.lists (slot_of c)) (ends-with (selector_number s) (kept between.lists c) last).without

  now-kept : kept new.lists c ≡ (ends-with (selector_number s) (kept between.lists c) last).front
  now-kept = ap (λ ls. kept ls c) now-lists ∙ get_or-set_same between.lists (slot_of c) (ends-with (selector_number s) (kept between.lists c) last).front [] inside

  imp-is : imp_number tells.imp ≡ (ends-with (selector_number s) (kept between.lists c) last).imp
  imp-is = same_Some (imp_number tells.imp) (ends-with (selector_number s) (kept between.lists c) last).imp (sym tells.own ∙ (ends-with (selector_number s) (kept between.lists c) last).own)

  now-rest : new ≡ record between { lists = new.lists; rooms = new.rooms; row_count = new.row_count }
  now-rest = gone ∙ ap (λ ls. record between { lists = ls; rooms = new.rooms; row_count = new.row_count }) (sym (ap (λ (t : TablesView). t.lists) gone))

  covered : cover_all c (kept new.lists c) ++ undo_entry e ∷ [] ≡ cover_all c (kept between.lists c)
  covered =
      let end = ends-with (selector_number s) (kept between.lists c) last in
      let entry : undo_entry e ≡ covering c (selector_number s) end.imp = ap undo_entry tells.is ∙ ap (covering c (selector_number s)) imp-is in
      ap₂ (λ ms x. cover_all c ms ++ x ∷ []) now-kept entry ∙ sym (cover-append c end.front ((selector_number s, end.imp) ∷ [])) ∙ ap (cover_all c) (sym end.is)

  pub takes-next : TakesRows c journal mid old between → TakesRows c journal (mid ++ e ∷ []) old new
  takes-next so-far = record {
    entries = so-far.entries ++ e ∷ [];
    is = ap (λ es. es ++ e ∷ []) so-far.is ∙ append_assoc journal so-far.entries (e ∷ []);
    few =
        let end = ends-with (selector_number s) (kept between.lists c) last in
        let a = length-append so-far.entries (e ∷ []) in
        let b = ap length now-kept in
        let d = ap length end.is in
        let f = length-append end.front ((selector_number s, end.imp) ∷ []) in
        let g = so-far.few in
        omega (arith, a, b, d, f, g);
    row_count = let a = length-append so-far.entries (e ∷ []) in let b = so-far.row_count in omega (arith, a, b, fewer);
    lists =
        let end = ends-with (selector_number s) (kept between.lists c) last in
        now-lists ∙ ap (λ ls. slice_set ls (slot_of c) end.front) so-far.lists ∙ set-twice old.lists (slot_of c) (kept between.lists c) end.front ∙ ap (slice_set old.lists (slot_of c)) (sym now-kept);
    rest = now-rest ∙ ap (λ (t : TablesView). record t { lists = new.lists; rooms = new.rooms; row_count = new.row_count }) so-far.rest;
    back = journal-append so-far.entries (e ∷ []) old between new so-far.back back;
    places = λ d there.
        let place : places_of (e ∷ []) ≡ c ∷ [] = ap (λ x. places_of (x ∷ [])) tells.is in
        or-split (is_member d (places_of so-far.entries)) (is_member d (places_of (e ∷ []))) (sym (member-append d (places_of so-far.entries) (places_of (e ∷ []))) ∙ sym (ap (is_member d) (places-append so-far.entries (e ∷ []))) ∙ there)
        (λ before. so-far.places d before)
        (λ here. or-split (same_class d c) false (sym (ap (is_member d) place) ∙ here) (λ same. same_class-is d c same) (λ no. cc));
    made = classes-append so-far.entries (e ∷ []) ∙ ap₂ (λ a b. a ++ b) so-far.made (ap (λ x. classes_of (x ∷ [])) tells.is);
    undone =
        ap (λ xs. cover_all c (kept new.lists c) ++ xs) (undo_journal-append so-far.entries (e ∷ []))
        ∙ sym (append_assoc (cover_all c (kept new.lists c)) (undo_entry e ∷ []) (undo_journal so-far.entries))
        ∙ ap (λ xs. xs ++ undo_journal so-far.entries) covered
        ∙ so-far.undone;
    listed = listed-append (length old.supers) so-far.entries (e ∷ []) so-far.listed (subst (λ x. AllNameListed (length old.supers) (x ∷ [])) (sym tells.is) (listed, tt));
  }

-- ---- a class, with the rows of its metaclass and its own

module _ (k : ℕ) (journal one two : List Entry) (old a b new : TablesView) (e : Entry)
    (inside : slot_of (of_meta k) < length old.lists) (listed : k < length old.supers)
    (x : TakesRows (of_meta k) journal one old a) (none : kept a.lists (of_meta k) ≡ [])
    (y : TakesRows (of_class k) one two a b) (none' : kept b.lists (of_class k) ≡ [])
    (gone : new ≡ record b { supers = slice_set b.supers k None; order = new.order }) (tells : TellsDisposed b k e) (back : IsJournalOf (e ∷ []) b new) where
  supers-b : b.supers ≡ old.supers
  supers-b = ap (λ (t : TablesView). t.supers) y.rest ∙ ap (λ (t : TablesView). t.supers) x.rest

  lists-a : a.lists ≡ slice_set old.lists (slot_of (of_meta k)) []
  lists-a = x.lists ∙ ap (slice_set old.lists (slot_of (of_meta k))) none

  lists-new : new.lists ≡ slice_set (slice_set old.lists (slot_of (of_meta k)) []) (slot_of (of_class k)) []
  lists-new = ap (λ (t : TablesView). t.lists) gone ∙ y.lists ∙ ap₂ (λ ls ms. slice_set ls (slot_of (of_class k)) ms) lists-a none'

  kept-own : kept a.lists (of_class k) ≡ kept old.lists (of_class k)
  kept-own = ap (λ ls. kept ls (of_class k)) lists-a ∙ kept-other old.lists (of_meta k) (of_class k) [] (meta-apart k)

  of-k : (c d : ClassRef) → d ≡ c → c.class ≡ k → is_of_one (k ∷ []) d ≡ true
  of-k c d same is =
      let here : (d.class == k) ≡ true = ap (λ (z : ClassRef). z.class == k) same ∙ ap (λ n. n == k) is ∙ equal k in
      ap (λ b. b || false) here

  pub dispose-noted : Journals (edit.Dispose k) journal (two ++ e ∷ []) old new
  dispose-noted = record {
    writes = record {
      rows = λ rows holds. subst (λ ls. Holds ls (without_class k rows)) (sym lists-new) (holds-dispose old.lists rows k inside holds);
      row_count =
          let r = ap (λ (t : TablesView). t.row_count) gone in
          let f = ap length none in
          let g = ap length none' in
          let h = ap length kept-own in
          let m = x.few in
          let n = y.few in
          let p = x.row_count in
          let q = y.row_count in
          omega (arith, r, f, g, h, m, n, p, q);
      rest =
          gone
          ∙ ap (λ (t : TablesView). record t { supers = slice_set b.supers k None; order = new.order; lists = b.lists; rooms = b.rooms; row_count = b.row_count }) (y.rest ∙ ap (λ (t : TablesView). record t { lists = b.lists; rooms = b.rooms; row_count = b.row_count }) x.rest)
          ∙ ap (λ (t : TablesView). record old { supers = slice_set b.supers k None; order = new.order; lists = t.lists; rooms = t.rooms; row_count = t.row_count }) (sym gone)
          ∙ ap (λ ss. record old { supers = slice_set ss k None; order = new.order; lists = new.lists; rooms = new.rooms; row_count = new.row_count }) supers-b;
    };
    entries = (x.entries ++ y.entries) ++ e ∷ [];
    is = ap (λ es. es ++ e ∷ []) (y.is ∙ ap (λ es. es ++ y.entries) x.is ∙ append_assoc journal x.entries y.entries) ∙ append_assoc journal (x.entries ++ y.entries) (e ∷ []);
    back = journal-append (x.entries ++ y.entries) (e ∷ []) old b new (journal-append x.entries y.entries old a b x.back y.back) back;
    places = places-made (k ∷ []) (places_of ((x.entries ++ y.entries) ++ e ∷ [])) (λ d there.
        let here : places_of (e ∷ []) ≡ [] = ap (λ z. places_of (z ∷ [])) tells.is in
        let all : places_of ((x.entries ++ y.entries) ++ e ∷ []) ≡ places_of x.entries ++ places_of y.entries =
        places-append (x.entries ++ y.entries) (e ∷ []) ∙ ap₂ (λ p q. p ++ q) (places-append x.entries y.entries) here ∙ append-nil (places_of x.entries ++ places_of y.entries) in
        or-split (is_member d (places_of x.entries)) (is_member d (places_of y.entries)) (sym (member-append d (places_of x.entries) (places_of y.entries)) ∙ sym (ap (is_member d) all) ∙ there)
        (λ first. of-k (of_meta k) d (x.places d first) refl) (λ second. of-k (of_class k) d (y.places d second) refl));
    made = classes-append (x.entries ++ y.entries) (e ∷ []) ∙ ap₂ (λ p q. p ++ q) (classes-append x.entries y.entries ∙ ap₂ (λ p q. p ++ q) x.made y.made) (ap (λ z. classes_of (z ∷ [])) tells.is);
    undone =
        let first : undo_journal x.entries ≡ cover_all (of_meta k) (kept old.lists (of_meta k)) = ap (λ ms. cover_all (of_meta k) ms ++ undo_journal x.entries) (sym none) ∙ x.undone in
        let second : undo_journal y.entries ≡ cover_all (of_class k) (kept old.lists (of_class k)) = ap (λ ms. cover_all (of_class k) ms ++ undo_journal y.entries) (sym none') ∙ y.undone ∙ ap (cover_all (of_class k)) kept-own in
        let was : presence_of old.supers k ≡ Some (record { superclass = tells.superclass }) = ap (λ ss. presence_of ss k) (sym supers-b) ∙ tells.was in
        undo_journal-append (x.entries ++ y.entries) (e ∷ [])
        ∙ ap₂ (λ (z : Change) zs. z ∷ zs) (ap undo_entry tells.is) (undo_journal-append x.entries y.entries ∙ ap₂ (λ p q. p ++ q) second first)
        ∙ sym (ap (λ o. option_map_or (λ (p : Presence). AddClass k p.superclass ∷ cover_all (of_class k) (kept old.lists (of_class k)) ++ cover_all (of_meta k) (kept old.lists (of_meta k))) o []) was);
    listed =
        let n = length old.supers in
        let supers-a : a.supers ≡ old.supers = ap (λ (t : TablesView). t.supers) x.rest in
        let ys = subst (λ ss. AllNameListed (length ss) y.entries) supers-a y.listed in
        listed-append n (x.entries ++ y.entries) (e ∷ []) (listed-append n x.entries y.entries x.listed ys) (subst (λ z. AllNameListed n (z ∷ [])) (sym tells.is) (listed, tt));
  }

-- if no row is last, there is none
pub last-none : (ms : List (ℕ × ℕ)) → option_map (λ (m : ℕ × ℕ). m.0) (last_row ms) ≡ None → ms ≡ []
last-none [] e = refl
last-none (x ∷ []) e = cc
last-none (x ∷ y ∷ ms) e =
    let n : length (x ∷ y ∷ ms) - 1 ≡ suc (length (y ∷ ms) - 1) = omega arith in
    let there : option_map (λ (m : ℕ × ℕ). m.0) (last_row (y ∷ ms)) ≡ None = sym (ap (λ i. option_map (λ (m : ℕ × ℕ). m.0) (slice_get (x ∷ y ∷ ms) i)) n) ∙ e in
    let none : y ∷ ms ≡ [] = last-none (y ∷ ms) there in
    cc
