-- Memory that is lacking, and room that is kept.
use Rattle.std.proofs.Common.{◌≡◌, ◌<◌, ◌≤◌, ◌+◌, ◌⊎◌, inl, inr, ℕ, suc, List, [], ◌∷◌, ◌++◌, take, length, length-append, Option, Some, None, Bool, true, false, cond, refl, sym, ap, ◌∙◌, subst, slice_index_or, arith}
use Rattle.std.specs.Prelude.{is_some, reverse}
use Rattle.std.specs.Option.{option_map_or}
use Rattle.std.proofs.lemmas.List.{length-map, length-reverse, take_more}
use Rattle.msg_names.specs.ClassRef.{same_class, slot_of}
use Rattle.msg_names.specs.Number.{selector_number, imp_number, imp_ref_of, selector_of}
use Rattle.msg_tables.specs.declared.change.Change.TheVariants.{AddClass, Remove, Replace}
use Rattle.msg_names.specs.declared.value.ClassRef.{ClassRef}
use Rattle.msg_names.proofs.ClassRefLemmas.{same_class-refl}
use Rattle.msg_tables.specs.After.{of_class, of_meta, rows_after, rows_at, table_after}
use Rattle.msg_tables.specs.Chain.{presence_of}
use Rattle.msg_tables.specs.Edits.{EditLacksRoom, IsOfTables, edited}
use Rattle.msg_tables.specs.Journal.{edit_undo, entry_count, cover_all, undo_own}
use Rattle.msg_tables.specs.ListLaws.{HoldsAtMost}
use Rattle.msg_tables.specs.Log.{Log, and_then, table, table_after_all}
use Rattle.msg_tables.specs.Making.{AreHeld}
use Rattle.msg_rows.specs.RowList.{HaveGrown, own_in}
use Rattle.msg_tables.specs.Rows.{Row}
use Rattle.msg_tables.specs.Several.{and_all}
use Rattle.msg_tables.specs.Stands.{StandsAt, pairs_at}
use Rattle.msg_tables.specs.Undo.{count_at, covering, removing, undo, undo_all}
use Rattle.msg_tables.specs.View.{IsKept, IsWithinRoom, LacksRoom, TablesView, kept, room_of}
use Rattle.msg_tables.specs.declared.change.Change.{Change}
use Rattle.msg_tables.specs.declared.edit.Edit.{Edit}
use Rattle.msg_tables.specs.declared.edit.Edit.TheVariants as edit
use Rattle.msg_tables.specs.declared.presence.Presence.{Presence}
use Rattle.msg_tables.proofs.HoldsLemmas.{pairs_at-append, pairs_at-rows_at, class-apart, meta-apart}
use Rattle.msg_tables.proofs.LogLemmas.{table-and_then}
use Rattle.msg_tables.proofs.MakingLemmas.{and_all-snoc}
use Rattle.msg_tables.proofs.SeveralLemmas.{table-and_all}
use Rattle.msg_tables.proofs.UndoJournalLemmas.{undo_all-snoc}

-- ---- rows of a class reference

pub count-pairs : (c : ClassRef) (rows : List Row) → count_at (λ d. same_class d c) rows ≡ length (pairs_at c rows)
count-pairs c [] = refl
count-pairs c (r ∷ rs) = step (same_class r.class c) (count-pairs c rs)
  where
    step : (b : Bool) → count_at (λ d. same_class d c) rs ≡ length (pairs_at c rs) → cond b 1 0 + count_at (λ d. same_class d c) rs ≡ length (cond b ((r.sel, r.imp) ∷ pairs_at c rs) (pairs_at c rs))
    step true e = omega (arith, e)
    step false e = omega (arith, e)

-- there is room for the rows that are there
pub count-within : (t : TablesView) (h : Log) (c : ClassRef) → StandsAt t h → IsWithinRoom t → count_at (λ d. same_class d c) (table h).rows ≤ room_of t c
count-within t h c stands within = let a = count-pairs c (table h).rows in let b = ap length (stands.rows.at c) in let d = within c in omega (arith, a, b, d)

pub within-kept : (old new : TablesView) → IsKept old new → HaveGrown old.rooms new.rooms → IsWithinRoom old → IsWithinRoom new
within-kept old new same grown within c =
    let lists = ap (λ (t : TablesView). length (kept t.lists c)) same in
    let more = grown.at (slot_of c) in
    let was = within c in
    omega (arith, lists, more, was)

-- ---- the number of entries of an edit

one-there : {A : Type 0} (o : Option ℕ) (f : ℕ → A) → is_some o ≡ true → length (option_map_or (λ i. f i ∷ []) o []) ≡ 1
one-there None f e = cc
one-there (Some i) f e = refl

class-there : (o : Option Presence) (f : Presence → Change) (xs : List Change) → is_some o ≡ true → length (option_map_or (λ (p : Presence). f p ∷ xs) o []) ≡ suc (length xs)
class-there None f xs e = cc
class-there (Some p) f xs e = refl

pub undo-count : (t : TablesView) (e : Edit) → IsOfTables t e → length (edit_undo t e) ≡ entry_count t e
undo-count t (edit.Append r) named = refl
undo-count t (edit.Rewrite r) named = one-there (own_in (selector_number r.sel) (kept t.lists r.class)) (λ i. Replace r.class r.sel (imp_ref_of i)) named.own
undo-count t (edit.RewriteBoth a b) named =
    let one = one-there (own_in (selector_number a.sel) (kept t.lists a.class)) (λ i. Replace a.class a.sel (imp_ref_of i)) named.0.own in
    let two = one-there (own_in (selector_number b.sel) (kept t.lists b.class)) (λ i. Replace b.class b.sel (imp_ref_of i)) named.1.own in
    let all = length-append (undo_own t b) (undo_own t a) in
    omega (arith, all, one, two)
undo-count t (edit.Attach k methods class_methods) named =
    let all = length-append (removing (of_meta k) class_methods.now) (removing (of_class k) methods.now) in
    let own = length-map methods.now (λ (m : ℕ × ℕ). Remove (of_class k) (selector_of m.0)) in
    let meta = length-map class_methods.now (λ (m : ℕ × ℕ). Remove (of_meta k) (selector_of m.0)) in
    omega (arith, all, own, meta)
undo-count t (edit.Make k d) named = refl
undo-count t (edit.Remove c s) named = one-there (own_in (selector_number s) (kept t.lists c)) (λ i. covering c (selector_number s) i) named.1
undo-count t (edit.Dispose k) named =
    let own = kept t.lists (of_class k) in
    let meta = kept t.lists (of_meta k) in
    let there = class-there (presence_of t.supers k) (λ p. AddClass k p.superclass) (cover_all (of_class k) own ++ cover_all (of_meta k) meta) named.0 in
    let all = length-append (cover_all (of_class k) own) (cover_all (of_meta k) meta) in
    let a = length-map own (λ (m : ℕ × ℕ). covering (of_class k) m.0 m.1) in
    let b = length-map meta (λ (m : ℕ × ℕ). covering (of_meta k) m.0 m.1) in
    omega (arith, there, all, a, b)

-- ---- rows for which there is no room

module _ (old : TablesView) (h : Log) (stands : StandsAt old h) where
  abbrev CountAfter : List Row → ClassRef → ℕ
  CountAfter rows c = count_at (λ d. same_class d c) rows

  -- this number of further rows of a class reference is too much
  too-many : (c : ClassRef) (n : ℕ) (rows : List Row) → length (pairs_at c rows) ≡ length (pairs_at c (table h).rows) + n → LacksRoom old c n → room_of old c < count_at (λ d. same_class d c) rows
  too-many c n rows more lacks = let a = count-pairs c rows in let b = ap length (stands.rows.at c) in omega (arith, a, b, more, lacks)

  added-here : (c : ClassRef) (ms : List (ℕ × ℕ)) (rows : List Row) → length (pairs_at c (rows ++ rows_at c ms)) ≡ length (pairs_at c rows) + length ms
  added-here c ms rows =
      ap length (pairs_at-append c rows (rows_at c ms)) ∙ length-append (pairs_at c rows) (pairs_at c (rows_at c ms))
      ∙ ap (λ ps. length (pairs_at c rows) + length ps) (pairs_at-rows_at c c true ms (same_class-refl c))

  added-there : (c d : ClassRef) (ms : List (ℕ × ℕ)) (rows : List Row) → same_class c d ≡ false → length (pairs_at d (rows ++ rows_at c ms)) ≡ length (pairs_at d rows)
  added-there c d ms rows e =
      ap length (pairs_at-append d rows (rows_at c ms)) ∙ length-append (pairs_at d rows) (pairs_at d (rows_at c ms))
      ∙ ap (λ ps. length (pairs_at d rows) + length ps) (pairs_at-rows_at c d false ms e) ∙ none (length (pairs_at d rows))
    where
      none : (n : ℕ) → n + 0 ≡ n
      none n = omega arith

  pub lacks-more : (e : Edit) → EditLacksRoom old e → (c : ClassRef) × (room_of old c < count_at (λ d. same_class d c) (edited e (table h).rows))
  lacks-more (edit.Append r) lacks = (r.class, too-many r.class 1 (edited (edit.Append r) (table h).rows) (added-here r.class ((selector_number r.sel, imp_number r.imp) ∷ []) (table h).rows) lacks)
  lacks-more (edit.Rewrite r) lacks = absurd lacks
  lacks-more (edit.RewriteBoth a b) lacks = absurd lacks
  lacks-more (edit.Attach k methods class_methods) lacks = at lacks
    where
      rows : List Row
      rows = (table h).rows

      own : List (ℕ × ℕ)
      own = reverse methods.now

      meta : List (ℕ × ℕ)
      meta = reverse class_methods.now

      assoc : edited (edit.Attach k methods class_methods) (table h).rows ≡ ((table h).rows ++ rows_at (of_class k) (reverse methods.now)) ++ rows_at (of_meta k) (reverse class_methods.now)
      assoc = refl

      at : LacksRoom old (of_class k) (length methods.now) ⊎ LacksRoom old (of_meta k) (length class_methods.now) → (c : ClassRef) × (room_of old c < count_at (λ d. same_class d c) (edited (edit.Attach k methods class_methods) (table h).rows))
      at (inl first) =
          let a = added-there (of_meta k) (of_class k) (reverse class_methods.now) ((table h).rows ++ rows_at (of_class k) (reverse methods.now)) (meta-apart k) in
          let b = added-here (of_class k) (reverse methods.now) (table h).rows in
          let n = length-reverse methods.now in
          (of_class k, too-many (of_class k) (length methods.now) (edited (edit.Attach k methods class_methods) (table h).rows) (a ∙ b ∙ ap (λ m. length (pairs_at (of_class k) (table h).rows) + m) n) first)
      at (inr second) =
          let a = added-here (of_meta k) (reverse class_methods.now) ((table h).rows ++ rows_at (of_class k) (reverse methods.now)) in
          let b = added-there (of_class k) (of_meta k) (reverse methods.now) (table h).rows (class-apart k) in
          let n = length-reverse class_methods.now in
          (of_meta k, too-many (of_meta k) (length class_methods.now) (edited (edit.Attach k methods class_methods) (table h).rows) (omega (arith, a, b, n)) second)
  lacks-more (edit.Make k d) lacks = absurd lacks
  lacks-more (edit.Remove c s) lacks = absurd lacks
  lacks-more (edit.Dispose k) lacks = absurd lacks

  pub wants-rows : (x : Change) (e : Edit) (count room : ℕ) → rows_after (table h) x ≡ edited e (table h).rows → EditLacksRoom old e
      → (room < count + length (undo (table h) x)) ⊎ ((c : ClassRef) × (room_of old c < count_at (λ d. same_class d c) (table (and_then h x)).rows))
  unfolding table_after
  wants-rows x e count room is lacks =
      let (c, less) = lacks-more e lacks in
      let now : (table (and_then h x)).rows ≡ edited e (table h).rows = ap (λ t. t.rows) (table-and_then h x) ∙ is in
      inr (c, subst (λ rows. room_of old c < count_at (λ d. same_class d c) rows) (sym now) less)

-- ---- of a list

held-snoc : (n m : ℕ) (c : ClassRef) (h : Log) (xs : List Change) (x : Change) → n ≤ m → HoldsAtMost n c h xs → count_at (λ d. same_class d c) (table (and_then (and_all h xs) x)).rows ≤ m → HoldsAtMost m c h (xs ++ x ∷ [])
held-snoc n m c h [] x le holds last = (omega (arith, le, holds), last)
held-snoc n m c h (y ∷ ys) x le holds last = (omega (arith, le, holds.0), held-snoc n m c (and_then h y) ys x le holds.1 last)

held-last : (n : ℕ) (c : ClassRef) (h : Log) (xs : List Change) → HoldsAtMost n c h xs → count_at (λ d. same_class d c) (table (and_all h xs)).rows ≤ n
held-last n c h [] holds = holds
held-last n c h (x ∷ xs) holds = held-last n c (and_then h x) xs holds.1

pub held-none : (t : TablesView) → IsWithinRoom t → AreHeld [] t t
held-none t within h stands c = count-within t h c stands within

pub held-next : (xs : List Change) (i : ℕ) (x : Change) (old between new : TablesView) → i < length xs → x ≡ slice_index_or xs i x → AreHeld (take i xs) old between → HaveGrown between.rooms new.rooms → IsWithinRoom new
    → ((h : Log) → StandsAt old h → StandsAt new (and_then (and_all h (take i xs)) x)) → AreHeld (take (i + 1) xs) old new
held-next xs i x old between new inside is held grown within after h stands c =
    subst (HoldsAtMost (room_of new c) c h) (sym (take_more xs i x inside ∙ ap (λ y. take i xs ++ y ∷ []) (sym is)))
    (held-snoc (room_of between c) (room_of new c) c h (take i xs) x (grown.at (slot_of c)) (held h stands c) (count-within new (and_then (and_all h (take i xs)) x) c (after h stands) within))

-- if memory is lacking for one more change
pub wants-next : (xs : List Change) (i : ℕ) (x : Change) (h : Log) (old between : TablesView) (start room count : ℕ) → i < length xs → x ≡ slice_index_or xs i x → HaveGrown old.rooms between.rooms → start ≤ room → count ≡ length (undo_all (table h) (take i xs))
    → (room < count + length (undo (table (and_all h (take i xs))) x)) ⊎ ((c : ClassRef) × (room_of between c < count_at (λ d. same_class d c) (table (and_then (and_all h (take i xs)) x)).rows))
    → (start < length (undo_all (table h) (take (i + 1) xs))) ⊎ ((c : ClassRef) × (HoldsAtMost (room_of old c) c h (take (i + 1) xs) → ⊥))
wants-next xs i x h old between start room count inside is grown le counted wants =
    subst (λ ys. (start < length (undo_all (table h) ys)) ⊎ ((c : ClassRef) × (HoldsAtMost (room_of old c) c h ys → ⊥))) (sym (take_more xs i x inside ∙ ap (λ y. take i xs ++ y ∷ []) (sym is))) (at wants)
  where
    at : (room < count + length (undo (table (and_all h (take i xs))) x)) ⊎ ((c : ClassRef) × (room_of between c < count_at (λ d. same_class d c) (table (and_then (and_all h (take i xs)) x)).rows))
        → (start < length (undo_all (table h) (take i xs ++ x ∷ []))) ⊎ ((c : ClassRef) × (HoldsAtMost (room_of old c) c h (take i xs ++ x ∷ []) → ⊥))
    at (inl few) =
        let all = ap length (undo_all-snoc (table h) (take i xs) x) in
        let same = ap (λ t. length (undo t x)) (table-and_all h (take i xs)) in
        let parts = length-append (undo (table_after_all (table h) (take i xs)) x) (undo_all (table h) (take i xs)) in
        inl (omega (arith, few, all, same, parts, le, counted))
    at (inr (c, less)) =
        inr (
          c,
          λ holds.
              let last = held-last (room_of old c) c h (take i xs ++ x ∷ []) holds in
              let end = ap (λ k. count_at (λ d. same_class d c) (table k).rows) (and_all-snoc h (take i xs) x) in
              let more = grown.at (slot_of c) in
              absurd (omega (arith, last, end, more, less)),
        )
