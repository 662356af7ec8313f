-- The changes that take a journal back are those that take its list back.
use Rattle.std.proofs.Common.{◌≡◌, ◌<◌, ℕ, zero, suc, List, [], ◌∷◌, ◌++◌, append_assoc, append-nil, Option, Some, None, Bool, true, false, cond, refl, sym, ap, ap₂, ◌∙◌, arith}
use Rattle.std.specs.Prelude.{is_some, reverse, IsSome}
use Rattle.std.specs.Option.{option_map_or}
use Rattle.std.proofs.lemmas.List.{map-append, reverse-append}
use Rattle.std.proofs.Common.{suc-le-suc, zero-le}
use Rattle.std.proofs.Math.Bridge.{le_prop}
use Rattle.msg_tables.specs.declared.entry.Entry.TheVariants.{Added}
use Rattle.msg_names.specs.ClassRef.{same_class}
use Rattle.msg_names.specs.declared.value.ClassRef.{ClassRef}
use Rattle.msg_names.specs.declared.value.Selector.{Selector}
use Rattle.msg_names.specs.declared.value.ImpRef.{ImpRef}
use Rattle.msg_names.specs.Number.{selector_number, imp_number, imp_ref_of, selector_of}
use Rattle.msg_tables.specs.declared.change.Change.{Change}
use Rattle.msg_tables.specs.declared.change.Change.TheVariants.{Replace, SetImp, Exchange, Attach, AddClass, Remove, DisposeClass}
use Rattle.msg_tables.specs.declared.edit.MethodRow.{MethodRow}
use Rattle.msg_tables.specs.declared.edit.Edit.TheVariants as edit
use Rattle.msg_tables.specs.declared.entry.Entry.{Entry}
use Rattle.msg_tables.specs.declared.presence.Presence.{Presence}
use Rattle.msg_tables.specs.Log.{Log, table, table_after_all, holder, lookup}
use Rattle.msg_tables.specs.After.{of_class, of_meta, table_after}
use Rattle.msg_tables.specs.Chain.{presence_of}
use Rattle.msg_tables.specs.Journal.{added_all, cover_all, undo_entry, undo_journal, undo_own, edit_undo, IsImpOf}
use Rattle.msg_rows.specs.Methods.{method_numbers}
use Rattle.msg_tables.specs.Refusal.{has_own}
use Rattle.msg_rows.specs.RowList.{own_in}
use Rattle.msg_tables.specs.Rows.{ClassTable, Row, own}
use Rattle.msg_tables.specs.Stands.{StandsAt, pairs_at}
use Rattle.msg_tables.specs.Undo.{covering, covering_all, removing, undo, undo_all}
use Rattle.msg_tables.specs.View.{TablesView, kept}
use Rattle.msg_tables.proofs.LookupLemmas.{own-pairs_at}

-- ---- one after another

pub undo_journal-append : (xs ys : List Entry) → undo_journal (xs ++ ys) ≡ undo_journal ys ++ undo_journal xs
undo_journal-append [] ys = sym (append-nil (undo_journal ys))
undo_journal-append (x ∷ xs) ys = ap (λ cs. cs ++ undo_entry x ∷ []) (undo_journal-append xs ys) ∙ append_assoc (undo_journal ys) (undo_journal xs) (undo_entry x ∷ [])

pub undo_all-snoc : (t : ClassTable) (xs : List Change) (x : Change) → undo_all t (xs ++ x ∷ []) ≡ undo (table_after_all t xs) x ++ undo_all t xs
undo_all-snoc t [] x = sym (append-nil (undo t x))
undo_all-snoc t (y ∷ ys) x = ap (λ cs. cs ++ undo t y) (undo_all-snoc (table_after t y) ys x) ∙ append_assoc (undo (table_after_all t (y ∷ ys)) x) (undo_all (table_after t y) ys) (undo t y)

-- ---- what an edit's entries give back

pub undone-own : (t : TablesView) (r : MethodRow) (i : ImpRef) → IsImpOf t r i → Replace r.class r.sel i ∷ [] ≡ undo_own t r
undone-own t r i is = rw is refl

pub undone-both : (t : TablesView) (a b : MethodRow) (i j : ImpRef) → IsImpOf t a i → IsImpOf t b j → Replace b.class b.sel j ∷ Replace a.class a.sel i ∷ [] ≡ undo_own t b ++ undo_own t a
undone-both t a b i j is js = rw (is, js) refl

pub undone-added : (c : ClassRef) (ms : List (ℕ × ℕ)) → undo_journal (added_all c (reverse ms)) ≡ removing c ms
undone-added c [] = refl
undone-added c (m ∷ ms) =
    ap (λ ns. undo_journal (added_all c ns)) (reverse-append (m ∷ []) ms) ∙ ap undo_journal (map-append (λ (n : ℕ × ℕ). Added c (selector_of n.0)) (reverse ms) (m ∷ []))
    ∙ undo_journal-append (added_all c (reverse ms)) (added_all c (m ∷ [])) ∙ ap (λ cs. Remove c (selector_of m.0) ∷ cs) (undone-added c ms)

-- a selector is that of its number
pub selector-same : (s : Selector) → selector_of (selector_number s) ≡ s
selector-same s = step s.number s.positive
  where
    step : (n : ℕ) (p : 0 < n) → selector_of n ≡ record { number = n; positive = p }
    step zero p = absurd (omega (arith, p))
    step (suc n) p = λ k. record { number = suc n; positive = le_prop (suc-le-suc zero-le) p k }

-- ---- of an edit that was judged

-- rows of a class reference are added again
pub covering-pairs : (c : ClassRef) (rows : List Row) → cover_all c (pairs_at c rows) ≡ covering_all c rows
covering-pairs c [] = refl
covering-pairs c (r ∷ rs) = step (same_class r.class c) (covering-pairs c rs)
  where
    step : (b : Bool) → cover_all c (pairs_at c rs) ≡ covering_all c rs → cover_all c (cond b ((r.sel, r.imp) ∷ pairs_at c rs) (pairs_at c rs)) ≡ cond b (covering c r.sel r.imp ∷ covering_all c rs) (covering_all c rs)
    step true e = ap (λ cs. covering c r.sel r.imp ∷ cs) e
    step false e = e

module _ (t : TablesView) (h : Log) (stands : StandsAt t h) where
  own-stands : (c : ClassRef) (s : ℕ) → own_in s (kept t.lists c) ≡ own (table h).rows c s
  own-stands c s = ap (own_in s) (stands.rows.at c) ∙ sym (own-pairs_at c s (table h).rows)

  pub undo-replace : (r : MethodRow) → IsSome (own_in (selector_number r.sel) (kept t.lists r.class)) → edit_undo t (edit.Rewrite r) ≡ undo (table h) (Replace r.class r.sel r.imp)
  undo-replace r there = ap (λ o. option_map_or (λ i. Replace r.class r.sel (imp_ref_of i) ∷ []) o []) (own-stands r.class (selector_number r.sel)) ∙ step (own (table h).rows r.class (selector_number r.sel)) (sym (ap is_some (own-stands r.class (selector_number r.sel))) ∙ there)
    where
      step : (o : Option ℕ) → is_some o ≡ true → option_map_or (λ i. Replace r.class r.sel (imp_ref_of i) ∷ []) o [] ≡ option_map_or (λ i. Replace r.class r.sel (imp_ref_of i)) o (Remove r.class r.sel) ∷ []
      step None e = cc
      step (Some i) e = refl

  pub undo-replace-add : (r : MethodRow) → has_own h r.class (selector_number r.sel) ≡ false → edit_undo t (edit.Append r) ≡ undo (table h) (Replace r.class r.sel r.imp)
  unfolding has_own
  undo-replace-add r none = step (own (table h).rows r.class (selector_number r.sel)) none
    where
      step : (o : Option ℕ) → is_some o ≡ false → Remove r.class r.sel ∷ [] ≡ option_map_or (λ i. Replace r.class r.sel (imp_ref_of i)) o (Remove r.class r.sel) ∷ []
      step None e = refl
      step (Some i) e = cc

  pub undo-set : (c p : ClassRef) (s : Selector) (i found : ImpRef) → holder h c (selector_number s) ≡ Some p → lookup h c (selector_number s) ≡ imp_number found → own_in (selector_number s) (kept t.lists p) ≡ Some (imp_number found)
      → edit_undo t (edit.Rewrite (record { class = p; sel = s; imp = i })) ≡ undo (table h) (SetImp c s i)
  unfolding holder lookup
  undo-set c p s i found holds looks own = rw (own, holds, looks) refl

  pub undo-exchange : (c d p q : ClassRef) (s u : Selector) (i j one two : ImpRef) → holder h c (selector_number s) ≡ Some p → lookup h c (selector_number s) ≡ imp_number one → own_in (selector_number s) (kept t.lists p) ≡ Some (imp_number one)
      → holder h d (selector_number u) ≡ Some q → lookup h d (selector_number u) ≡ imp_number two → own_in (selector_number u) (kept t.lists q) ≡ Some (imp_number two)
      → edit_undo t (edit.RewriteBoth (record { class = p; sel = s; imp = i }) (record { class = q; sel = u; imp = j })) ≡ undo (table h) (Exchange c s d u)
  unfolding holder lookup
  undo-exchange c d p q s u i j one two holds looks own holds' looks' own' = rw (own, own', holds, looks, holds', looks') refl

  pub undo-remove : (c : ClassRef) (s : Selector) → edit_undo t (edit.Remove c s) ≡ undo (table h) (Remove c s)
  undo-remove c s = ap (λ o. option_map_or (λ i. covering c (selector_number s) i ∷ []) o []) (own-stands c (selector_number s))

  pub undo-dispose : (k : ℕ) → edit_undo t (edit.Dispose k) ≡ undo (table h) (DisposeClass k)
  undo-dispose k =
      ap (λ ss. option_map_or (λ (p : Presence). AddClass k p.superclass ∷ cover_all (of_class k) (kept t.lists (of_class k)) ++ cover_all (of_meta k) (kept t.lists (of_meta k))) (presence_of ss k) []) stands.supers
      ∙ ap₂ (λ xs ys. option_map_or (λ (p : Presence). AddClass k p.superclass ∷ xs ++ ys) (presence_of (table h).supers k) [])
      (ap (cover_all (of_class k)) (stands.rows.at (of_class k)) ∙ covering-pairs (of_class k) (table h).rows)
      (ap (cover_all (of_meta k)) (stands.rows.at (of_meta k)) ∙ covering-pairs (of_meta k) (table h).rows)

  pub undo-cover : (r : MethodRow) → edit_undo t (edit.Append r) ≡ undo (table h) (covering r.class (selector_number r.sel) (imp_number r.imp))
  undo-cover r = step r.class.meta refl
    where
      step : (b : Bool) → r.class.meta ≡ b → Remove r.class r.sel ∷ [] ≡ undo (table h) (cond b (Attach r.class.class [] ((selector_number r.sel, imp_number r.imp) ∷ [])) (Attach r.class.class ((selector_number r.sel, imp_number r.imp) ∷ []) []))
      step true e = λ k. Remove (record { class = r.class.class; meta = e k }) (sym (selector-same r.sel) k) ∷ []
      step false e = λ k. Remove (record { class = r.class.class; meta = e k }) (sym (selector-same r.sel) k) ∷ []

-- ---- rows that are noted, from the last to the first

pub noted-next : (journal : List Entry) (c : ClassRef) (rest all : List (Selector × ImpRef)) (m : Selector × ImpRef) → all ≡ rest ++ m ∷ []
    → (journal ++ Added c m.0 ∷ []) ++ added_all c (reverse (method_numbers rest)) ≡ journal ++ added_all c (reverse (method_numbers all))
noted-next journal c rest all m is =
    let pair : ℕ × ℕ = (selector_number m.0, imp_number m.1) in
    let turned : reverse (method_numbers all) ≡ pair ∷ reverse (method_numbers rest) =
    ap (λ ms. reverse (method_numbers ms)) is ∙ ap reverse (map-append (λ (n : Selector × ImpRef). (selector_number n.0, imp_number n.1)) rest (m ∷ [])) ∙ reverse-append (method_numbers rest) (pair ∷ []) in
    append_assoc journal (Added c m.0 ∷ []) (added_all c (reverse (method_numbers rest)))
    ∙ ap (λ s. journal ++ Added c s ∷ added_all c (reverse (method_numbers rest))) (sym (selector-same m.0))
    ∙ ap (λ ms. journal ++ added_all c ms) (sym turned)
