-- Two rows that were rewritten get their implementations again.
use Rattle.std.proofs.Common.{◌≡◌, ◌≢◌, ◌<◌, ℕ, zero, suc, List, [], ◌∷◌, length, Some, Bool, true, false, refl, sym, ap, ap₂, ◌∙◌, subst, arith}
use Rattle.std.specs.Prelude.{◌==◌, ◌&&◌, slice_set, slice_index_or}
use Rattle.std.proofs.lemmas.List.{get_or-set_same, length-set}
use Rattle.msg_names.proofs.TestLemmas.{same_number, equal}
use Rattle.msg_names.proofs.ClassRefLemmas.{slot_of-same, same_class-is, same_class-refl}
use Rattle.msg_names.specs.declared.value.ClassRef.{ClassRef}
use Rattle.msg_names.specs.ClassRef.{same_class, slot_of}
use Rattle.msg_tables.specs.After.{rows_at, set_own}
use Rattle.msg_rows.specs.RowList.{HaveGrown, own_in, set_last}
use Rattle.msg_tables.specs.Rows.{Row}
use Rattle.msg_tables.specs.Stands.{pairs_at}
use Rattle.msg_tables.specs.View.{TablesView, kept}
use Rattle.msg_names.specs.declared.value.ImpRef.{ImpRef}
use Rattle.msg_names.specs.Number.{selector_number, imp_number}
use Rattle.msg_tables.specs.declared.edit.MethodRow.{MethodRow}
use Rattle.msg_tables.specs.declared.entry.Entry.TheVariants.{Rewrote}
use Rattle.msg_tables.specs.Journal.{IsImpOf, IsJournalOf, lists_rewritten}
use Rattle.msg_tables.proofs.HoldsLemmas.{kept-other, pairs_at-rows_at, pairs_at-set_own}
use Rattle.msg_tables.proofs.JournalLemmas.{set-twice, set-as_was, set_last-back}
use Rattle.msg_tables.proofs.RowSetLemmas.{set_own-twice, set_own-apart}
use Rattle.msg_rows.proofs.RoomLemmas.{grown-on}

-- ---- one list

abbrev anywhere : ClassRef
anywhere = record { class = 0; meta = false }

pairs : (ms : List (ℕ × ℕ)) → ms ≡ pairs_at anywhere (rows_at anywhere ms)
pairs ms = sym (pairs_at-rows_at anywhere anywhere true ms refl)

-- twice as once, and in either order, as for rows
as-rows : (s i : ℕ) (rows : List Row) → set_last s i (pairs_at anywhere rows) ≡ pairs_at anywhere (set_own anywhere s i rows)
as-rows s i rows = sym (pairs_at-set_own anywhere s i rows)

two-rows : (s u i j : ℕ) (ms : List (ℕ × ℕ)) → set_last s i (set_last u j ms) ≡ pairs_at anywhere (set_own anywhere s i (set_own anywhere u j (rows_at anywhere ms)))
two-rows s u i j ms = ap (λ ns. set_last s i (set_last u j ns)) (pairs ms) ∙ ap (set_last s i) (as-rows u j (rows_at anywhere ms)) ∙ as-rows s i (set_own anywhere u j (rows_at anywhere ms))

set_last-twice : (s i j : ℕ) (ms : List (ℕ × ℕ)) → set_last s j (set_last s i ms) ≡ set_last s j ms
set_last-twice s i j ms =
    two-rows s s j i ms ∙ ap (pairs_at anywhere) (set_own-twice anywhere s i j (rows_at anywhere ms)) ∙ sym (as-rows s j (rows_at anywhere ms)) ∙ sym (ap (set_last s j) (pairs ms))

set_last-apart : (s u i j : ℕ) (ms : List (ℕ × ℕ)) → (s == u) ≡ false → (u == s) ≡ false → set_last s i (set_last u j ms) ≡ set_last u j (set_last s i ms)
set_last-apart s u i j ms e f =
    two-rows s u i j ms ∙ ap (pairs_at anywhere) (sym (set_own-apart anywhere anywhere s u i j (rows_at anywhere ms) e f)) ∙ sym (two-rows u s j i ms)

set_last-own : (s j : ℕ) (ms : List (ℕ × ℕ)) → own_in s ms ≡ Some j → set_last s j ms ≡ ms
set_last-own s j ms e = sym (set_last-twice s j j ms) ∙ set_last-back s j j ms e

-- ---- one of several lists

abbrev put : ClassRef → ℕ → ℕ → List (List (ℕ × ℕ)) → List (List (ℕ × ℕ))
put c s i lists = slice_set lists (slot_of c) (set_last s i (kept lists c))

put-length : (c : ClassRef) (s i : ℕ) (lists : List (List (ℕ × ℕ))) → length (put c s i lists) ≡ length lists
put-length c s i lists = length-set lists (slot_of c) (set_last s i (kept lists c))

put-read : (c : ClassRef) (s i : ℕ) (lists : List (List (ℕ × ℕ))) → slot_of c < length lists → kept (put c s i lists) c ≡ set_last s i (kept lists c)
put-read c s i lists inside = get_or-set_same lists (slot_of c) (set_last s i (kept lists c)) [] inside

put-two : (c : ClassRef) (s u i j : ℕ) (lists : List (List (ℕ × ℕ))) → slot_of c < length lists → put c s i (put c u j lists) ≡ slice_set lists (slot_of c) (set_last s i (set_last u j (kept lists c)))
put-two c s u i j lists inside =
    ap (λ ms. slice_set (put c u j lists) (slot_of c) (set_last s i ms)) (put-read c u j lists inside)
    ∙ set-twice lists (slot_of c) (set_last u j (kept lists c)) (set_last s i (set_last u j (kept lists c)))

put-twice : (c : ClassRef) (s i j : ℕ) (lists : List (List (ℕ × ℕ))) → slot_of c < length lists → put c s j (put c s i lists) ≡ put c s j lists
put-twice c s i j lists inside = put-two c s s j i lists inside ∙ ap (slice_set lists (slot_of c)) (set_last-twice s i j (kept lists c))

put-own : (c : ClassRef) (s j : ℕ) (lists : List (List (ℕ × ℕ))) → own_in s (kept lists c) ≡ Some j → put c s j lists ≡ lists
put-own c s j lists own = ap (slice_set lists (slot_of c)) (set_last-own s j (kept lists c) own) ∙ set-as_was lists (slot_of c) []

set-apart : {A : Type 0} (xs : List A) (k l : ℕ) (v w : A) → k ≢ l → slice_set (slice_set xs k v) l w ≡ slice_set (slice_set xs l w) k v
set-apart [] k l v w ne = refl
set-apart (x ∷ xs) zero zero v w ne = absurd (ne refl)
set-apart (x ∷ xs) zero (suc l) v w ne = refl
set-apart (x ∷ xs) (suc k) zero v w ne = refl
set-apart (x ∷ xs) (suc k) (suc l) v w ne = ap (λ ys. x ∷ ys) (set-apart xs k l v w (λ e. ne (ap suc e)))

unlike : (c d : ClassRef) → same_class c d ≡ false → slot_of c ≢ slot_of d
unlike c d e h =
    let clash : true ≡ false = sym (subst (λ z. same_class c z ≡ true) (slot_of-same c d h) (same_class-refl c)) ∙ e in
    cc

turned : (c d : ClassRef) → same_class c d ≡ false → same_class d c ≡ false
turned c d e = at (same_class d c) refl
  where
    at : (b : Bool) → same_class d c ≡ b → b ≡ false
    at false f = refl
    at true f =
        let clash : true ≡ false = sym (subst (λ z. same_class z d ≡ true) (same_class-is d c f) (same_class-refl d)) ∙ e in
        cc

unequal : (s u : ℕ) → (s == u) ≡ false → (u == s) ≡ false
unequal s u e = at (u == s) refl
  where
    at : (b : Bool) → (u == s) ≡ b → b ≡ false
    at false f = refl
    at true f =
        let clash : true ≡ false = sym (ap (λ n. s == n) (same_number u s f) ∙ equal s) ∙ e in
        cc

-- at another class reference, or of another selector there
put-apart : (c d : ClassRef) (s u i j : ℕ) (lists : List (List (ℕ × ℕ))) → slot_of c < length lists → (same_class c d && (s == u)) ≡ false → put c s i (put d u j lists) ≡ put d u j (put c s i lists)
put-apart c d s u i j lists inside e = at (same_class c d) refl e
  where
    at : (b : Bool) → same_class c d ≡ b → (b && (s == u)) ≡ false → put c s i (put d u j lists) ≡ put d u j (put c s i lists)
    at true same e =
        subst (λ z. put c s i (put z u j lists) ≡ put z u j (put c s i lists)) (same_class-is c d same)
        (put-two c s u i j lists inside ∙ ap (slice_set lists (slot_of c)) (set_last-apart s u i j (kept lists c) e (unequal s u e)) ∙ sym (put-two c u s j i lists inside))
    at false other e =
        ap (λ ms. slice_set (put d u j lists) (slot_of c) (set_last s i ms)) (kept-other lists d c (set_last u j (kept lists d)) (turned c d other))
        ∙ set-apart lists (slot_of d) (slot_of c) (set_last u j (kept lists d)) (set_last s i (kept lists c)) (λ h. unlike c d other (sym h))
        ∙ sym (ap (λ ms. slice_set (put c s i lists) (slot_of d) (set_last u j ms)) (kept-other lists c d (set_last s i (kept lists c)) other))

-- two rows were rewritten, which may be one
pub put-back : (c d : ClassRef) (s u i j one two : ℕ) (lists : List (List (ℕ × ℕ))) → slot_of c < length lists → slot_of d < length lists → own_in s (kept lists c) ≡ Some one → own_in u (kept lists d) ≡ Some two
    → put c s one (put d u two (put c s i (put d u j lists))) ≡ lists
put-back c d s u i j one two lists inside within first second = at (same_class c d) refl (s == u) refl
  where
    apart : (same_class c d && (s == u)) ≡ false → put c s one (put d u two (put c s i (put d u j lists))) ≡ lists
    apart e =
        ap (put c s one) (sym (put-apart c d s u i two (put d u j lists) (omega (arith, inside, put-length d u j lists)) e))
        ∙ ap (λ ls. put c s one (put c s i ls)) (put-twice d u j two lists within ∙ put-own d u two lists second)
        ∙ put-twice c s i one lists inside
        ∙ put-own c s one lists first

    one-row : d ≡ c → u ≡ s → put c s one (put d u two (put c s i (put d u j lists))) ≡ lists
    one-row class sel =
        ap₂ (λ z n. put c s one (put z n two (put c s i (put z n j lists)))) class sel
        ∙ ap (put c s one) (put-twice c s i two (put c s j lists) (omega (arith, inside, put-length c s j lists)) ∙ put-twice c s j two lists inside)
        ∙ put-twice c s two one lists inside
        ∙ put-own c s one lists first

    at : (a : Bool) → same_class c d ≡ a → (b : Bool) → (s == u) ≡ b → put c s one (put d u two (put c s i (put d u j lists))) ≡ lists
    at false e b f = apart (rw e refl)
    at true e false f = apart (rw (e, f) refl)
    at true e true f = one-row (sym (same_class-is c d e)) (sym (same_number s u f))

-- a list with a row is there
pub own-inside : (lists : List (List (ℕ × ℕ))) (k s i : ℕ) → own_in s (slice_index_or lists k []) ≡ Some i → k < length lists
own-inside [] k s i e = cc
own-inside (ms ∷ lists) zero s i e = omega arith
own-inside (ms ∷ lists) (suc k) s i e = let rest = own-inside lists k s i e in omega (arith, rest)

pub journal-both : (t between new : TablesView) (a b : MethodRow) (one two : ImpRef) → between ≡ record t { lists = lists_rewritten b t.lists; rooms = between.rooms } → new ≡ record between { lists = lists_rewritten a between.lists; rooms = new.rooms } → HaveGrown t.rooms between.rooms → HaveGrown between.rooms new.rooms → IsImpOf t a one → IsImpOf t b two
    → IsJournalOf (Rewrote a.class a.sel one ∷ Rewrote b.class b.sel two ∷ []) t new
journal-both t between new a b one two first second grown more is js =
    let s = selector_number a.sel in
    let u = selector_number b.sel in
    let lists : new.lists ≡ put a.class s (imp_number a.imp) (put b.class u (imp_number b.imp) t.lists) = ap (λ (v : TablesView). v.lists) second ∙ ap (λ (v : TablesView). lists_rewritten a v.lists) first in
    record {
      lists = ap (λ ls. put a.class s (imp_number one) (put b.class u (imp_number two) ls)) lists
          ∙ put-back a.class b.class s u (imp_number a.imp) (imp_number b.imp) (imp_number one) (imp_number two) t.lists (own-inside t.lists (slot_of a.class) s (imp_number one) is) (own-inside t.lists (slot_of b.class) u (imp_number two) js) is js;
      supers = ap (λ (v : TablesView). v.supers) second ∙ ap (λ (v : TablesView). v.supers) first;
      order = ap (λ (v : TablesView). v.order) second ∙ ap (λ (v : TablesView). v.order) first;
      grown = grown-on t.rooms between.rooms new.rooms grown more;
      room = (tt, (tt, tt));
    }
