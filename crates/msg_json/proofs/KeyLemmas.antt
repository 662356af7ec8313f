-- The number of keys, if some come twice.
use Rattle.std.proofs.Common.{◌≡◌, ℕ, suc, ◌+◌, ◌<◌, ◌≤◌, List, [], ◌∷◌, length, drop, take, get_or, Bool, true, false, ◌||◌, cond, Bor, Option, Some, None, is_some, Ordering, Less, Equal, Greater, nat_cmp, bytes_eq, ne_eqb, ◌==◌, drop-cons, add-one, refl, sym, ap, ◌∙◌, arith}
use Rattle.std.proofs.lemmas.Cmp.{nat_list_cmp_total}
use Rattle.std.proofs.lemmas.List.Folds.{list_any_more}
use Rattle.std.specs.Cmp.Lexicographic.{slice_cmp}
use Rattle.std.specs.List.{list_any}
use Rattle.std.specs.Ordering.{match_ordering, ordering_reverse}
use Rattle.std.specs.Prelude.{⊤}
use Rattle.serde_json.specs.Data.{Data, Members, no_members, member, put}
use Rattle.serde_json.specs.Events.{members_len}
use Rattle.serde_json.specs.Find.{get_member}
use Rattle.msg_json.specs.View.{view, entries, with_members}
use Rattle.msg_json.proofs.ViewLemmas.{Entry, put_found}

abbrev cmp : List ℕ → List ℕ → Ordering
cmp = slice_cmp nat_cmp

-- the key comes before the members'
abbrev IsBelow : List ℕ → Members → Type 0
IsBelow k no_members = ⊤
IsBelow k (member l e ms) = (cmp k l ≡ Less) × IsBelow k ms

abbrev pub IsInOrder : Members → Type 0
IsInOrder no_members = ⊤
IsInOrder (member k d ms) = IsBelow k ms × IsInOrder ms

lower : (j k : List ℕ) (ms : Members) → cmp j k ≡ Less → IsBelow k ms → IsBelow j ms
lower j k no_members lt h = tt
lower j k (member l e ms) lt h = (nat_list_cmp_total.trans j k l lt h.0, lower j k ms lt h.1)

below_put : (o : Ordering) (j k l : List ℕ) (d e : Data) (ms : Members) → cmp k l ≡ o → cmp j k ≡ Less → IsBelow j (member l e ms) → IsBelow j (put k d ms)
    → IsBelow j (match_ordering o (member k d (member l e ms)) (member l d ms) (member l e (put k d ms)))
below_put Less j k l d e ms is lt h later = (lt, h)
below_put Equal j k l d e ms is lt h later = h
below_put Greater j k l d e ms is lt h later = (h.0, later)

IsBelow-put : (j k : List ℕ) (d : Data) (ms : Members) → cmp j k ≡ Less → IsBelow j ms → IsBelow j (put k d ms)
IsBelow-put j k d no_members lt h = (lt, tt)
IsBelow-put j k d (member l e ms) lt h = below_put (cmp k l) j k l d e ms refl lt h (IsBelow-put j k d ms lt h.1)

turned : (k l : List ℕ) → cmp k l ≡ Greater → cmp l k ≡ Less
turned k l e = nat_list_cmp_total.antisymm l k ∙ ap ordering_reverse e

order_put : (o : Ordering) (k l : List ℕ) (d e : Data) (ms : Members) → cmp k l ≡ o → IsInOrder (member l e ms) → IsInOrder (put k d ms)
    → IsInOrder (match_ordering o (member k d (member l e ms)) (member l d ms) (member l e (put k d ms)))
order_put Less k l d e ms is h later = ((is, lower k l ms is h.0), h)
order_put Equal k l d e ms is h later = h
order_put Greater k l d e ms is h later = (IsBelow-put l k d ms (turned k l is) h.0, later)

pub IsInOrder-put : (k : List ℕ) (d : Data) (ms : Members) → IsInOrder ms → IsInOrder (put k d ms)
IsInOrder-put k d no_members h = (tt, tt)
IsInOrder-put k d (member l e ms) h = order_put (cmp k l) k l d e ms refl h (IsInOrder-put k d ms h.1)

absent : (k : List ℕ) (ms : Members) → IsBelow k ms → get_member k ms ≡ None
absent k no_members h = refl
absent k (member l e ms) h = rw h.0 (absent k ms h.1)

-- the number of keys after one is put
abbrev count_after : Bool → ℕ → ℕ
count_after true n = n
count_after false n = suc n

count_under : (b : Bool) (n : ℕ) → suc (count_after b n) ≡ count_after b (suc n)
count_under true n = refl
count_under false n = refl

len_put : (o : Ordering) (k l : List ℕ) (d e : Data) (ms : Members) → cmp k l ≡ o → IsBelow l ms → members_len (put k d ms) ≡ count_after (is_some (get_member k ms)) (members_len ms)
    → members_len (match_ordering o (member k d (member l e ms)) (member l d ms) (member l e (put k d ms))) ≡ count_after (is_some (match_ordering o (get_member k ms) (Some e) (get_member k ms))) (suc (members_len ms))
len_put Less k l d e ms is h later = rw (absent k ms (lower k l ms is h)) refl
len_put Equal k l d e ms is h later = refl
len_put Greater k l d e ms is h later = ap suc later ∙ count_under (is_some (get_member k ms)) (members_len ms)

pub members_len-put : (k : List ℕ) (d : Data) (ms : Members) → IsInOrder ms → members_len (put k d ms) ≡ count_after (is_some (get_member k ms)) (members_len ms)
members_len-put k d no_members h = refl
members_len-put k d (member l e ms) h = len_put (cmp k l) k l d e ms refl h.0 (members_len-put k d ms h.1)

grows : (b : Bool) (n : ℕ) → n ≤ count_after b n
grows true n = omega arith
grows false n = omega arith

-- no member is lost
pub with_members-grows : (ms : List (Bor (List ℕ) × Data)) (found : Members) → IsInOrder found → members_len found ≤ members_len (with_members found ms)
with_members-grows [] found h = omega arith
with_members-grows (m ∷ ms) found h =
    let more = with_members-grows ms (put m.0.now m.1 found) (IsInOrder-put m.0.now m.1 found h) in
    let one = members_len-put m.0.now m.1 found h in
    let here = grows (is_some (get_member m.0.now found)) (members_len found) in
    grind arith

-- ---- keys that are counted as they come

abbrev pub among : List ℕ → List Entry → Bool
among k ms = list_any (λ m. bytes_eq m.0.now k) ms

-- the members have n keys, which are those that were found
abbrev pub AreKeysOf : List Entry → ℕ → Members → Type 0
AreKeysOf ms n found = IsInOrder found × (members_len found ≡ n) × ((k : List ℕ) → is_some (get_member k found) ≡ among k ms)

either : (b : Bool) (d : Data) (o : Option Data) → is_some (cond b (Some d) o) ≡ is_some o || b
either true d None = refl
either true d (Some e) = refl
either false d None = refl
either false d (Some e) = refl

here_or : (k l : List ℕ) (d : Data) (found : Members) → is_some (get_member k (put l d found)) ≡ is_some (get_member k found) || bytes_eq l k
here_or k l d found = ap is_some (put_found (bytes_eq l k) k l d found refl) ∙ either (bytes_eq l k) d (get_member k found)

-- one more member is put
answers : (ms : List Entry) (i : ℕ) (m : Entry) (n : ℕ) (found : Members) → i < length ms → m ≡ get_or ms i m → AreKeysOf (take i ms) n found
    → (k : List ℕ) → is_some (get_member k (put m.0.now (view m.1) found)) ≡ among k (take (i + 1) ms)
answers ms i m n found lt at h k =
    let last = list_any_more (λ m. bytes_eq m.0.now k) ms i m lt in
    here_or k m.0.now (view m.1) found ∙ ap (λ b. b || bytes_eq m.0.now k) (h.2 k) ∙ ap (λ (l : Entry). among k (take i ms) || bytes_eq l.0.now k) at ∙ sym last

-- a key that was there
pub put_old : (ms : List Entry) (i : ℕ) (m : Entry) (n : ℕ) (found : Members) → i < length ms → m ≡ get_or ms i m → AreKeysOf (take i ms) n found → among m.0.now (take i ms) ≡ true
    → AreKeysOf (take (i + 1) ms) n (put m.0.now (view m.1) found)
put_old ms i m n found lt at h old =
    let len = members_len-put m.0.now (view m.1) found h.0 ∙ ap (λ b. count_after b (members_len found)) (h.2 m.0.now ∙ old) ∙ h.1 in
    (IsInOrder-put m.0.now (view m.1) found h.0, len, answers ms i m n found lt at h)

-- a key that is new
pub put_new : (ms : List Entry) (i : ℕ) (m : Entry) (n : ℕ) (found : Members) → i < length ms → m ≡ get_or ms i m → AreKeysOf (take i ms) n found → among m.0.now (take i ms) ≡ false
    → AreKeysOf (take (i + 1) ms) (n + 1) (put m.0.now (view m.1) found)
put_new ms i m n found lt at h new =
    let len = members_len-put m.0.now (view m.1) found h.0 ∙ ap (λ b. count_after b (members_len found)) (h.2 m.0.now ∙ new) ∙ ap suc h.1 ∙ sym (add-one n) in
    (IsInOrder-put m.0.now (view m.1) found h.0, len, answers ms i m n found lt at h)

-- one more than a number
pub too_many : (ms : List (Bor (List ℕ) × Data)) (n : ℕ) (found : Members) → IsInOrder found → members_len found ≡ n + 1 → (members_len (with_members found ms) == n) ≡ false
too_many ms n found h len =
    let more = with_members-grows ms found h in
    ne_eqb _ n (λ e. omega (arith, more, len, e))

-- a turn of a loop over the members, which puts one into those that were found
pub turn : (ms : List Entry) (i : ℕ) (m : Entry) (found whole : Members) → i < length ms → m ≡ get_or ms i m
    → with_members found (entries (drop i ms)) ≡ whole → with_members (put m.0.now (view m.1) found) (entries (drop (i + 1) ms)) ≡ whole
turn ms i m found whole lt at so_far =
    let left : drop i ms ≡ m ∷ drop (i + 1) ms = rw add-one (drop-cons ms i m lt ∙ ap (λ y. y ∷ drop (suc i) ms) (sym at)) in
    sym (ap (λ l. with_members found (entries l)) left) ∙ so_far
