-- A walk over a class and those below it.
use Rattle.std.proofs.Common.{◌≡◌, ◌<◌, ◌≤◌, ◌⊎◌, inl, inr, ℕ, zero, suc, List, [], ◌∷◌, length, Option, Some, None, Bool, true, false, cond, refl, sym, ap, ◌∙◌, subst, arith}
use Rattle.std.specs.Prelude.{◌==◌, IfSome, nat_lt}
use Rattle.std.proofs.lemmas.Bool.{true≢false, or_cases, or_from, false_from_ne_true, cases_Bool}
use Rattle.std.proofs.lemmas.Bool.Decides.{nat_tests}
use Rattle.std.proofs.lemmas.Option.{same_Some}
use Rattle.msg_names.proofs.TestLemmas.{same_number}
use Rattle.msg_tables.specs.declared.presence.Presence.{Presence}
use Rattle.msg_tables.specs.After.{of_class}
use Rattle.msg_tables.specs.Chain.{is_present, descends}
use Rattle.msg_tables.specs.PreorderView.{PreorderView}
use Rattle.msg_tables.specs.Preorder.{is_in, deeper, AreOnce, IsFollowed, AreFollowed, next_in, AreLinked, depth_at, next_at, HavePreorder}
use Rattle.msg_tables.specs.Walk.{HasLinks, IsWalkOver, if_deeper, walk}
use Rattle.msg_tables.proofs.DescentLemmas.{absent-below}
use Rattle.msg_tables.proofs.OrderLemmas.{count-le, present-inside}
use Rattle.msg_tables.proofs.PreorderLemmas.{first-in, later-in, in-deeper, out-deeper}

-- ---- what comes after a class

record Tail (supers : List (Option Presence)) (depth : ℕ → ℕ) (next : ℕ → Option ℕ) (all : List ℕ) (k : ℕ) (ks : List ℕ) : Type 0 where
  pub rest : List ℕ
  pub here : next k ≡ next_in depth rest
  pub linked : AreLinked depth next rest
  pub followed : IsFollowed supers depth all k rest
  pub sub : (j : ℕ) → is_in j rest ≡ true → is_in j ks ≡ true
  pub once : AreOnce (k ∷ rest)
  pub shorter : length rest < length ks

-- each class of such an order is there once
followed-once : (supers : List (Option Presence)) (depth : ℕ → ℕ) (all ks : List ℕ) → AreFollowed supers depth all ks → AreOnce ks
followed-once supers depth all [] order = tt
followed-once supers depth all (k ∷ ks) order = (order.0.once, followed-once supers depth all ks order.1)

tail-of : (supers : List (Option Presence)) (depth : ℕ → ℕ) (next : ℕ → Option ℕ) (all : List ℕ) (k : ℕ) (ks : List ℕ) → AreFollowed supers depth all ks → AreLinked depth next ks → is_in k ks ≡ true → Tail supers depth next all k ks
tail-of supers depth next all k [] order links e = cc
tail-of supers depth next all k (x ∷ ks) order links e = at (or_cases (x == k) (is_in k ks) e) (tail-of supers depth next all k ks order.1 links.1)
  where
    at : ((x == k) ≡ true) ⊎ (is_in k ks ≡ true) → (is_in k ks ≡ true → Tail supers depth next all k ks) → Tail supers depth next all k (x ∷ ks)
    at (inl here) rest =
        let same : x ≡ k = same_number x k here in
        record {
          rest = ks;
          here = subst (λ z. next z ≡ next_in depth ks) same links.0;
          linked = links.1;
          followed = subst (λ z. IsFollowed supers depth all z ks) same order.0;
          sub = λ j h. later-in j x ks h;
          once = subst (λ z. AreOnce (z ∷ ks)) same (order.0.once, followed-once supers depth all ks order.1);
          shorter = omega arith;
        }
    at (inr later) rest =
        let tail = rest later in
        record {
          rest = tail.rest;
          here = tail.here;
          linked = tail.linked;
          followed = tail.followed;
          sub = λ j h. later-in j x ks (tail.sub j h);
          once = tail.once;
          shorter = omega (arith, tail.shorter);
        }

-- the next of a list is one of it
next-in : (depth : ℕ → ℕ) (n : ℕ) (ks : List ℕ) → ((j : ℕ) → is_in j ks ≡ true → j < n) → IfSome (next_in depth ks) (λ j. j < n)
next-in depth n [] inside = tt
next-in depth n (x ∷ ks) inside = at (depth x == 0)
  where
    at : (b : Bool) → IfSome (cond b None (Some x)) (λ j. j < n)
    at true = tt
    at false = inside x (first-in x ks)

-- ---- the classes that are deeper

few-deeper : (f : ℕ → ℕ) (d : ℕ) (ks : List ℕ) → length (deeper f d ks) ≤ length ks
few-deeper f d [] = omega arith
few-deeper f d (k ∷ ks) = at (nat_lt d (f k)) (few-deeper f d ks)
  where
    at : (b : Bool) → length (deeper f d ks) ≤ length ks → length (cond b (k ∷ deeper f d ks) []) ≤ suc (length ks)
    at true few = omega (arith, few)
    at false few = omega arith

once-deeper : (f : ℕ → ℕ) (d : ℕ) (ks : List ℕ) → AreOnce ks → AreOnce (deeper f d ks)
once-deeper f d [] e = tt
once-deeper f d (k ∷ ks) e = at (nat_lt d (f k)) (once-deeper f d ks e.1)
  where
    at : (b : Bool) → AreOnce (deeper f d ks) → AreOnce (cond b (k ∷ deeper f d ks) [])
    at true rest = (out-deeper f d k ks e.0, rest)
    at false rest = tt

-- the links of a list lead over those that are deeper
over-deeper : (depth : ℕ → ℕ) (next : ℕ → Option ℕ) (d : ℕ) (ks : List ℕ) → AreLinked depth next ks → IsWalkOver depth next d (if_deeper depth d (next_in depth ks)) (deeper depth d ks)
over-deeper depth next d [] links = refl
over-deeper depth next d (x ∷ ks) links = at (depth x == 0) (nat_lt d (depth x)) refl refl (over-deeper depth next d ks links.1)
  where
    at : (z t : Bool) → (depth x == 0) ≡ z → nat_lt d (depth x) ≡ t → IsWalkOver depth next d (if_deeper depth d (next_in depth ks)) (deeper depth d ks)
        → IsWalkOver depth next d (if_deeper depth d (cond z None (Some x))) (cond t (x ∷ deeper depth d ks) [])
    at true true root deep rest = absurd (grind (arith, nat_tests, deep, same_number (depth x) 0 root))
    at true false root deep rest = refl
    at false true root deep rest =
        subst (λ b. IsWalkOver depth next d (cond b (Some x) None) (x ∷ deeper depth d ks)) (sym deep)
        (refl, subst (λ o. IsWalkOver depth next d (if_deeper depth d o) (deeper depth d ks)) (sym links.0) rest)
    at false false root deep rest = subst (λ b. IsWalkOver depth next d (cond b (Some x) None) []) (sym deep) refl

-- ---- the walk

pub walk-over : (depth : ℕ → ℕ) (next : ℕ → Option ℕ) (d n : ℕ) (at : Option ℕ) (ks : List ℕ) → IsWalkOver depth next d at ks → length ks ≤ n → walk depth next d n at ≡ ks
walk-over depth next d zero at [] e few = refl
walk-over depth next d (suc n) at [] e few = ap (walk depth next d (suc n)) e
walk-over depth next d zero at (k ∷ ks) e few = absurd (omega (arith, few))
walk-over depth next d (suc n) at (k ∷ ks) e few =
    ap (walk depth next d (suc n)) e.0
    ∙ ap (λ js. k ∷ js) (walk-over depth next d n (if_deeper depth d (next k)) ks e.1 (omega (arith, few)))

-- a walk that isn't at its end
pub record Ahead (p : PreorderView) (d : ℕ) (k : ℕ) (classes : List ℕ) : Type 0 where
  pub rest : List ℕ
  pub is : classes ≡ k ∷ rest
  pub over : IsWalkOver (depth_at p.depths) (next_at p.nexts) d (if_deeper (depth_at p.depths) d (next_at p.nexts k)) rest

pub walk-ahead : (p : PreorderView) (d k : ℕ) (at : Option ℕ) (classes : List ℕ) → at ≡ Some k → IsWalkOver (depth_at p.depths) (next_at p.nexts) d at classes → Ahead p d k classes
walk-ahead p d k at [] is over = cc
walk-ahead p d k at (x ∷ ks) is over =
    let same : x ≡ k = same_Some x k (sym over.0 ∙ is) in
    record {
      rest = ks;
      is = ap (λ z. z ∷ ks) same;
      over = subst (λ z. IsWalkOver (depth_at p.depths) (next_at p.nexts) d (if_deeper (depth_at p.depths) d (next_at p.nexts z)) ks) same over.1;
    }

-- the walk from a class of such an order
pub record WalksFrom (supers : List (Option Presence)) (p : PreorderView) (k : ℕ) : Type 0 where
  pub rest : List ℕ
  pub over : IsWalkOver (depth_at p.depths) (next_at p.nexts) (depth_at p.depths k) (Some k) (k ∷ rest)
  pub below : (j : ℕ) → is_in j (k ∷ rest) ≡ descends supers (of_class k) (of_class j)
  pub linked : (j : ℕ) → is_in j (k ∷ rest) ≡ true → HasLinks p j
  pub once : AreOnce (k ∷ rest)
  pub few : suc (length rest) ≤ length p.depths

pub walks-from : (supers : List (Option Presence)) (p : PreorderView) (k : ℕ) → HavePreorder supers p.depths p.nexts → is_present supers k ≡ true → WalksFrom supers p k
walks-from supers p k are there =
    let tail = tail-of supers depth next are.classes k are.classes are.is.followed are.is.linked (are.present k ∙ there) in
    let rest = deeper depth (depth k) tail.rest in
    let fewer = few-deeper depth (depth k) tail.rest in
    record {
      rest = rest;
      over = (refl, subst (λ o. IsWalkOver depth next (depth k) (if_deeper depth (depth k) o) rest) (sym tail.here) (over-deeper depth next (depth k) tail.rest tail.linked));
      below = λ j. below tail j (cases_Bool (is_present supers j));
      linked = λ j e. links j (sym (are.present j) ∙ within tail j (or_cases (k == j) (is_in j rest) e));
      once = (out-deeper depth (depth k) k tail.rest tail.once.0, once-deeper depth (depth k) tail.rest tail.once.1);
      few = omega (arith, fewer, tail.shorter, are.count, count-le supers, are.depth_room);
    }
  where
    depth : ℕ → ℕ
    depth = depth_at p.depths

    next : ℕ → Option ℕ
    next = next_at p.nexts

    below : (tail : Tail supers depth next are.classes k are.classes) (j : ℕ) → (is_present supers j ≡ true) ⊎ (is_present supers j ≡ false) → is_in j (k ∷ deeper depth (depth k) tail.rest) ≡ descends supers (of_class k) (of_class j)
    below tail j (inl e) = tail.followed.below j (are.present j ∙ e)
    below tail j (inr e) =
        let other : (k == j) ≡ false = false_from_ne_true (k == j) (λ h. true≢false (sym there ∙ ap (is_present supers) (same_number k j h) ∙ e)) in
        let out : is_in j tail.rest ≡ false = false_from_ne_true (is_in j tail.rest) (λ h. true≢false (sym (tail.sub j h) ∙ are.present j ∙ e)) in
        or_from (k == j) (is_in j (deeper depth (depth k) tail.rest)) other (out-deeper depth (depth k) j tail.rest out)
        ∙ sym (absent-below supers (of_class k) (of_class j) e)

    within : (tail : Tail supers depth next are.classes k are.classes) (j : ℕ) → ((k == j) ≡ true) ⊎ (is_in j (deeper depth (depth k) tail.rest) ≡ true) → is_in j are.classes ≡ true
    within tail j (inl h) = subst (λ z. is_in z are.classes ≡ true) (same_number k j h) (are.present k ∙ there)
    within tail j (inr h) = tail.sub j (in-deeper depth (depth k) j tail.rest h)

    inside : (j : ℕ) → is_in j are.classes ≡ true → j < length supers
    inside j e = present-inside supers j (sym (are.present j) ∙ e)

    links : (j : ℕ) → is_present supers j ≡ true → HasLinks p j
    links j e =
        let tail = tail-of supers depth next are.classes j are.classes are.is.followed are.is.linked (are.present j ∙ e) in
        let here = present-inside supers j e in
        let all : IfSome (next_in depth tail.rest) (λ i. i < length p.depths) = next-in depth (length p.depths) tail.rest (λ i h. (let inner = inside i (tail.sub i h) in omega (arith, inner, are.depth_room))) in
        (omega (arith, here, are.next_room), subst (λ o. IfSome o (λ i. i < length p.depths)) (sym tail.here) all)
