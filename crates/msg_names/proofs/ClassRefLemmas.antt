-- Slots of class references, and when two of them are equal.
use Rattle.std.proofs.Common.{◌≡◌, ◌<◌, ◌≤◌, ◌+◌, ◌*◌, ℕ, Bool, true, false, cond, refl, arith, Option, Some, None}
use Rattle.std.specs.Prelude.{◌==◌, ◌&&◌, IfSome}
use Rattle.std.proofs.lemmas.Bool.Decides.{nat_tests}
use Rattle.msg_names.proofs.TestLemmas.{same_number, equal}
use Rattle.msg_names.specs.declared.value.ClassRef.{ClassRef}
use Rattle.msg_names.specs.ClassRef.{same_class, same_truth, slot_of, root_above, above}

-- each class reference has a slot
pub slot_of-inside : (c : ClassRef) (classes slots : ℕ) → slots ≡ 2 * classes → c.class < classes → slot_of c < slots
slot_of-inside c classes slots e inside = at_meta c.meta
  where
    at_meta : (b : Bool) → 2 * c.class + cond b 1 0 < slots
    at_meta true = omega arith
    at_meta false = omega arith

-- two different class references have different slots
pub slot_of-same : (c d : ClassRef) → slot_of c ≡ slot_of d → c ≡ d
slot_of-same c d e =
    let (k, m) = at_meta c.meta d.meta e in
    λ i. record { class = k i; meta = m i }
  where
    at_meta : (a b : Bool) → 2 * c.class + cond a 1 0 ≡ 2 * d.class + cond b 1 0 → (c.class ≡ d.class) × (a ≡ b)
    at_meta true true h = (omega arith, refl)
    at_meta false false h = (omega arith, refl)
    at_meta true false h = absurd (omega arith)
    at_meta false true h = absurd (omega arith)

same_meta : (a b : Bool) → same_truth a b ≡ true → a ≡ b
same_meta true true e = refl
same_meta true false e = cc
same_meta false true e = cc
same_meta false false e = refl

pub same_class-is : (c d : ClassRef) → same_class c d ≡ true → c ≡ d
same_class-is c d e =
    let (k, m) = parts (c.class == d.class) (same_truth c.meta d.meta) e in
    let same_k = same_number c.class d.class k in
    let same_m = same_meta c.meta d.meta m in
    λ i. record { class = same_k i; meta = same_m i }
  where
    parts : (a b : Bool) → (a && b) ≡ true → (a ≡ true) × (b ≡ true)
    parts true b h = (refl, h)
    parts false b h = cc

pub same_class-refl : (c : ClassRef) → same_class c c ≡ true
same_class-refl c = at_meta c.meta
  where
    at_meta : (b : Bool) → ((c.class == c.class) && same_truth b b) ≡ true
    at_meta true = rw (equal c.class) refl
    at_meta false = rw (equal c.class) refl

-- what is above a class reference is of its own class or of the superclass
pub above-listed : (c : ClassRef) (o : Option ℕ) (n : ℕ) → c.class < n → IfSome o (λ d. d < n) → IfSome (above c o) (λ a. a.class < n)
above-listed c (Some d) n own above' = above'
above-listed c None n own above' = at_meta c.meta
  where
    at_meta : (b : Bool) → IfSome (root_above c.class b) (λ a. a.class < n)
    at_meta true = own
    at_meta false = tt
