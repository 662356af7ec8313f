-- Where the words are: no two things at one place.
use Rattle.std.proofs.Common.{◌≡◌, ◌≢◌, ℕ, zero, suc, ◌+◌, ◌*◌, ◌<◌, ◌≤◌, List, [], ◌∷◌, length, take, Bool, true, true≢false, refl, sym, ap, arith}
use Rattle.std.specs.Prelude.{slice_index}
use Rattle.msg_names.specs.declared.value.ClassRef.{ClassRef}
use Rattle.msg_names.specs.ClassRef.{slot_of}
use Rattle.msg_names.proofs.ClassRefLemmas.{slot_of-inside, slot_of-same}
use Rattle.msg_model.specs.State.{Layout, capacity, awaits}
use Rattle.msg_cache.specs.Layout.{total, header_at, base, stamp_at, probes}

room : (l : List ℕ) (a p : ℕ) → p < slice_index l a → total (take a l) + p < total l
room [] a p lt = absurd (omega arith)
room (x ∷ xs) zero p lt = omega arith
room (x ∷ xs) (suc a) p lt = let t = room xs a p lt in omega arith

apart : (l : List ℕ) (a b p q : ℕ) → p < slice_index l a → q < slice_index l b → total (take a l) + p ≡ total (take b l) + q → (a ≡ b) × (p ≡ q)
apart [] a b p q lt lu e = absurd (omega arith)
apart (x ∷ xs) zero zero p q lt lu e = (refl, omega arith)
apart (x ∷ xs) zero (suc b) p q lt lu e = absurd (omega arith)
apart (x ∷ xs) (suc a) zero p q lt lu e = absurd (omega arith)
apart (x ∷ xs) (suc a) (suc b) p q lt lu e = let t = apart xs a b p q lt lu (omega arith) in (ap suc t.0, t.1)

pub inside : (z : Layout) (a p : ℕ) → p < capacity z a → base z a + p < probes z
inside z a p lt = let t = room z.capacities a p lt in omega arith

ends : (l : List ℕ) (a : ℕ) → a < length l → total (take a l) + slice_index l a ≤ total l
ends [] a lt = absurd (omega arith)
ends (x ∷ xs) zero lt = omega arith
ends (x ∷ xs) (suc a) lt = let t = ends xs a (omega arith) in omega arith

-- the words of an array end before the probe words begin
pub array_ends : (z : Layout) (a : ℕ) → a < length z.capacities → base z a + capacity z a ≤ probes z
array_ends z a lt = let t = ends z.capacities a lt in omega arith

pub one_place : (z : Layout) (a b p q : ℕ) → p < capacity z a → q < capacity z b → base z a + p ≡ base z b + q → (a ≡ b) × (p ≡ q)
one_place z a b p q lt lu e = apart z.capacities a b p q lt lu (omega arith)

pub header_inside : (z : Layout) (c : ClassRef) → c.class < z.classes → header_at c < probes z
header_inside z c lt = let t = slot_of-inside c z.classes (2 * z.classes) refl lt in omega arith

pub header_same : (c d : ClassRef) → header_at c ≡ header_at d → c ≡ d
header_same c d e = slot_of-same c d (let n : ℕ = slot_of c in let m : ℕ = slot_of d in let h : 1 + n ≡ 1 + m = e in omega arith)

pub header_apart : (z : Layout) (c : ClassRef) (a p : ℕ) → c.class < z.classes → header_at c ≢ base z a + p
header_apart z c a p lt e = let t = slot_of-inside c z.classes (2 * z.classes) refl lt in absurd (omega arith)

pub stamp_inside : (z : Layout) (c : ClassRef) → c.class < z.classes → stamp_at z c < probes z
stamp_inside z c lt = let t = slot_of-inside c z.classes (2 * z.classes) refl lt in omega arith

pub stamp_same : (z : Layout) (c d : ClassRef) → stamp_at z c ≡ stamp_at z d → c ≡ d
stamp_same z c d e = slot_of-same c d (let n : ℕ = slot_of c in let m : ℕ = slot_of d in let h : 1 + 2 * z.classes + total z.capacities + 8 + n ≡ 1 + 2 * z.classes + total z.capacities + 8 + m = e in omega arith)

-- a stamp is no header, no word of an array, and not the count of changes
pub stamp_no_header : (z : Layout) (c d : ClassRef) → d.class < z.classes → stamp_at z c ≢ header_at d
stamp_no_header z c d lt e = let t = slot_of-inside d z.classes (2 * z.classes) refl lt in absurd (omega arith)

pub stamp_no_bucket : (z : Layout) (c : ClassRef) (a p : ℕ) → p < capacity z a → stamp_at z c ≢ base z a + p
stamp_no_bucket z c a p lt e = let t = room z.capacities a p lt in absurd (omega arith)

pub stamp_no_count : (z : Layout) (c : ClassRef) → stamp_at z c ≢ 0
stamp_no_count z c e = absurd (omega arith)

pub awaits_length : (xs : List Bool) (n : ℕ) → awaits xs n ≡ true → n < length xs
awaits_length [] n e = absurd (true≢false (sym e))
awaits_length (x ∷ xs) zero e = omega arith
awaits_length (x ∷ xs) (suc n) e = let t = awaits_length xs n e in omega arith
