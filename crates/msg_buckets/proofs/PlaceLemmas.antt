-- Places in the order of a probe.
use Rattle.std.proofs.Common.{◌≡◌, ℕ, ◌+◌, ◌-◌, ◌%◌, ◌^◌, ◌<◌, inl, inr, sym, ap, ◌∙◌, arith}
use Rattle.std.specs.Prelude.{bit_and}
use Rattle.std.proofs.lemmas.Bool.{cases_lt}
use Rattle.std.proofs.lemmas.Nat.{and_mask, pow-add, mod_below}
use Rattle.std.proofs.Math.Nat.{mod-add-mod, add-mod_right, mod-eq_of_lt}
use Rattle.msg_buckets.specs.Capacity.{IsCapacity}
use Rattle.msg_buckets.specs.Probing.{probe_place}
use Rattle.msg_buckets.proofs.CapacityLemmas.{capacity_is_power}

-- `& (capacity - 1)` is `% capacity`
pub and_capacity : (n capacity : ℕ) → IsCapacity capacity → bit_and n (capacity - 1) ≡ n % capacity
and_capacity n capacity h =
    let k = capacity_is_power capacity h in
    let pow : capacity ≡ 2 ^ (k.0 + 2) = omega (arith, k.2, pow-add 2 k.0 2) in
    rw pow (and_mask n (k.0 + 2))

pub probe_place-next : (sel capacity k : ℕ) → (probe_place sel capacity k + 1) % capacity ≡ probe_place sel capacity (k + 1)
probe_place-next sel capacity k = mod-add-mod (sel + k) capacity 1 ∙ ap (λ n. n % capacity) (omega arith)

-- the k-th place, counted from the first
from_first : (sel n k : ℕ) → probe_place sel n k ≡ (sel % n + k) % n
from_first sel n k = sym (mod-add-mod sel n k)

-- a probe visits every place
pub step_of_place : (sel n place : ℕ) → place < n → (k : ℕ) × (k < n) × (probe_place sel n k ≡ place)
step_of_place sel n place h =
    let low : sel % n < n = mod_below sel n (omega arith) in
    elim (cases_lt place (sel % n)) [
      | inl before ↦
          let k : ℕ = place + n - sel % n in
          let sum : sel % n + k ≡ place + n = omega arith in
          (k, omega arith, from_first sel n k ∙ ap (λ y. y % n) sum ∙ add-mod_right place n ∙ mod-eq_of_lt h)
      | inr from ↦
          let k : ℕ = place - sel % n in
          let sum : sel % n + k ≡ place = omega arith in
          (k, omega arith, from_first sel n k ∙ ap (λ y. y % n) sum ∙ mod-eq_of_lt h)
    ]
