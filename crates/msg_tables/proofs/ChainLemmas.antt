-- Going up a chain.
use Rattle.std.proofs.Common.{◌≡◌, ◌<◌, ◌≤◌, ℕ, zero, suc, List, [], ◌∷◌, Option, Some, None, refl, arith}
use Rattle.msg_names.specs.declared.value.ClassRef.{ClassRef}
use Rattle.msg_tables.specs.declared.presence.Presence.{Presence}
use Rattle.msg_tables.specs.Chain.{chain_up, super_of, steps_of}

-- the chain from there, if it goes on
abbrev pub chain_from : ℕ → List (Option Presence) → Option ClassRef → List ClassRef
chain_from n supers None = []
chain_from n supers (Some c) = chain_up n supers c

-- n steps are enough
abbrev pub Suffices : List ℕ → ℕ → Option ClassRef → Type 0
Suffices order n None = Unit {0}
Suffices order n (Some c) = steps_of order c ≤ n

abbrev pub steps_left : List ℕ → Option ClassRef → ℕ
steps_left order None = 0
steps_left order (Some c) = suc (steps_of order c)

-- a class reference, and then the chain from its superclass
pub chain_up-step : (order : List ℕ) (n : ℕ) (supers : List (Option Presence)) (c : ClassRef) (o : Option ClassRef) → super_of supers c ≡ o → steps_of order c ≤ n → ((d : ClassRef) → o ≡ Some d → steps_of order d < steps_of order c) → (m : ℕ) × Suffices order m o × (chain_up n supers c ≡ c ∷ chain_from m supers o)
chain_up-step order zero supers c None e enough fewer = (0, tt, refl)
chain_up-step order zero supers c (Some d) e enough fewer = let h : steps_of order d < steps_of order c = fewer d refl in absurd (omega arith)
chain_up-step order (suc n) supers c None e enough fewer = (n, tt, rw e refl)
chain_up-step order (suc n) supers c (Some d) e enough fewer = let h : steps_of order d < steps_of order c = fewer d refl in (n, omega arith, rw e refl)
