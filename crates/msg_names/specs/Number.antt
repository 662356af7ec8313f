-- The numbers of selectors and implementations.
use Rattle.std.specs.Prelude.{ℕ, zero, suc}
use Rattle.std.proofs.Common.{suc-le-suc, zero-le}
use Rattle.msg_names.specs.declared.value.Selector.{Selector}
use Rattle.msg_names.specs.declared.value.ImpRef.{ImpRef}

-- the number of a selector
abbrev pub selector_number : Selector → ℕ
selector_number s = s.number

-- 0 is forwarding
abbrev pub imp_number : ImpRef → ℕ
imp_number i = i.number

-- the selector with a number, which is at least 1
abbrev pub selector_of : ℕ → Selector
selector_of zero = record { number = 1; positive = suc-le-suc zero-le }
selector_of (suc n) = record { number = suc n; positive = suc-le-suc zero-le }

-- the implementation with a number
abbrev pub imp_ref_of : ℕ → ImpRef
imp_ref_of n = record { number = n }
