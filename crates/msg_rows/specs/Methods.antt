-- Lists of methods by their numbers.
use Rattle.std.specs.Prelude.{ℕ, List, map}
use Rattle.msg_names.specs.declared.value.Selector.{Selector}
use Rattle.msg_names.specs.declared.value.ImpRef.{ImpRef}
use Rattle.msg_names.specs.Number.{selector_number, imp_number}

-- a pair's selector and implementation
abbrev pub method_number : Selector × ImpRef → ℕ × ℕ
method_number m = (selector_number m.0, imp_number m.1)

-- each pair's selector and implementation
abbrev pub method_numbers : List (Selector × ImpRef) → List (ℕ × ℕ)
method_numbers pairs = map (λ m. (selector_number m.0, imp_number m.1)) pairs
