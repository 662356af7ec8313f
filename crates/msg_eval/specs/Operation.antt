-- Operations on two values.
use Rattle.std.specs.Prelude.{ℤ, pos, negsuc, ◌+ℤ◌, ◌-ℤ◌, ◌*ℤ◌, int_lt, int_le, ◌==◌, ◌&&◌, Bool, true, false, Option, Some, None, Result, Ok, Err, if◌then◌else◌}
use Rattle.std.specs.Ordering.{int_eq}
use Rattle.msg_names.specs.Number.{selector_number}
use Rattle.msg_names.specs.declared.value.Value.{Value}
use Rattle.msg_names.specs.declared.value.Value.TheVariants.{Number, Object, Class, Sel, Nil}
use Rattle.msg_image.specs.Parts.{Op, Add, Sub, Mul, Eq, Lt}
use Rattle.msg_eval.specs.declared.operation.Operation.{Operation}
use Rattle.msg_eval.specs.declared.operation.Operation.TheVariants as code
use Rattle.msg_eval.specs.declared.reply.SendFault.{SendFault}
use Rattle.msg_eval.specs.declared.reply.SendFault.TheVariants.{NotANumber, Overflow}

-- the number of a value; nil counts as 0
abbrev pub numeric_value : Value → Option ℤ
numeric_value (Number z) = Some z
numeric_value Nil = Some (pos 0)
numeric_value _ = None

-- a number of 64 bits with a sign, or an overflow
abbrev pub fitted : ℤ → Result Value SendFault
fitted z = if int_le (negsuc 9223372036854775807) z && int_le z (pos 9223372036854775807) then Ok (Number z) else Err Overflow

-- both operands have to be numbers
abbrev pub with_numbers : (ℤ → ℤ → Result Value SendFault) → Option ℤ → Option ℤ → Result Value SendFault
with_numbers f (Some x) (Some y) = f x y
with_numbers f _ _ = Err NotANumber

-- 1 for true and 0 for false
abbrev pub truth : Bool → Value
truth b = Number (if b then pos 1 else pos 0)

-- equal values; nil equals 0
abbrev pub are_same : Value → Value → Bool
are_same (Number x) (Number y) = int_eq x y
are_same (Object o) (Object p) = o.object == p.object
are_same (Class c) (Class d) = c == d
are_same (Sel s) (Sel t) = selector_number s == selector_number t
are_same Nil Nil = true
are_same (Number x) Nil = int_eq x (pos 0)
are_same Nil (Number y) = int_eq y (pos 0)
are_same _ _ = false

-- the result of an operation on two values
abbrev pub result_of : Op → Value → Value → Result Value SendFault
result_of Add x y = with_numbers (λ a b. fitted (a +ℤ b)) (numeric_value x) (numeric_value y)
result_of Sub x y = with_numbers (λ a b. fitted (a -ℤ b)) (numeric_value x) (numeric_value y)
result_of Mul x y = with_numbers (λ a b. fitted (a *ℤ b)) (numeric_value x) (numeric_value y)
result_of Eq x y = Ok (truth (are_same x y))
result_of Lt x y = with_numbers (λ a b. Ok (truth (int_lt a b))) (numeric_value x) (numeric_value y)

-- nil and 0 choose the third part of an `if`
abbrev pub is_no : Value → Bool
is_no v = are_same v Nil

-- the operation that the code names
abbrev pub op_of : Operation → Op
op_of code.Add = Add
op_of code.Sub = Sub
op_of code.Mul = Mul
op_of code.Eq = Eq
op_of code.Lt = Lt
