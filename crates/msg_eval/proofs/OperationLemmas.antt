-- What an operation gives is a value of every image.
use Rattle.std.proofs.Common.{Bool, true, false, Option, Some, None, Result, Ok, Err, IfOk, ℤ}
use Rattle.std.specs.Prelude.{if◌then◌else◌}
use Rattle.msg_names.specs.declared.value.Value.{Value}
use Rattle.msg_names.specs.declared.value.Value.TheVariants.{Number}
use Rattle.msg_image.specs.Parts.{ImageParts, Op, Add, Sub, Mul, Eq, Lt}
use Rattle.msg_image.specs.Sound.{IsOf}
use Rattle.msg_eval.specs.Operation.{with_numbers, numeric_value, result_of}
use Rattle.msg_eval.specs.declared.reply.SendFault.{SendFault}
use Rattle.msg_eval.specs.declared.reply.SendFault.TheVariants.{Overflow}

fits_or_not : (image : ImageParts) (b : Bool) (z : ℤ) → IfOk (if b then Ok (Number z) else Err Overflow) (IsOf image)
fits_or_not image true z = tt
fits_or_not image false z = tt

of_numbers : (image : ImageParts) (f : ℤ → ℤ → Result Value SendFault) → ((a b : ℤ) → IfOk (f a b) (IsOf image)) → (x y : Option ℤ) → IfOk (with_numbers f x y) (IsOf image)
of_numbers image f each (Some a) (Some b) = each a b
of_numbers image f each (Some a) None = tt
of_numbers image f each None y = tt

pub result_is_of : (image : ImageParts) (o : Op) (x y : Value) → IfOk (result_of o x y) (IsOf image)
result_is_of image Add x y = of_numbers image _ (λ a b. fits_or_not image _ _) (numeric_value x) (numeric_value y)
result_is_of image Sub x y = of_numbers image _ (λ a b. fits_or_not image _ _) (numeric_value x) (numeric_value y)
result_is_of image Mul x y = of_numbers image _ (λ a b. fits_or_not image _ _) (numeric_value x) (numeric_value y)
result_is_of image Eq x y = tt
result_is_of image Lt x y = of_numbers image _ (λ a b. tt) (numeric_value x) (numeric_value y)
