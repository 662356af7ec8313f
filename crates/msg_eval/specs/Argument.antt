-- Arguments.
use Rattle.std.specs.Prelude.{ℕ, List, slice_get, unwrap_or}
use Rattle.msg_names.specs.declared.value.Value.{Value}
use Rattle.msg_names.specs.declared.value.Value.TheVariants.{Nil}

-- An argument, from 0. No body of an image names one that it doesn't take.
abbrev pub argument : List Value → ℕ → Value
argument args k = unwrap_or (slice_get args k) Nil
