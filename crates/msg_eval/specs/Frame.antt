-- What a body sees.
use Rattle.std.specs.Prelude.{List}
use Rattle.msg_names.specs.declared.value.ClassRef.{ClassRef}
use Rattle.msg_names.specs.declared.value.Value.{Value}

-- its receiver, its arguments, and the class reference in whose source it is
pub record Scope : Type 0 where
  pub me : Value
  pub args : List Value
  pub home : ClassRef
