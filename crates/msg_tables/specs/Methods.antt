-- Lists of methods of class references.
use Rattle.std.specs.Prelude.{ℕ, List}
use Rattle.msg_names.specs.declared.value.ClassRef.{ClassRef}

-- a method list of a class reference: its own, or one of a category
pub record MethodsOf : Type 0 where
  pub class : ClassRef
  pub methods : List (ℕ × ℕ)
