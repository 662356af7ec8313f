-- What holds of values is a fact.
use Rattle.std.proofs.Common.{List}
use Rattle.std.proofs.Props.{props}
use Rattle.std.specs.Prelude.{All}
use Rattle.msg_names.specs.declared.value.Value.{Value}
use Rattle.msg_names.specs.declared.value.Value.TheVariants.{Number, Object, Class, Sel, Nil}
use Rattle.msg_image.specs.Parts.{ImageParts}
use Rattle.msg_image.specs.Sound.{IsOf}

-- each of the values is of the image
abbrev pub AreOf : ImageParts → List Value → Type 0
AreOf image vs = All (IsOf image) vs

pub of_image : (image : ImageParts) (v : Value) → IsProp (IsOf image v)
of_image image (Number n) = hlevel props
of_image image (Object o) = hlevel props
of_image image (Class c) = hlevel props
of_image image (Sel s) = hlevel props
of_image image Nil = hlevel props

pub all_of_image : (image : ImageParts) (vs : List Value) → IsProp (AreOf image vs)
all_of_image image vs = hlevel (props, of_image)
