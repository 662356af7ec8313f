-- What is held, if something is.
use Rattle.std.proofs.Common.{◌≡◌, refl}
use Rattle.std.specs.Prelude.{Option, Some, None, is_some, true}

pub held_in : {A : Type 0} (o : Option A) → is_some o ≡ true → (x : A) × (o ≡ Some x)
held_in None e = absurd (cc)
held_in (Some x) e = (x, refl)
