-- What writing some bytes leaves in a text or a sink.
use Rattle.std.specs.Prelude.{◌≡◌, ℕ, ◌<◌, List, ◌++◌, length, take, Option, Vec}
use Rattle.std.specs.Global.{Global}
use Rattle.std.specs.Io.KnownBytes.{Appends}

-- the text grew by these bytes
abbrev pub Gains : Vec ℕ Global → Vec ℕ Global → List ℕ → Type 0
Gains old new bytes = new.items ≡ old.items ++ bytes

-- known bytes grew by the start of these, and not by all of them
abbrev pub AppendsStart : Option (List ℕ) → Option (List ℕ) → List ℕ → Type 0
AppendsStart old new bytes = (count : ℕ) × (count < length bytes) × Appends old new (take count bytes)

-- what a sink holds, if it is known, grew by these bytes
abbrev pub Writes : {S : Type 0} → (S → Option (List ℕ)) → S → S → List ℕ → Type 0
Writes contents old new bytes = Appends (contents old) (contents new) bytes

-- and only by the start of them if a write failed
abbrev pub Starts : {S : Type 0} → (S → Option (List ℕ)) → S → S → List ℕ → Type 0
Starts contents old new bytes = AppendsStart (contents old) (contents new) bytes
