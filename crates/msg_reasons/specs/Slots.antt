-- Items that are kept.
use Rattle.std.specs.Prelude.{◌≡◌, ◌⊎◌, List, [], ◌∷◌, ◌++◌}

-- an item was added to those that are kept, or was not, or all were forgotten
abbrev pub Remembers : {A : Type 0} → A → List A → List A → Type 0
Remembers x old new = (new ≡ old ++ x ∷ []) ⊎ ((new ≡ old) ⊎ (new ≡ []))
