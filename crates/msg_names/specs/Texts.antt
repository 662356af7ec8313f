-- Texts as lists of bytes.
use Rattle.std.specs.Prelude.{◌≡◌, ℕ, List, Option, None, Vec, length, map, if◌then◌else◌, ◌==◌}
use Rattle.std.specs.Global.{Global}
use Rattle.msg_names.specs.Numbering.{LacksName, name_at}
use Rattle.msg_names.specs.declared.texts.TheConstants.{MAX_TEXTS}

-- the bytes of each text
abbrev pub texts_of : List (Vec ℕ Global) → List (List ℕ)
texts_of keys = map (λ (k : Vec ℕ Global). k.items) keys

-- the text with a number; the first text has number 1
abbrev pub text_at : List (List ℕ) → ℕ → Option (List ℕ)
text_at texts number = if number == 0 then None else name_at texts number

-- the text is not among the texts, and as many texts are there as fit
abbrev pub LacksPlaceFor : List (List ℕ) → List ℕ → Type 0
LacksPlaceFor texts text = (length texts ≡ MAX_TEXTS) × LacksName texts text
