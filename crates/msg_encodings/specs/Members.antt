-- A type and a member of a structure, by their positions in a text.
use Rattle.std.specs.Prelude.{ℕ, Bool, true, List, [], ◌∷◌, Option, None, Some, length, ◌==◌, ◌-◌, ◌||◌, if◌then◌else◌}
use Rattle.msg_encodings.specs.Shapes.{place}
use Rattle.msg_encodings.specs.Texts.{past_name}
use Rattle.msg_encodings.specs.Reading.{first}
use Rattle.msg_encodings.specs.declared.letters.TheConstants.{DEEPEST}
use Rattle.msg_encodings.specs.declared.types.Member.{Member}
use Rattle.msg_encodings.specs.declared.types.Extent.{Extent}

-- where the rest of a text begins
abbrev pub place_of : List ℕ → List ℕ → ℕ
place_of rest text = length text - length rest

-- the first type of a text
abbrev pub type_of : List ℕ → Extent
type_of text =
    let type = first DEEPEST text in
    record { size = type.0.size; align = type.0.align; end = place_of type.1 text }

-- the text, the structure or the union ends
abbrev pub stops : List ℕ → Bool
stops [] = true
stops (x ∷ xs) = x == 125 || x == 41

-- the member at the beginning of a text, if those before it end at this bit
abbrev pub member_of : List ℕ → ℕ → Option Member
member_of text before =
    let at = past_name text in
    let type = first DEEPEST at in
    let bits = place before type.0 in
    if stops at then None
    else Some (record { begin = place_of at text; end = place_of type.1 text; first = bits.0; last = bits.1; align = type.0.align })
