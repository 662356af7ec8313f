-- A type, and the text after it.
use Rattle.std.specs.Prelude.{ℕ, zero, suc, Bool, true, List, [], ◌∷◌, length, ◌==◌, max, if◌then◌else◌}
use Rattle.msg_encodings.specs.Letters.{kind, size_of}
use Rattle.msg_encodings.specs.Shapes.{plain, rows, vector, bit_field, whole, place}
use Rattle.msg_encodings.specs.Texts.{past, up_to, past_one, past_name, number, past_number, qualifiers}
use Rattle.msg_encodings.specs.declared.letters.Kind.{Kind}
use Rattle.msg_encodings.specs.declared.letters.Kind.TheVariants.{Fields, Rows, Vector, Complex, Bits, Pointer, Object, Plain}
use Rattle.msg_encodings.specs.declared.shapes.Shape.{Shape}

-- what is read at the beginning of a text, and the text after it
abbrev pub Read : Type 0
Read = Shape × List ℕ

-- no member is left
abbrev pub ends : ℕ → List ℕ → Bool
ends close [] = true
ends close (x ∷ xs) = x == close

-- the text after the name of a structure or union, from its members or its end
abbrev pub past_tag : ℕ → List ℕ → List ℕ
past_tag close text = past_one 61 (up_to (61 ∷ close ∷ []) text)

-- the bit after which the next member lies: the members of a union lie at its beginning
abbrev pub front : ℕ → ℕ → ℕ
front close end = if close == 41 then 0 else end

-- The members up to the closing letter, of which a limited number is read. The members before them
-- end at the bit, and have this largest alignment.
unfoldable pub fields : (List ℕ → Read) → ℕ → ℕ → ℕ → ℕ → List ℕ → Read
fields type close zero end align text = (whole end align, text)
fields type close (suc left) end align text =
    let at = past_name text in
    let member = type at in
    let last = (place (front close end) member.0).1 in
    if ends close at then (whole end align, past_one close at)
    else fields type close left (max end last) (max align member.0.align) member.1

-- the members of a structure or union: each takes a byte of the text, so this limit is enough
abbrev pub members : (List ℕ → Read) → ℕ → List ℕ → Read
members type close text = fields type close (suc (length text)) 0 1 text

-- What comes after a letter of this kind. `type` reads the types that are nested in it.
abbrev pub of_kind : (List ℕ → Read) → ℕ → List ℕ → Kind → Read
of_kind type letter rest (Fields close) = members type close (past_tag close rest)
of_kind type letter rest Rows =
    let row = type (past_number rest) in (rows (number rest) row.0, past_one 93 row.1)
of_kind type letter rest Vector =
    let size = past_one 91 rest in
    let align = past_one 44 (past_number size) in
    (vector (number size) (number align), past_one 93 (type (past_number align)).1)
of_kind type letter rest Complex = let part = type rest in (rows 2 part.0, part.1)
of_kind type letter rest Bits =
    let declared = type (past_number rest) in
    (bit_field (number rest) (number declared.1) declared.0, past_number declared.1)
of_kind type letter rest Pointer = (plain 8, (type (past (94 ∷ qualifiers) rest)).1)
of_kind type letter rest Object = (plain 8, past_name (past_one 63 rest))
of_kind type letter rest Plain = (plain (size_of letter), rest)

abbrev pub begun : (List ℕ → Read) → List ℕ → Read
begun type [] = (plain 0, [])
begun type (letter ∷ rest) = of_kind type letter rest (kind letter)

-- The first type, in which types may be nested to this depth. A deeper type ends the text.
unfoldable pub first : ℕ → List ℕ → Read
first zero text = (plain 0, [])
first (suc depth) text = begun (first depth) (past qualifiers text)
