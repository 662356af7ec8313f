-- Reading leaves a shorter text.
use Rattle.std.proofs.Common.{◌==◌, ℕ, zero, suc, ◌-◌, ◌≤◌, max, Bool, true, false, cond, List, [], ◌∷◌, length, arith}
use Rattle.msg_encodings.specs.Letters.{is_one_of, kind}
use Rattle.msg_encodings.specs.Shapes.{place}
use Rattle.msg_encodings.specs.Texts.{past, up_to, past_one, past_name, past_number, is_digit, qualifiers}
use Rattle.msg_encodings.specs.Reading.{Read, ends, front, fields, past_tag, of_kind, begun, first}
use Rattle.msg_encodings.specs.declared.letters.Kind.{Kind}
use Rattle.msg_encodings.specs.declared.letters.Kind.TheVariants.{Fields, Rows, Vector, Complex, Bits, Pointer, Object, Plain}

choice : {A : Type 0} (P : A → Type 0) (b : Bool) (x y : A) → P x → P y → P (cond b x y)
choice P true x y p q = p
choice P false x y p q = q

-- a text within a length
abbrev Within : ℕ → List ℕ → Type 0
Within n text = length text ≤ n

pub past-le : (these text : List ℕ) → length (past these text) ≤ length text
past-le these [] = omega arith
past-le these (x ∷ xs) = choice (Within (suc (length xs))) (is_one_of these x) (past these xs) (x ∷ xs) (omega (arith, past-le these xs)) (omega arith)

up_to-le : (these text : List ℕ) → length (up_to these text) ≤ length text
up_to-le these [] = omega arith
up_to-le these (x ∷ xs) = choice (Within (suc (length xs))) (is_one_of these x) (x ∷ xs) (up_to these xs) (omega arith) (omega (arith, up_to-le these xs))

pub past_one-le : (it : ℕ) (text : List ℕ) → length (past_one it text) ≤ length text
past_one-le it [] = omega arith
past_one-le it (x ∷ xs) = choice (Within (suc (length xs))) (x == it) xs (x ∷ xs) (omega arith) (omega arith)

pub past_name-le : (text : List ℕ) → length (past_name text) ≤ length text
past_name-le [] = omega arith
past_name-le (x ∷ xs) = choice (Within (suc (length xs))) (x == 34) (past_one 34 (up_to (34 ∷ []) xs)) (x ∷ xs) (omega (arith, past_one-le 34 (up_to (34 ∷ []) xs), up_to-le (34 ∷ []) xs)) (omega arith)

pub past_number-le : (text : List ℕ) → length (past_number text) ≤ length text
past_number-le [] = omega arith
past_number-le (x ∷ xs) = choice (Within (suc (length xs))) (is_digit x) (past_number xs) (x ∷ xs) (omega (arith, past_number-le xs)) (omega arith)

past_tag-le : (close : ℕ) (text : List ℕ) → length (past_tag close text) ≤ length text
past_tag-le close text = omega (arith, past_one-le 61 (up_to (61 ∷ close ∷ []) text), up_to-le (61 ∷ close ∷ []) text)

-- a reader leaves a shorter text of each text, and nothing of the empty one
abbrev pub Shortens : (List ℕ → Read) → Type 0
Shortens type = (text : List ℕ) → length (type text).1 ≤ length text - 1

fields-le : (type : List ℕ → Read) → Shortens type → (close left end align : ℕ) (text : List ℕ) → length (fields type close left end align text).1 ≤ length text
unfolding fields
fields-le type shorter close zero end align text = omega arith
fields-le type shorter close (suc left) end align text =
    let at = past_name text in
    let member = type at in
    let last = (place (front close end) member.0).1 in
    choice (λ (r : Read). length r.1 ≤ length text) (ends close at) _ _
    (omega (arith, past_one-le close at, past_name-le text))
    (omega (arith, fields-le type shorter close left (max end last) (max align member.0.align) member.1, shorter at, past_name-le text))

of_kind-le : (type : List ℕ → Read) → Shortens type → (letter : ℕ) (rest : List ℕ) (k : Kind) → length (of_kind type letter rest k).1 ≤ length rest
of_kind-le type shorter letter rest (Fields close) = omega (arith, fields-le type shorter close (suc (length (past_tag close rest))) 0 1 (past_tag close rest), past_tag-le close rest)
of_kind-le type shorter letter rest Rows = omega (arith, past_one-le 93 (type (past_number rest)).1, shorter (past_number rest), past_number-le rest)
of_kind-le type shorter letter rest Vector =
    let size = past_one 91 rest in
    let align = past_one 44 (past_number size) in
    omega (arith, past_one-le 93 (type (past_number align)).1, shorter (past_number align), past_number-le align, past_one-le 44 (past_number size), past_number-le size, past_one-le 91 rest)
of_kind-le type shorter letter rest Complex = omega (arith, shorter rest)
of_kind-le type shorter letter rest Bits = omega (arith, past_number-le (type (past_number rest)).1, shorter (past_number rest), past_number-le rest)
of_kind-le type shorter letter rest Pointer = omega (arith, shorter (past (94 ∷ qualifiers) rest), past-le (94 ∷ qualifiers) rest)
of_kind-le type shorter letter rest Object = omega (arith, past_name-le (past_one 63 rest), past_one-le 63 rest)
of_kind-le type shorter letter rest Plain = omega arith

begun-le : (type : List ℕ → Read) → Shortens type → (text : List ℕ) → length (begun type text).1 ≤ length text - 1
begun-le type shorter [] = omega arith
begun-le type shorter (letter ∷ rest) = omega (arith, of_kind-le type shorter letter rest (kind letter))

-- the first type takes at least one byte, if there is one
pub first-shortens : (depth : ℕ) → Shortens (first depth)
unfolding first
first-shortens zero text = omega arith
first-shortens (suc depth) text = omega (arith, begun-le (first depth) (first-shortens depth) (past qualifiers text), past-le qualifiers text)
