-- What a text begins with.
use Rattle.std.specs.Prelude.{ℕ, ◌+◌, ◌*◌, ◌-◌, Bool, List, [], ◌∷◌, ◌==◌, nat_le, min, if◌then◌else◌, ◌&&◌}
use Rattle.msg_encodings.specs.Letters.{is_one_of}
use Rattle.msg_encodings.specs.declared.letters.TheConstants.{LARGEST}

-- the text after its leading letters that are among these
abbrev pub past : List ℕ → List ℕ → List ℕ
past these [] = []
past these (x ∷ xs) = if is_one_of these x then past these xs else x ∷ xs

-- the text from its first letter that is among these
abbrev pub up_to : List ℕ → List ℕ → List ℕ
up_to these [] = []
up_to these (x ∷ xs) = if is_one_of these x then x ∷ xs else up_to these xs

-- the text after this letter, if it begins with it
abbrev pub past_one : ℕ → List ℕ → List ℕ
past_one it [] = []
past_one it (x ∷ xs) = if x == it then xs else x ∷ xs

-- the text after a name in quotes, if it begins with one
abbrev pub past_name : List ℕ → List ℕ
past_name [] = []
past_name (x ∷ xs) = if x == 34 then past_one 34 (up_to (34 ∷ []) xs) else x ∷ xs

abbrev pub is_digit : ℕ → Bool
is_digit x = nat_le 48 x && nat_le x 57

-- the number that the leading digits write after this one, at most the largest
abbrev pub number_behind : ℕ → List ℕ → ℕ
number_behind n [] = n
number_behind n (x ∷ xs) = if is_digit x then number_behind (min (10 * n + (x - 48)) LARGEST) xs else n

abbrev pub number : List ℕ → ℕ
number text = number_behind 0 text

-- rnNoORV|
abbrev pub qualifiers : List ℕ
qualifiers = 114 ∷ 110 ∷ 78 ∷ 111 ∷ 79 ∷ 82 ∷ 86 ∷ 124 ∷ []

-- the text after its leading digits
abbrev pub past_number : List ℕ → List ℕ
past_number [] = []
past_number (x ∷ xs) = if is_digit x then past_number xs else x ∷ xs
