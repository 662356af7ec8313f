-- Laws of names and numbers.
use Rattle.std.specs.Prelude.{◌≡◌, ◌+◌, ℕ, List, Some, None, length}
use Rattle.msg_names.specs.Numbering.{number_of, name_at, with_name}

-- two texts with the same number are the same text
abbrev pub NumbersAreOneToOne : Type 0
NumbersAreOneToOne = (names : List (List ℕ)) (s t : List ℕ) (n : ℕ) → number_of names s ≡ Some n → number_of names t ≡ Some n → s ≡ t

-- the text that has a number is the name of that number
abbrev pub NumberedTextIsItsName : Type 0
NumberedTextIsItsName = (names : List (List ℕ)) (t : List ℕ) (n : ℕ) → number_of names t ≡ Some n → name_at names n ≡ Some t

-- a new name gets the number after the last one
abbrev pub NewNameHasNextNumber : Type 0
NewNameHasNextNumber = (names : List (List ℕ)) (t : List ℕ) → number_of names t ≡ None → number_of (with_name names t) t ≡ Some (length names + 1)

-- a number stays the same when a name is added
abbrev pub NumbersStay : Type 0
NumbersStay = (names : List (List ℕ)) (s t : List ℕ) (n : ℕ) → number_of names t ≡ Some n → number_of (with_name names s) t ≡ Some n
