-- What a handle of texts holds, and what is written of it.
use Rattle.std.specs.Prelude.{◌≡◌, ℕ, Bool, List, Some, ◌++◌, bytes_eq, length, take, drop}
use Rattle.std.specs.List.{list_any}
use Rattle.msg_names.specs.Numbering.{number_of}

-- the contracts' view of texts: the bytes of each, in the order of their numbers
abbrev pub TextsView : Type 0
TextsView = List (List ℕ)

-- bytes after a text was written there: as much of it as there is room for, and then what was there
abbrev pub with_text : List ℕ → List ℕ → List ℕ
with_text text bytes = take (length bytes) text ++ drop (length text) bytes

-- the text is one of these
abbrev pub is_interned : List ℕ → TextsView → Bool
is_interned text v = list_any (bytes_eq text) v

-- if the text has a number, that is returned
abbrev pub AnswersNumber : TextsView → List ℕ → ℕ → ℕ → Type 0
AnswersNumber v text answer number = (n : ℕ) → number_of v text ≡ Some n → (answer ≡ 0) × (number ≡ n)
