-- Texts, and lists of them.
use Rattle.std.specs.Prelude.{◌≡◌, ℕ, ◌-◌, ◌≤◌, unwrap_or, nat_lt, List, [], ◌∷◌, length, Bool, false, ◌||◌, not, map, fold}
use Rattle.std.specs.Borrow.{Bor}
use Rattle.std.specs.List.{list_any}
use Rattle.std.specs.Str.{bytes_eq}
use Rattle.msg_names.specs.Numbering.{number_of, with_name}
use Rattle.msg_names.specs.declared.names.TheConstants.{MAX_NAMES}

-- the bytes of a text
abbrev pub Text : Type 0
Text = List ℕ

-- the text is one of the texts
abbrev pub is_among : Text → List Text → Bool
is_among text texts = list_any (bytes_eq text) texts

-- the name is not among the names
abbrev pub is_unknown : List Text → Text → Bool
is_unknown names name = not (is_among name names)

-- some text occurs twice
abbrev pub has_duplicate : List Text → Bool
has_duplicate [] = false
has_duplicate (text ∷ texts) = is_among text texts || has_duplicate texts

-- a text occurs twice, or is one of those that were seen
abbrev pub repeats : List Text → List Text → Bool
repeats seen texts = list_any (λ t. is_among t seen) texts || has_duplicate texts

-- The number of a name, from 0. A name that is not among the names would get the number of the
-- first. The number is used only for names that are known, and then no other name has it.
abbrev pub number_among : List Text → Text → ℕ
number_among names name = unwrap_or (number_of names name) 1 - 1

-- the different texts, each at its first place
unfoldable pub distinct : List Text → List Text
distinct texts = fold with_name [] texts

-- the names are the different texts, or more of them than fit
pub record AreDistinct (names texts : List Text) : Type 0 where
  pub many : nat_lt MAX_NAMES (length names) ≡ nat_lt MAX_NAMES (length (distinct texts))
  pub all : length names ≤ MAX_NAMES → names ≡ distinct texts

-- what the references point to
abbrev pub texts_view : List (Bor Text) → List Text
texts_view ts = map (λ t. t.now) ts
