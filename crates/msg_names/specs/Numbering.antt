-- How a list of names numbers them.
use Rattle.std.specs.Prelude.{◌≡◌, ◌≤◌, ℕ, suc, ◌+◌, ◌-◌, List, [], ◌∷◌, ◌++◌, length, map, true, false, if◌then◌else◌, Option, Some, None, option_map, slice_get, string_bytes, String}
use Rattle.std.specs.Global.{Global}
use Rattle.std.specs.List.{list_any, list_all}
use Rattle.std.specs.Str.{bytes_eq}
use Rattle.msg_names.specs.Name.{is_selector_name}
use Rattle.msg_names.specs.Number.{selector_number}
use Rattle.msg_names.specs.declared.names.TheConstants.{MAX_NAMES}
use Rattle.msg_names.specs.declared.value.Selector.{Selector}

-- the number of a text: its place in the list, from 1
abbrev pub number_of : List (List ℕ) → List ℕ → Option ℕ
number_of [] text = None
number_of (name ∷ names) text = if bytes_eq text name then Some 1 else option_map suc (number_of names text)

-- the name of a number
abbrev pub name_at : List (List ℕ) → ℕ → Option (List ℕ)
name_at names number = slice_get names (number - 1)

-- the names, with the text added at the end if it is not among them
abbrev pub with_name : List (List ℕ) → List ℕ → List (List ℕ)
with_name names text = if list_any (bytes_eq text) names then names else names ++ text ∷ []

-- each name's number is its place: no name occurs twice
abbrev pub AreNumbered : List (List ℕ) → Type 0
AreNumbered names = (place : ℕ) (name : List ℕ) → slice_get names place ≡ Some name → number_of names name ≡ Some (place + 1)

-- at most 4,096 different selector names
pub record AreNames (names : List (List ℕ)) : Type 0 where
  pub few : length names ≤ MAX_NAMES
  pub named : list_all is_selector_name names ≡ true
  pub numbered : AreNumbered names

-- the texts of strings
abbrev pub texts_of : List (String Global) → List (List ℕ)
texts_of strings = map string_bytes strings

-- the name of a selector
abbrev pub name_of : List (List ℕ) → Selector → Option (List ℕ)
name_of names s = name_at names (selector_number s)

-- the text has a selector's number
abbrev pub IsSelectorOf : List (List ℕ) → List ℕ → Selector → Type 0
IsSelectorOf names text s = number_of names text ≡ Some (selector_number s)

-- the text is not among the names
abbrev pub LacksName : List (List ℕ) → List ℕ → Type 0
LacksName names text = list_any (bytes_eq text) names ≡ false

-- it is a selector name and not among the names, and as many names are there as fit
abbrev pub LacksPlaceFor : List (List ℕ) → List ℕ → Type 0
LacksPlaceFor names text = (is_selector_name text ≡ true) × (length names ≡ MAX_NAMES) × LacksName names text
