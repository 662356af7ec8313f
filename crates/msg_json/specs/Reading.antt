-- What a reader's tokens begin with, as data, and the tokens after it.
use Rattle.std.specs.Prelude.{ℕ, length}
use Rattle.json.specs.Json.{Parse, value, items, members}
use Rattle.serde_json.specs.Data.{Data, Items, Members, no_members}
use Rattle.serde_json.specs.Read.{of_json, of_items, of_members, converted}

-- a value in which lists and objects nest no deeper than the number
abbrev pub data_first : ℕ → Parse Data
data_first depth ts = converted of_json (value depth ts)

-- the values of a list, to its end
abbrev pub items_first : ℕ → Parse Items
items_first depth ts = converted of_items (items (value depth) (length ts) ts)

-- the members of an object, to its end
abbrev pub members_first : ℕ → Parse Members
members_first depth ts = converted (λ ms. of_members ms no_members) (members (value depth) (length ts) ts)
