-- Which texts are names.
use Rattle.std.specs.Prelude.{ℕ, ◌-◌, ◌==◌, ◌&&◌, ◌||◌, not, List, length, slice_index, count_by, Bool, nat_le}
use Rattle.std.specs.Char.{is_ascii_alphanumeric, is_ascii_digit}
use Rattle.std.specs.List.{list_all}
use Rattle.msg_names.specs.declared.name.TheConstants.{MAX_NAME_BYTES, MAX_ARGUMENTS}

-- the byte `:`
abbrev pub colon : ℕ
colon = 58

-- the number of arguments that a selector with this name takes
abbrev pub colons_of : List ℕ → ℕ
colons_of text = count_by (λ b. b == colon) text

-- an ASCII letter or digit, or `_`
unfoldable pub is_word_byte : ℕ → Bool
is_word_byte b = is_ascii_alphanumeric b || b == 95

-- one of these, or `:`
unfoldable pub is_selector_byte : ℕ → Bool
is_selector_byte b = is_word_byte b || b == colon

-- 1 to 64 bytes
unfoldable pub is_sized : List ℕ → Bool
is_sized text = nat_le 1 (length text) && nat_le (length text) MAX_NAME_BYTES

abbrev pub starts_with_digit : List ℕ → Bool
starts_with_digit text = is_ascii_digit (slice_index text 0)

-- at most four colons, and the last byte is a colon if there are any
unfoldable pub ends_in_its_colons : List ℕ → Bool
ends_in_its_colons text = nat_le (colons_of text) MAX_ARGUMENTS && (colons_of text == 0 || slice_index text (length text - 1) == colon)

-- the name of a class, an object or an implementation: 1 to 64 letters, digits and `_`, of which
-- the first is no digit
unfoldable pub is_identifier : List ℕ → Bool
is_identifier text = is_sized text && (not (starts_with_digit text) && list_all is_word_byte text)

-- the name of a selector: it may also have up to four colons, and then ends in one
unfoldable pub is_selector_name : List ℕ → Bool
is_selector_name text = is_sized text && (not (starts_with_digit text) && (list_all is_selector_byte text && ends_in_its_colons text))
