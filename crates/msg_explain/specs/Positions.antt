-- Lines and columns.
use Rattle.std.specs.Prelude.{◌≡◌, ◌≤◌, ℕ, length, ◌+◌, ◌==◌, List, Bool, not, bit_and, count_by, reverse, take, take_while}
use Rattle.msg_explain.specs.declared.position.Position.{Position}

-- the byte ends a line
abbrev pub ends_line : ℕ → Bool
ends_line byte = byte == 10

-- the byte is the first of a character in UTF-8
abbrev pub begins_character : ℕ → Bool
begins_character byte = not (bit_and byte 192 == 128)

-- the line that a place in a text is in, from 1: one more than lines end before it
abbrev pub line_at : List ℕ → ℕ → ℕ
line_at bytes at = count_by ends_line (take at bytes) + 1

-- the column of a place, from 1: one more than characters begin before it in its line
abbrev pub column_at : List ℕ → ℕ → ℕ
column_at bytes at = count_by begins_character (take_while (λ byte. not (ends_line byte)) (reverse (take at bytes))) + 1

-- the line and the column are those of this place of a text
abbrev pub position_at : List ℕ → ℕ → Position
position_at bytes at = record { line = line_at bytes at; column = column_at bytes at }

-- the line and the column are those of some place in a text, or of its end
abbrev pub IsPositionIn : List ℕ → Position → Type 0
IsPositionIn bytes p = (at : ℕ) × (at ≤ length bytes) × (p ≡ position_at bytes at)
