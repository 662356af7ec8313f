-- The sizes of types, and the positions of members.
use Rattle.std.specs.Prelude.{ℕ, ◌+◌, ◌*◌, ◌<◌, ◌≤◌, Option, None, Some, min, max}
use Rattle.std.specs.Int.{next_multiple_of}
use Rattle.msg_encodings.specs.Units.{bytes}
use Rattle.msg_encodings.specs.declared.letters.TheConstants.{LARGEST}
use Rattle.msg_encodings.specs.declared.shapes.Shape.{Shape}

-- a size and an alignment that are not too large
pub record Fits (s : Shape) : Type 0 where
  pub size : s.size ≤ LARGEST
  pub some : 0 < s.align
  pub align : s.align ≤ LARGEST

-- a type with this size in bytes, which is also its alignment
abbrev pub plain : ℕ → Shape
plain size = record { size = size; align = max size 1; bits = None }

-- an array with this number of elements
abbrev pub rows : ℕ → Shape → Shape
rows count row = record { size = min (count * row.size) LARGEST; align = row.align; bits = None }

-- a size and an alignment that the encoding gives
abbrev pub vector : ℕ → ℕ → Shape
vector size align = record { size = size; align = max align 1; bits = None }

-- a number of bits of a declared type, from the first bit on
abbrev pub bit_field : ℕ → ℕ → Shape → Shape
bit_field first count declared = record {
  size = declared.size;
  align = declared.align;
  bits = Some (first, first + count);
}

-- a structure whose members end before this bit and have this largest alignment: its size is a
-- multiple of the alignment
abbrev pub whole : ℕ → ℕ → Shape
whole end align = record {
  size = min (next_multiple_of (bytes end) align) LARGEST;
  align = align;
  bits = None;
}

-- the first bit of a member of this size and the bit after its last: it lies at the next multiple
-- of its alignment after this bit, at which the members before it end
abbrev pub next_place : ℕ → ℕ → ℕ → ℕ × ℕ
next_place end size align =
    let first = 8 * next_multiple_of (bytes end) align in (first, first + 8 * size)

-- a bit-field lies where its encoding says
abbrev pub place_by : Option (ℕ × ℕ) → ℕ × ℕ → ℕ × ℕ
place_by None next = next
place_by (Some bits) next = bits

abbrev pub place : ℕ → Shape → ℕ × ℕ
place end shape = place_by shape.bits (next_place end shape.size shape.align)
