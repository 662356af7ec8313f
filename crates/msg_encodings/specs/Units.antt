-- Bits and bytes.
use Rattle.std.specs.Prelude.{ℕ, min}
use Rattle.std.specs.Int.{div_ceil}
use Rattle.msg_encodings.specs.declared.letters.TheConstants.{LARGEST}

-- the bytes that this number of bits takes, at most the largest size
abbrev pub bytes : ℕ → ℕ
bytes bits = min (div_ceil bits 8) LARGEST
