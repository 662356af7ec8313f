-- The key of a lookup, and the seal of a note: the key and what the lookup found, as one word.
use Rattle.std.specs.Prelude.{◌≡◌, ◌≢◌, ◌<◌, ◌+◌, ◌*◌, ◌/◌, ◌%◌, ◌^◌, ◌==◌, ℕ, if◌then◌else◌, nat_lt}

-- The key of a lookup. Keys are one to one if the slot is below 2^26 and the selector takes 32
-- bits. The low 16 bits of a key are 8 times the place of its note.
abbrev pub key_of : ℕ → ℕ → ℕ
key_of slot sel = (slot + 1) * 34359769160 + sel * 8

-- the place of a lookup among the notes
abbrev pub place_of : ℕ → ℕ → ℕ
place_of slot sel = key_of slot sel / 8 % 8192

-- the mark of an implementation in a seal: its number, if that takes at most 16 bits and is below
-- 65,534; 65,534 for a longer one; and 65,535 for none
abbrev pub mark_of : ℕ → ℕ
mark_of imp = if imp == 0 then 65535 else if nat_lt imp 65534 then imp else 65534

-- a word is the seal of a lookup that found this implementation: the mark below its key
abbrev pub IsSealOf : ℕ → ℕ → ℕ → ℕ → Type 0
IsSealOf seal slot sel imp = seal + mark_of imp ≡ key_of slot sel

-- a word and an implementation are a seal of no lookup of selector 0, which is nobody's
pub record IsSealed (seal imp : ℕ) : Type 0 where
  pub fits : seal + mark_of imp < 2 ^ 64
  pub named : (slot : ℕ) → seal + mark_of imp ≢ key_of slot 0
