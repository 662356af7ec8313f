-- A bucket is one word: a selector's number in its high 32 bits, an implementation's in the low 32.
-- 0 is an empty bucket.
use Rattle.std.specs.Prelude.{◌≡◌, ◌≢◌, ℕ, ◌+◌, ◌*◌, ◌/◌, ◌%◌, ◌^◌}
use Rattle.msg_names.specs.Number.{imp_number}
use Rattle.msg_buckets.specs.declared.word.Look.{Look}
use Rattle.msg_buckets.specs.declared.word.Look.TheVariants.{Hit, Empty, Other}

-- the selector of a word
abbrev pub sel_of : ℕ → ℕ
sel_of word = word / 2 ^ 32

-- the implementation of a word
abbrev pub imp_of : ℕ → ℕ
imp_of word = word % 2 ^ 32

-- the word of a selector and an implementation
abbrev pub word_of : ℕ → ℕ → ℕ
word_of sel imp = sel * 2 ^ 32 + imp

-- what a word says to a probe for the selector
abbrev pub IsLook : ℕ → ℕ → Look → Type 0
IsLook word sel (Hit imp) = (sel_of word ≡ sel) × (imp_of word ≡ imp_number imp)
IsLook word sel Empty = word ≡ 0
IsLook word sel Other = (word ≢ 0) × (sel_of word ≢ sel)
