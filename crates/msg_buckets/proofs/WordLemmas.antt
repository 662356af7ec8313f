-- Words and their parts.
use Rattle.std.proofs.Common.{◌≡◌, ℕ, ◌^◌, ◌<◌, arith}
use Rattle.std.proofs.lemmas.Nat.{div-mul-add, mod-mul-add}
use Rattle.msg_buckets.specs.Word.{sel_of, imp_of, word_of}

pub sel_of-word_of : (sel imp : ℕ) → imp < 2 ^ 32 → sel_of (word_of sel imp) ≡ sel
sel_of-word_of sel imp h = div-mul-add sel (2 ^ 32) imp h

pub imp_of-word_of : (sel imp : ℕ) → imp < 2 ^ 32 → imp_of (word_of sel imp) ≡ imp
imp_of-word_of sel imp h = mod-mul-add sel (2 ^ 32) imp h

pub word_of-parts : (word : ℕ) → word_of (sel_of word) (imp_of word) ≡ word
word_of-parts word = omega arith
