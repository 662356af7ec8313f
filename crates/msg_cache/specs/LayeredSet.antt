-- The contracts' view of a set of numbers in layers.
use Rattle.std.specs.Prelude.{◌≡◌, ℕ, ◌+◌, ◌*◌, ◌<◌, ◌≤◌, List, Bool, true, false, length, slice_index_or}
use Rattle.msg_cache.specs.BitSet.{HasNone, HasSomeInWord}
use Rattle.msg_cache.specs.declared.layered_set.LayeredSet.TheInside.{Inside}

-- a flag for each 64 others: whether one of them is true
pub record IsSummary (flags over : List Bool) : Type 0 where
  pub room : length flags ≤ 64 * length over
  pub tight : 64 * length over < length flags + 64
  pub none : (k : ℕ) → slice_index_or over k false ≡ false → HasNone flags (64 * k) (64 * (k + 1))
  pub some : (k : ℕ) → slice_index_or over k false ≡ true → HasSomeInWord flags k

-- a set is the list of its numbers' flags
abbrev pub layered_view : Inside → List Bool
layered_view s = s.numbers

-- each layer says where the one below it has some
pub record IsLayered (s : Inside) : Type 0 where
  pub words : IsSummary s.numbers s.words
  pub blocks : IsSummary s.words s.blocks
