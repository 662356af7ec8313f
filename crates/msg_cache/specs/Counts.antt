-- What the keeper's counts say of one another, and how each step counts.
use Rattle.std.specs.Prelude.{◌≡◌, ◌+◌, ◌-◌, ◌^◌, ◌≤◌, ◌⊎◌, ℕ, min, slice_index, slice_set}
use Rattle.std.specs.Int.{trailing_zeros}
use mir.Syntax.{w32}
use Rattle.msg_cache.specs.declared.answer.Filled.{Filled}
use Rattle.msg_cache.specs.declared.answer.Filled.TheVariants.{Present, Used, Grown, NoArray}
use Rattle.msg_cache.specs.declared.answer.Report.{Report}
use Rattle.msg_cache.specs.declared.answer.Placement.{Placement}
use Rattle.msg_cache.specs.declared.answer.Placement.TheVariants.{Take}

-- The counts are in proportion, also where one has come to its greatest value.
pub record AreCounts (r : Report) : Type 0 where
  -- an array that is given again is installed
  pub again : r.given_again ≤ r.growths
  -- a flush takes an array away
  pub flushes : r.flushes ≤ r.retired
  -- what takes an array away is a flush or a growth
  pub retired : r.retired ≤ r.flushes + r.growths

-- so many more, up to the greatest value
abbrev pub more : ℕ → ℕ → ℕ
more m n = min (n + m) (2 ^ 64 - 1)

-- one more
abbrev pub one_more : ℕ → ℕ
one_more n = min (n + 1) (2 ^ 64 - 1)

-- an array was installed, maybe one that was before, and maybe in the place of another
pub record CountsInstall (r r' : Report) : Type 0 where
  pub counts : r' ≡ record r { growths = one_more r.growths; retired = r'.retired; given_again = r'.given_again }
  pub retired : (r'.retired ≡ r.retired) ⊎ (r'.retired ≡ one_more r.retired)
  pub again : (r'.given_again ≡ r.given_again) ⊎ (r'.given_again ≡ one_more r.given_again)

-- an entry was stored
abbrev pub after_entry : Report → Report
after_entry r = record r { fills = one_more r.fills }

-- a class reference lost its live array to a flush
abbrev pub after_flush : Report → Report
after_flush r = record r { flushes = one_more r.flushes; retired = one_more r.retired }

-- there was a collection, and this number of arrays became free
abbrev pub after_collection : ℕ → Report → Report
after_collection n r = record r { collections = one_more r.collections; freed = more n r.freed }

-- the place of a capacity among 4, 8, and so on up to 1,024
abbrev pub place_of : ℕ → ℕ
place_of capacity = trailing_zeros w32 capacity - 2

-- no array of this capacity was free
abbrev pub after_want : ℕ → Report → Report
after_want capacity r = record r { no_array = slice_set r.no_array (place_of capacity) (one_more (slice_index r.no_array (place_of capacity))) }

-- a sender was asked for while all were out
abbrev pub after_refusal : Report → Report
after_refusal r = record r { refused_senders = one_more r.refused_senders }

-- an array was installed for an entry, which was stored
abbrev pub CountsGrowth : Report → Report → Type 0
CountsGrowth r r' = (j : Report) × CountsInstall r j × (r' ≡ after_entry j)

-- there was maybe a collection
abbrev pub MayCollect : Report → Report → Type 0
MayCollect r r' = (r' ≡ r) ⊎ ((n : ℕ) × (r' ≡ after_collection n r))

-- from one report to the next there was a fill that needed this and had this answer
abbrev pub CountsFill : Placement → Filled → Report → Report → Type 0
CountsFill way Present r r' = r' ≡ r
CountsFill way Used r r' = r' ≡ after_entry r
CountsFill way Grown r r' = (j : Report) × MayCollect r j × CountsGrowth j r'
CountsFill way NoArray r r' = (capacity freed : ℕ) × (way ≡ Take capacity) × (r' ≡ after_want capacity (after_collection freed r))
