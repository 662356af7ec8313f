-- Which arrays an arena has, and when it can't be made.
use Rattle.std.specs.Prelude.{◌≡◌, ◌≢◌, ℕ, ◌+◌, ◌*◌, ◌==◌, nat_lt, List, [], ◌∷◌, ◌++◌, replicate, Option, Some, None, if◌then◌else◌}
use Rattle.msg_buckets.specs.Capacity.{capacities}
use Rattle.msg_tables.specs.Origin.{OriginView, class_total}
use Rattle.msg_cache.specs.declared.config.Config.{Config}
use Rattle.msg_cache.specs.declared.config.ArenaFault.{ArenaFault}
use Rattle.msg_cache.specs.declared.config.ArenaFault.TheVariants.{NoSenders, TooManySenders, TooLarge, Memory}
use Rattle.msg_cache.specs.Layout.{SettingView, setting_for}

-- each number, as often as is counted for it
abbrev pub spread : List ℕ → List ℕ → List ℕ
spread [] cs = []
spread (n ∷ ns) [] = []
spread (n ∷ ns) (c ∷ cs) = replicate n c ++ spread ns cs

-- these, added up
abbrev pub weigh : List ℕ → List ℕ → ℕ
weigh [] cs = 0
weigh (n ∷ ns) [] = 0
weigh (n ∷ ns) (c ∷ cs) = n * c + weigh ns cs

-- the setting of an origin and a config: this number of arrays of 4 words, then of 8, and so on
abbrev pub setting_of : OriginView → Config → SettingView
setting_of origin config = setting_for origin config.senders (spread config.arrays capacities)

-- The words in use: the count of changes, the headers, the buckets, and a probe word for each
-- sender. The padding of probe words isn't counted.
abbrev pub words_of : OriginView → Config → ℕ
words_of origin config = 2 * class_total origin + weigh config.arrays capacities + config.senders + 1

-- the least fault for which an arena isn't made, but for memory
abbrev pub refusal_of : OriginView → Config → Option ArenaFault
refusal_of origin config =
    if config.senders == 0 then Some NoSenders
    else if nat_lt origin.limits.senders config.senders then Some TooManySenders
    else if nat_lt origin.limits.words (words_of origin config) then Some TooLarge
    else None

-- a fault is this one, unless it is memory
abbrev pub IsLeastUnlessMemory : OriginView → Config → ArenaFault → Type 0
IsLeastUnlessMemory origin config fault = fault ≢ Memory → refusal_of origin config ≡ Some fault

-- memory is lacking only where no fault holds
abbrev pub NoneHoldsIfMemory : OriginView → Config → ArenaFault → Type 0
NoneHoldsIfMemory origin config fault = fault ≡ Memory → refusal_of origin config ≡ None
