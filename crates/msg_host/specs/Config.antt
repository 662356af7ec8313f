-- What a host asks for, and what is opened for it.
use Rattle.std.specs.Prelude.{ℕ, ◌≡◌, ◌==◌, ◌||◌, nat_lt, if◌then◌else◌, Bool, false, List, [], ◌∷◌, None, drop, slice_index_or}
use Rattle.std.specs.List.{list_all, list_any}
use Rattle.msg_tables.specs.Origin.{OriginView}
use Rattle.msg_tables.specs.declared.limits.Limits.{Limits}
use Rattle.msg_cache.specs.declared.config.Config.{Config}
use Rattle.msg_host.specs.declared.config.HostConfig.{HostConfig}
use Rattle.msg_host.specs.declared.config.TheConstants.{CONFIG_WORDS, DEFAULT_CLASSES, DEFAULT_SENDERS, HOST_CHANGES, HOST_ROWS, HOST_WORDS, MOST_ARRAYS, MOST_CLASSES, MOST_SENDERS}

-- the word at a place, and 0 beyond the end
abbrev pub word_at : List ℕ → ℕ → ℕ
word_at words place = slice_index_or words place 0

-- the config that words spell, one field after another
abbrev pub config_of : List ℕ → HostConfig
config_of words = record {
  classes = word_at words 0;
  senders = word_at words 1;
  arrays = word_at words 2 ∷ word_at words 3 ∷ word_at words 4 ∷ word_at words 5 ∷ word_at words 6 ∷ word_at words 7 ∷ word_at words 8 ∷ word_at words 9 ∷ word_at words 10 ∷ [];
}

-- each word beyond the fields is 0
abbrev pub are_known : List ℕ → Bool
are_known words = list_all (λ word. word == 0) (drop CONFIG_WORDS words)

-- the number itself, or the default in place of 0
abbrev pub or_default : ℕ → ℕ → ℕ
or_default default number = if number == 0 then default else number

-- how many class numbers are reserved
abbrev pub class_numbers : HostConfig → ℕ
class_numbers config = or_default DEFAULT_CLASSES config.classes

-- how many senders there may be
abbrev pub sender_numbers : HostConfig → ℕ
sender_numbers config = or_default DEFAULT_SENDERS config.senders

abbrev pub default_arrays : List ℕ
default_arrays = 4096 ∷ 2048 ∷ 512 ∷ 256 ∷ 128 ∷ 64 ∷ 32 ∷ 16 ∷ 8 ∷ []

-- no count of arrays is asked for
abbrev pub are_all_0 : List ℕ → Bool
are_all_0 arrays = list_all (λ count. count == 0) arrays

-- the number of arrays of each capacity
abbrev pub array_counts : HostConfig → List ℕ
array_counts config = if are_all_0 config.arrays then default_arrays else config.arrays

abbrev pub host_limits : Limits
host_limits = record { rows = HOST_ROWS; changes = HOST_CHANGES; senders = MOST_SENDERS; words = HOST_WORDS }

-- what a host's history begins with: no classes, and numbers for those that will be made
abbrev pub host_origin : HostConfig → OriginView
host_origin config = record { superclasses = []; made = class_numbers config; lists = []; counts = None; limits = host_limits }

-- what a host's arena has
abbrev pub arena_config : HostConfig → Config
arena_config config = record { senders = sender_numbers config; arrays = array_counts config }

-- some count of arrays is beyond the most
abbrev pub are_beyond : List ℕ → Bool
are_beyond arrays = list_any (λ count. nat_lt MOST_ARRAYS count) arrays

-- a field is beyond its most
abbrev pub is_beyond : HostConfig → Bool
is_beyond config = nat_lt MOST_CLASSES config.classes || nat_lt MOST_SENDERS config.senders || are_beyond config.arrays

-- Some config that is opened has this origin.
pub record IsHostOrigin (o : OriginView) : Type 0 where
  pub config : HostConfig
  pub within : is_beyond config ≡ false
  pub origin : o ≡ host_origin config
