-- The number of keys of an object.
use Rattle.std.specs.Prelude.{ℕ, ◌==◌, Bool, false}
use Rattle.serde_json.specs.Data.{Data, null, boolean, number, string, array, object}
use Rattle.serde_json.specs.Events.{members_len}

-- an object with n keys
abbrev pub has_keys : ℕ → Data → Bool
has_keys n null = false
has_keys n (boolean b) = false
has_keys n (number x) = false
has_keys n (string s) = false
has_keys n (array ds) = false
has_keys n (object ms) = members_len ms == n
