-- What a change spoils, by the class tables' log.
use Rattle.std.specs.Prelude.{ℕ, List, Bool, length, slice_index}
use Rattle.msg_names.specs.declared.value.ClassRef.{ClassRef}
use Rattle.msg_tables.specs.Log.{Log, lookup, and_then}
use Rattle.msg_tables.specs.declared.change.Change.{Change}
use Rattle.msg_model.specs.declared.state.Standing.TheVariants.{Live}
use Rattle.msg_model.specs.Steps.{is_spoiled, is_spoiled_entry}

-- the word is an entry that will not agree with the method lists after the change
abbrev pub spoils_word : Log → Change → ClassRef → ℕ → Bool
spoils_word h x c word = is_spoiled_entry (lookup (and_then h x)) c word

-- one of these words is such an entry, if they are those of the live array
abbrev pub spoils_some : Log → Change → ClassRef → List ℕ → Bool
spoils_some h x c words = is_spoiled (lookup (and_then h x)) (length words) (slice_index words) (Live c)
