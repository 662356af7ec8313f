-- Which caches a list of changes flushes.
use Rattle.std.specs.Prelude.{◌||◌, ◌&&◌, Bool, true, false, is_some, List, [], ◌∷◌, Option}
use Rattle.msg_names.specs.declared.value.ClassRef.{ClassRef}
use Rattle.msg_tables.specs.declared.change.Change.{Change}
use Rattle.msg_tables.specs.declared.change.Change.TheVariants.{SetImp, Exchange}
use Rattle.msg_tables.specs.declared.entry.Entry.{Entry}
use Rattle.msg_tables.specs.Log.{Log}
use Rattle.msg_tables.specs.Making.{is_told}
use Rattle.msg_tables.specs.Origin.{CountsView}

-- a change that sets a method's implementation or exchanges two
abbrev pub is_set : Change → Bool
is_set (SetImp c s i) = true
is_set (Exchange c s d u) = true
is_set _ = false

-- a list of one such change
abbrev pub is_set_alone : List Change → Bool
is_set_alone [] = false
is_set_alone (x ∷ []) = is_set x
is_set_alone (x ∷ y ∷ more) = false

-- of a document's tables, whose counts of arguments are known, a change that sets or exchanges
-- alone flushes all caches
abbrev pub flushes_all : Option CountsView → List Change → Bool
flushes_all counts xs = is_some counts && is_set_alone xs

-- Changes of tables with these counts flush the cache of a class reference, where this is then the
-- log and these entries were written.
abbrev pub is_flushed : Option CountsView → List Change → Log → List Entry → ClassRef → Bool
is_flushed counts xs h entries c = flushes_all counts xs || is_told h entries c
