-- How long the lookups of a class reference stay the same: since the last list of changes that
-- affects it.
use Rattle.std.specs.Prelude.{ℕ, suc, List, [], ◌∷◌, if◌then◌else◌}
use Rattle.msg_names.specs.declared.value.ClassRef.{ClassRef}
use Rattle.msg_tables.specs.declared.change.Change.{Change}
use Rattle.msg_tables.specs.History.{History}
use Rattle.msg_tables.specs.Log.{Log, empty}
use Rattle.msg_tables.specs.Several.{and_all, is_affected_by_all}

-- for changes from a log on, before which there were n: the number up to the last that affects the
-- class reference, or `last` if none does
abbrev pub last_in : ℕ → ℕ → Log → List (List Change) → ClassRef → ℕ
last_in last n g [] c = last
last_in last n g (xs ∷ more) c = last_in (if is_affected_by_all g xs c then suc n else last) (suc n) (and_all g xs) more c

-- the number of changes up to the last that affects the class reference, or 0 if none does
abbrev pub last_affected : History → ClassRef → ℕ
last_affected h c = last_in 0 0 (empty h.origin) h.changes c
