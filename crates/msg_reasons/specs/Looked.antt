-- Lookups that were noted, by their numbers.
use Rattle.std.specs.Prelude.{List, map}
use Rattle.msg_names.specs.Number.{selector_number, imp_number}
use Rattle.msg_reasons.specs.Lookups.{Looked}
use Rattle.msg_reasons.specs.declared.notes.Lookup.{Lookup}

-- a lookup, by its numbers
abbrev pub looked : Lookup → Looked
looked l = record { class = l.class; sel = selector_number l.sel; imp = imp_number l.imp; holder = l.holder }

-- the same for each of several
abbrev pub all_looked : List Lookup → List Looked
all_looked ls = map looked ls
