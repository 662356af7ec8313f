-- The contracts' view of `Written`.
use Rattle.std.specs.Prelude.{ℕ, List}
use Rattle.std.specs.Vec.{vec_capacity}
use Rattle.msg_tables.specs.declared.entry.Entry.{Entry}
use Rattle.msg_tables.specs.declared.entry.Written.TheInside.{Inside}

-- what a list wrote, from the first entry to the last, and the number of entries with room
pub record WrittenView : Type 0 where
  pub entries : List Entry
  pub room : ℕ

-- the view of the entries that `Written` holds
abbrev pub written_of : Inside → WrittenView
written_of w = record { entries = w.entries.items; room = vec_capacity w.entries }
