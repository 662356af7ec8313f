use Rattle.msg_names.specs.ClassRef.{slot_of}
use Rattle.msg_rows.proofs.RoomLemmas.{within-room}
use Rattle.msg_tables.proofs.tables.Tables.start.Goals as goal

pub returns-clause-within : goal.returns-clause-within
returns-clause-within c = rw (← c.self.view_is) (λ d. within-room c.self.inside.lists (slot_of d))
