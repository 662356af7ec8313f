use Rattle.std.proofs.Common.{◌≡◌, length, take}
use Rattle.msg_names.specs.declared.value.ClassRef.{ClassRef}
use Rattle.msg_tables.specs.Making.{IsMarkedBelow, MarksTold}
use Rattle.msg_tables.specs.Recent.{HasPlace}
use Rattle.msg_tables.proofs.tables.Tables.mark_written.Given as goal

abbrev pub invariant-loop-entry : goal.invariant-loop-entry
invariant-loop-entry l = record {
  marks : MarksTold l.self (take l.entry-index l.entries) l.initial.marked l.marked;
  recent : (c : ClassRef) → HasPlace l.recent c → IsMarkedBelow l.self l.marked c;
  length : length l.marked ≡ length l.initial.marked;
}
