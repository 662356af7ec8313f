use Rattle.std.proofs.Common.{◌<◌, ◌/◌, ℕ, get_or}
use Rattle.msg_reader.specs.declared.note.Note.{Note}
use Rattle.msg_reader.specs.Blank.{IsBlank}
use Rattle.msg_reader.specs.Notes.{HavePlaces}
use Rattle.msg_reader.proofs.notes.Notes.clear.Given as goal

abbrev pub invariant-loop-part : goal.invariant-loop-part
invariant-loop-part l = record {
  rooms : HavePlaces l.self;
  blank : (n : ℕ) (d : Note) → n / 128 < l.part → IsBlank (get_or l.self.first n d);
}
