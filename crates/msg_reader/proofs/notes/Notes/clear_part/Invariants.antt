use Rattle.std.proofs.Common.{◌<◌, ◌≤◌, ◌*◌, ℕ, get_or}
use Rattle.msg_reader.specs.declared.note.Note.{Note}
use Rattle.msg_reader.specs.Blank.{IsBlank, StayBlank}
use Rattle.msg_reader.specs.Notes.{HavePlaces}
use Rattle.msg_reader.proofs.notes.Notes.clear_part.Given as goal

abbrev pub invariant-loop-place : goal.invariant-loop-place
invariant-loop-place l = record {
  rooms : HavePlaces l.self;
  kept : StayBlank l.initial.self.first l.self.first;
  blank : (n : ℕ) (d : Note) → 128 * l.part ≤ n → n < l.place → IsBlank (get_or l.self.first n d);
}
