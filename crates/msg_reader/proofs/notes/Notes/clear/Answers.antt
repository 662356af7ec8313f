use Rattle.std.proofs.Common.{false, arith}
use Rattle.msg_reader.proofs.BlankLemmas.{one-more-part}
use Rattle.msg_reader.proofs.notes.Notes.clear.Goals.{then-self-part, else-self-part}
use Rattle.msg_reader.proofs.notes.Notes.clear.Goals as goal

pub loop-part-preserved : goal.loop-part-preserved
loop-part-preserved c =
    let has = c.loop-part.invariant.rooms in
    elim c.if-self-part.branch [
      | then-self-part w ↦ rw (w.self-is) (record {
        rooms = w.clear_part.ensures.rooms;
        blank = one-more-part c.loop-part.self.first w.clear_part.new.self.first c.loop-part.part has.first w.clear_part.ensures.rooms.first c.loop-part-test.true c.loop-part.invariant.blank w.clear_part.ensures.kept w.clear_part.ensures.blank;
      })
      | else-self-part w ↦ rw (w.self-is) (record {
        rooms = has;
        blank = one-more-part c.loop-part.self.first c.loop-part.self.first c.loop-part.part has.first has.first c.loop-part-test.true c.loop-part.invariant.blank (λ p d inside blank. blank) (c.loop-part.self.unwritten c.loop-part.part false (omega (arith, has.written, c.loop-part-test.true)) w.if-self-part.false);
      })
    ]
