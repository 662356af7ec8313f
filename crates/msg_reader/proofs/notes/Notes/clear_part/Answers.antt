use Rattle.std.proofs.Common.{rules, ◌≡◌, ◌*◌, length, arith}
use Rattle.msg_reader.proofs.BlankLemmas.{one-more-place}
use Rattle.msg_reader.proofs.notes.Notes.clear_part.Goals as goal

pub loop-place-preserved : goal.loop-place-preserved
loop-place-preserved c =
    let was : length c.args.self.now.first ≡ 8192 = search rules in
    let has : length c.loop-place.self.first ≡ 8192 = c.loop-place.invariant.rooms.first in
    record {
      rooms = c.clear_place.ensures.rooms;
      kept = λ p d inside blank. c.clear_place.ensures.kept p d (omega (arith, inside, was, has)) (c.loop-place.invariant.kept p d inside blank);
      blank = λ n d from below. one-more-place c.loop-place.self.first c.clear_place.new.self.first (128 * c.args.part) c.loop-place.place has (omega (arith, c.loop-place-test.true, c.requires)) c.loop-place.invariant.blank c.clear_place.ensures.kept c.clear_place.ensures.blank n d from below;
    }
