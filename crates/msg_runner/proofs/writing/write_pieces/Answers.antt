use Rattle.std.proofs.Common.{arith, ◌≡◌, ◌-◌, length, min, map, ap, subst}
use Rattle.std.specs.Prelude.{All}
use Rattle.msg_image.specs.Items.{ItemParts}
use Rattle.msg_image.specs.Plain.{item_parts}
use Rattle.msg_image.specs.Sound.{IsSoundItem}
use Rattle.msg_answers.specs.Serving.{pieces_of, sends_of}
use Rattle.msg_answers.proofs.PartLemmas.{all_left, split_named}
use Rattle.msg_answers.proofs.PieceLemmas.{pieces_step}
use Rattle.msg_answers.proofs.WrittenLemmas.{writing_part}
use Rattle.msg_runner.proofs.writing.write_pieces.Goals as goal

pub write_piece-requires-clause-sound : goal.write_piece-requires-clause-sound
write_piece-requires-clause-sound g c κs within =
    let P : ItemParts → Type 0 = IsSoundItem c.args.part.image.now in
    let piece = c.split_at.result.0.now in
    let later = c.split_at.result.1.now in
    let split = split_named c.loop-rest.rest.now piece later c.piece_len.result c.split_at.ensures.front c.split_at.ensures.back in
    all_left P (map item_parts piece) (map item_parts later) (subst (All P) split c.loop-rest.invariant.writing.sound)

pub loop-rest-preserved : goal.loop-rest-preserved
loop-rest-preserved g c =
    let image = c.args.part.image.now in
    let piece = c.split_at.result.0.now in
    let later = c.split_at.result.1.now in
    let split = split_named c.loop-rest.rest.now piece later c.piece_len.result c.split_at.ensures.front c.split_at.ensures.back in
    record {
      few = omega (arith, c.loop-rest.invariant.few, c.split_at.ensures.front_len, c.split_at.ensures.back_len, c.piece_len.ensures.some);
      pieces =
          let cut = c.args.part.deal.cut in
          let left = length c.loop-rest.rest.now in
          let step = pieces_step cut left c.args.part.deal.some_places (omega (arith, c.piece_len.ensures.some, c.piece_len.ensures.cut)) in
          let rest : pieces_of cut (length later) ≡ pieces_of cut (left - min left cut) = ap (pieces_of cut) (omega (arith, c.split_at.ensures.front_len, c.split_at.ensures.back_len, c.piece_len.ensures.cut)) in
          omega (arith, c.loop-rest.invariant.pieces, step, rest);
      writing = writing_part image c.args.asking.now.sender.sender.seen.front (sends_of image (map item_parts c.args.part.items.now)) c.args.text.now.items c.loop-rest.asking.sender.sender.seen.front c.write_piece.new.asking.sender.sender.seen.front c.loop-rest.text.items c.write_piece.new.text.items
          (map item_parts c.loop-rest.rest.now) (map item_parts piece) (map item_parts later) c.loop-rest.invariant.writing split c.in_ok-write_piece.ensures.image c.in_ok-write_piece.ensures.written;
    }
