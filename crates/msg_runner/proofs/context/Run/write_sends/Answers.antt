use Rattle.std.proofs.Common.{rules, map, subst, sym, ◌∙◌}
use Rattle.msg_image.specs.Plain.{item_parts}
use Rattle.msg_tables.specs.History.{BeginsWith}
use Rattle.msg_answers.specs.Serving.{sends_of}
use Rattle.msg_answers.specs.Written.{AreWritten}
use Rattle.msg_answers.proofs.WrittenLemmas.{written_begins, written_serial}
use Rattle.msg_runner.proofs.context.Run.write_sends.Goals as goal

pub returns-clause-text : goal.returns-clause-text
returns-clause-text g c =
    let image = c.args.part.image.now in
    let parts = map item_parts c.args.part.items.now in
    let last = c.write_pieces-pieces.new.asking.sender.sender.seen.front in
    let w : AreWritten image c.in_ok-sender.sender.sender.seen.front (sends_of image parts) last c.args.text.now.items c.write_pieces-pieces.new.text.items = search rules in
    let from_here = subst (λ h. AreWritten image h (sends_of image parts) last c.args.text.now.items c.write_pieces-pieces.new.text.items) c.in_ok-sender.ensures.seen w in
    let below = subst (λ h. BeginsWith h last) c.send_out.ensures.same c.meet_again.ensures.begins in
    written_serial image c.args.crew.now.changer last parts c.args.text.now.items c.write_pieces-pieces.new.text.items c.requires.sends below from_here

pub meet_again-requires : goal.meet_again-requires
meet_again-requires g c =
    let image = c.args.part.image.now in
    let sends = sends_of image (map item_parts c.args.part.items.now) in
    let start = c.in_ok-sender.sender.sender.seen.front in
    let last = c.write_pieces-pieces.new.asking.sender.sender.seen.front in
    let w : AreWritten image start sends last c.args.text.now.items c.write_pieces-pieces.new.text.items = search rules in
    let begins = written_begins image start last sends c.args.text.now.items c.write_pieces-pieces.new.text.items w in
    record { seen = subst (λ h. BeginsWith last h) (c.in_ok-sender.ensures.seen ∙ sym c.send_out.ensures.same) begins }
