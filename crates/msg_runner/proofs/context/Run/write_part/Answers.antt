use Rattle.std.proofs.Common.{arith, ◌≡◌, length, map, sym, ap, ◌∙◌}
use Rattle.std.specs.Prelude.{count_by}
use Rattle.std.proofs.lemmas.Grind.{common_steps}
use Rattle.std.proofs.lemmas.List.{length-map}
use Rattle.msg_image.specs.Plain.{item_parts}
use Rattle.msg_answers.specs.Serving.{AllSends, is_send, pieces_of}
use Rattle.msg_answers.proofs.AnsweredLemmas.{sends_stay}
use Rattle.msg_answers.proofs.PartLemmas.{answered_serial, where_ok}
use Rattle.msg_answers.proofs.PieceLemmas.{all_count}
use Rattle.msg_runner.proofs.context.Run.write_part.Goals as goal

pub returns-then-is_shared-clause-text : goal.returns-then-is_shared-clause-text
returns-then-is_shared-clause-text g c =
    where_ok c.share_out.result (answered_serial c.args.part.image.now c.args.part.deal.workers c.args.part.deal.cut c.args.crew.now.changer (map item_parts c.args.part.items.now) c.args.text.now.items c.share_out.new.text.items c.args.part.deal.some_workers c.requires.part) c.share_out.ensures.answered

pub returns-clause-history : goal.returns-clause-history
returns-clause-history g c =
    let sends : AllSends (map item_parts c.args.part.items.now) = grind (arith, common_steps) in
    c.write_sends.ensures.same ∙ sym (sends_stay c.args.crew.now.changer (map item_parts c.args.part.items.now) sends)

pub returns-clause-pieces : goal.returns-clause-pieces
returns-clause-pieces g c =
    let items = c.args.part.items.now in
    let sends : AllSends (map item_parts items) = grind (arith, common_steps) in
    let count : count_by is_send (map item_parts items) ≡ length items = all_count c.args.part.image.now (map item_parts items) sends ∙ length-map items item_parts in
    c.in_ok-pieces.ensures.pieces ∙ ap (pieces_of c.args.part.deal.cut) (sym count)

pub returns-clause-changes : goal.returns-clause-changes
returns-clause-changes g c =
    let parts = map item_parts c.args.part.items.now in
    let sends : AllSends parts = grind (arith, common_steps) in
    let count = all_count c.args.part.image.now parts sends in omega (arith, count)
