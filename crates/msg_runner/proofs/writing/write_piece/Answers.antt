use Rattle.std.proofs.Common.{◌≡◌, [], map, ap, refl, ◌∙◌}
use Rattle.std.proofs.lemmas.List.{nil_from_length}
use Rattle.msg_image.specs.Items.{SendItem}
use Rattle.msg_image.specs.Plain.{item_parts}
use Rattle.msg_image.specs.Sound.{IsSoundItem}
use Rattle.msg_answers.specs.Serving.{sends_of}
use Rattle.msg_eval.specs.Evaluation.{send_of}
use Rattle.msg_eval.proofs.PointLemmas.{points_of}
use Rattle.msg_answers.proofs.ServingLemmas.{all_head, not_a_send}
use Rattle.msg_answers.proofs.WrittenLemmas.{writing_start, writing_here, writing_send, writing_changes, writing_end}
use Rattle.msg_runner.proofs.writing.write_piece.Goals as goal

pub loop-item-init : goal.loop-item-init
loop-item-init g c = writing_start c.args.image.now c.args.asking.now.sender.sender.seen.front (map item_parts c.args.items.now) c.args.text.now.items c.requires.image c.requires.sound

pub send-reply-requires-clause-receiver_of : goal.send-reply-requires-clause-receiver_of
send-reply-requires-clause-receiver_of g c =
    let image = c.args.image.now in
    let here = writing_here image c.args.asking.now.sender.sender.seen.front (sends_of image (map item_parts c.args.items.now)) c.args.text.now.items c.loop-item.asking.sender.sender.seen.front c.loop-item.rest.now c.loop-item.text.items c.in-Some.item.now (SendItem c.in-Send.receiver c.in-Send.sel c.in-Send.args.items) c.in-Some.later.now c.loop-item.invariant c.in-Some.ensures.cases.0 (ap item_parts c.in-Send.is) in
    (all_head (IsSoundItem image) (SendItem c.in-Send.receiver c.in-Send.sel c.in-Send.args.items) (map item_parts c.in-Some.later.now) here.sound).0

pub send-reply-requires-clause-args_of : goal.send-reply-requires-clause-args_of
send-reply-requires-clause-args_of g c =
    let image = c.args.image.now in
    let here = writing_here image c.args.asking.now.sender.sender.seen.front (sends_of image (map item_parts c.args.items.now)) c.args.text.now.items c.loop-item.asking.sender.sender.seen.front c.loop-item.rest.now c.loop-item.text.items c.in-Some.item.now (SendItem c.in-Send.receiver c.in-Send.sel c.in-Send.args.items) c.in-Some.later.now c.loop-item.invariant c.in-Some.ensures.cases.0 (ap item_parts c.in-Send.is) in
    (all_head (IsSoundItem image) (SendItem c.in-Send.receiver c.in-Send.sel c.in-Send.args.items) (map item_parts c.in-Some.later.now) here.sound).1

pub loop-item-preserved-in_ok-push_reply : goal.loop-item-preserved-in_ok-push_reply
loop-item-preserved-in_ok-push_reply g c =
    let image = c.args.image.now in
    let front = c.args.asking.now.sender.sender.seen.front in
    let all = sends_of image (map item_parts c.args.items.now) in
    let here = writing_here image front all c.args.text.now.items c.loop-item.asking.sender.sender.seen.front c.loop-item.rest.now c.loop-item.text.items c.in-Some.item.now (SendItem c.in-Send.receiver c.in-Send.sel c.in-Send.args.items) c.in-Some.later.now c.loop-item.invariant c.in-Some.ensures.cases.0 (ap item_parts c.in-Send.is) in
    let x = c.send-reply.ensures.meaning c.loop-item.asking.sender.sender.seen.front refl in
    let e = points_of (send_of image c.in-Send.receiver c.in-Send.sel c.in-Send.args.items) c.loop-item.asking.sender.sender.seen.front x.state c.send-reply.result x.leads in
    writing_send image front all c.args.text.now.items c.loop-item.asking.sender.sender.seen.front c.send-reply.new.finder.sender.sender.seen.front c.loop-item.text.items c.push_reply.new.text.items c.in-Send.receiver c.in-Send.sel c.in-Send.args.items (map item_parts c.in-Some.later.now) e.points c.send-reply.result here (c.send-reply.ensures.kept ∙ here.same) e.rise e.ends (x.there ∙ e.last) c.in_ok-push_reply.ensures

pub loop-item-preserved : goal.loop-item-preserved
loop-item-preserved g c =
    let image = c.args.image.now in
    let front = c.args.asking.now.sender.sender.seen.front in
    let all = sends_of image (map item_parts c.args.items.now) in
    let here = writing_here image front all c.args.text.now.items c.loop-item.asking.sender.sender.seen.front c.loop-item.rest.now c.loop-item.text.items c.in-Some.item.now (item_parts c.in-Some.item.now) c.in-Some.later.now c.loop-item.invariant c.in-Some.ensures.cases.0 refl in
    writing_changes image front all c.args.text.now.items c.loop-item.asking.sender.sender.seen.front c.loop-item.text.items (item_parts c.in-Some.item.now) (map item_parts c.in-Some.later.now) (not_a_send c.in-Some.item.now c.in_default-item.not-Send) here

pub returns-clause-written : goal.returns-clause-written
returns-clause-written g c =
    let image = c.args.image.now in
    let none : c.loop-item.rest.now ≡ [] = nil_from_length _ c.in_default.ensures.cases in
    writing_end image c.args.asking.now.sender.sender.seen.front (sends_of image (map item_parts c.args.items.now)) c.args.text.now.items c.loop-item.asking.sender.sender.seen.front c.loop-item.rest.now c.loop-item.text.items c.loop-item.invariant none
