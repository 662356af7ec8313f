use Rattle.std.proofs.Common.{map, [], ◌≡◌, ap, refl, arith}
use Rattle.std.proofs.lemmas.List.{nil_from_length}
use Rattle.msg_image.specs.Plain.{item_parts}
use Rattle.msg_image.specs.Items.{SendItem}
use Rattle.msg_image.specs.Sound.{IsSoundItem}
use Rattle.msg_answers.specs.Serving.{share_of, worker_of, sends_of}
use Rattle.msg_answers.proofs.ServingLemmas.{serving_start, serving_here, serving_send, serving_changes, serving_end, all_head, not_a_send}
use Rattle.msg_runner.proofs.share.reply_share.Goals as goal

pub loop-item-init : goal.loop-item-init
loop-item-init g c =
    (omega arith, rw c.new-replies.ensures.items (serving_start c.args.share.part.image.now (worker_of c.args.share.part.deal.cut c.args.share.part.deal.workers) c.args.share.worker c.args.asking.now.sender.sender.seen.front (map item_parts c.args.share.part.items.now) c.requires.image c.requires.sound))

pub reply_at-requires-clause-receiver : goal.reply_at-requires-clause-receiver
reply_at-requires-clause-receiver g c κs within =
    let image = c.args.share.part.image.now in
    let who = worker_of c.args.share.part.deal.cut c.args.share.part.deal.workers in
    let start = share_of who c.args.share.worker 0 (sends_of image (map item_parts c.args.share.part.items.now)) in
    let here = serving_here image who c.args.share.worker c.args.asking.now.sender.sender.seen.front start c.loop-item.asking.sender.sender.seen.front c.loop-item.place c.loop-item.rest.now c.loop-item.replies.items c.in-Some.item.now (SendItem c.in-Send.receiver c.in-Send.sel c.in-Send.args.items) c.in-Some.later.now c.loop-item.invariant.1 c.in-Some.ensures.cases.0 (ap item_parts c.in-Send.is) in
    (all_head (IsSoundItem image) (SendItem c.in-Send.receiver c.in-Send.sel c.in-Send.args.items) (map item_parts c.in-Some.later.now) here.sound).0

pub reply_at-requires-clause-args : goal.reply_at-requires-clause-args
reply_at-requires-clause-args g c κs within =
    let image = c.args.share.part.image.now in
    let who = worker_of c.args.share.part.deal.cut c.args.share.part.deal.workers in
    let start = share_of who c.args.share.worker 0 (sends_of image (map item_parts c.args.share.part.items.now)) in
    let here = serving_here image who c.args.share.worker c.args.asking.now.sender.sender.seen.front start c.loop-item.asking.sender.sender.seen.front c.loop-item.place c.loop-item.rest.now c.loop-item.replies.items c.in-Some.item.now (SendItem c.in-Send.receiver c.in-Send.sel c.in-Send.args.items) c.in-Some.later.now c.loop-item.invariant.1 c.in-Some.ensures.cases.0 (ap item_parts c.in-Send.is) in
    (all_head (IsSoundItem image) (SendItem c.in-Send.receiver c.in-Send.sel c.in-Send.args.items) (map item_parts c.in-Some.later.now) here.sound).1

pub loop-item-preserved-in_ok-reply_at : goal.loop-item-preserved-in_ok-reply_at
loop-item-preserved-in_ok-reply_at g c =
    let image = c.args.share.part.image.now in
    let who = worker_of c.args.share.part.deal.cut c.args.share.part.deal.workers in
    let start = share_of who c.args.share.worker 0 (sends_of image (map item_parts c.args.share.part.items.now)) in
    let here = serving_here image who c.args.share.worker c.args.asking.now.sender.sender.seen.front start c.loop-item.asking.sender.sender.seen.front c.loop-item.place c.loop-item.rest.now c.loop-item.replies.items c.in-Some.item.now (SendItem c.in-Send.receiver c.in-Send.sel c.in-Send.args.items) c.in-Some.later.now c.loop-item.invariant.1 c.in-Some.ensures.cases.0 (ap item_parts c.in-Send.is) in
    (omega (arith, c.loop-item.invariant.0, c.in-Some.ensures.cases.1), serving_send image who c.args.share.worker c.args.asking.now.sender.sender.seen.front start c.loop-item.asking.sender.sender.seen.front c.reply_at.new.asking.sender.sender.seen.front c.loop-item.place c.loop-item.replies.items c.reply_at.new.replies.items c.in-Send.receiver c.in-Send.sel c.in-Send.args.items (map item_parts c.in-Some.later.now) here c.in_ok-reply_at.ensures.image c.in_ok-reply_at.ensures.goes)

pub loop-item-preserved : goal.loop-item-preserved
loop-item-preserved g c =
    let image = c.args.share.part.image.now in
    let who = worker_of c.args.share.part.deal.cut c.args.share.part.deal.workers in
    let start = share_of who c.args.share.worker 0 (sends_of image (map item_parts c.args.share.part.items.now)) in
    let here = serving_here image who c.args.share.worker c.args.asking.now.sender.sender.seen.front start c.loop-item.asking.sender.sender.seen.front c.loop-item.place c.loop-item.rest.now c.loop-item.replies.items c.in-Some.item.now (item_parts c.in-Some.item.now) c.in-Some.later.now c.loop-item.invariant.1 c.in-Some.ensures.cases.0 refl in
    (omega (arith, c.loop-item.invariant.0, c.in-Some.ensures.cases.1), serving_changes image who c.args.share.worker c.args.asking.now.sender.sender.seen.front start c.loop-item.asking.sender.sender.seen.front c.loop-item.place c.loop-item.replies.items (item_parts c.in-Some.item.now) (map item_parts c.in-Some.later.now) (not_a_send c.in-Some.item.now c.in_default-item.not-Send) here)

pub returns : goal.returns
returns g c =
    let image = c.args.share.part.image.now in
    let who = worker_of c.args.share.part.deal.cut c.args.share.part.deal.workers in
    let start = share_of who c.args.share.worker 0 (sends_of image (map item_parts c.args.share.part.items.now)) in
    let none : c.loop-item.rest.now ≡ [] = nil_from_length _ c.in_default.ensures.cases in
    serving_end image who c.args.share.worker c.args.asking.now.sender.sender.seen.front start c.loop-item.asking.sender.sender.seen.front c.loop-item.place c.loop-item.rest.now c.loop-item.replies.items c.loop-item.invariant.1 none
