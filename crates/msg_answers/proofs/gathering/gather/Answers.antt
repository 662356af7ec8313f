use Rattle.std.proofs.Common.{arith, ◌≡◌, ◌<◌, List, [], length, map, slice_get, Some, ap, sym, subst, refl, Vec, Global}
use Rattle.std.specs.Prelude.{slice_index}
use Rattle.std.proofs.lemmas.List.{nil_from_length}
use Rattle.std.proofs.lemmas.Option.{slice_get_read, get_or_from_slice_get}
use Rattle.msg_image.specs.Items.{SendItem}
use Rattle.msg_image.specs.Plain.{item_parts}
use Rattle.msg_eval.specs.declared.reply.Reply.{Reply}
use Rattle.msg_answers.specs.Serving.{worker_of}
use Rattle.msg_answers.proofs.GatherLemmas.{IsGathering, gathering_here, gathering_send, gathering_end}
use Rattle.msg_answers.proofs.gathering.gather.Goals as goal

pub loop-item-preserved-in_ok-push_reply-in-Send : goal.loop-item-preserved-in_ok-push_reply-in-Send
loop-item-preserved-in_ok-push_reply-in-Send c =
    let image = c.args.part.image.now in
    let who = worker_of c.args.part.deal.cut c.args.part.deal.workers in
    let workers = c.args.part.deal.workers in
    let all = map item_parts c.args.part.items.now in
    let lists : List (List Reply) = map (λ (rs : Vec Reply Global). rs.items) c.args.shares.now in
    let taken = c.loop-item.taken.items in
    let v = c.worker-worker.result in
    let here = gathering_here image who workers all lists c.args.outcomes.now c.args.text.now.items taken c.loop-item.place c.loop-item.rest.now c.loop-item.left.now c.loop-item.text.items c.in-Some.item.now (SendItem c.in-Send.receiver c.in-Send.sel c.in-Send.args.items) c.in-Some.later.now c.loop-item.invariant.1 c.in-Some.ensures.cases.0 (ap item_parts c.in-Send.is) in
    let cursors = here.cursors in
    let room : v < length taken = omega (arith, cursors, c.worker-worker.ensures.below) in
    let seen : slice_get taken v ≡ Some c.index-at.result.now = slice_get_read taken (length taken) v _ refl room c.index-at.ensures in
    let at : c.index-at.result.now ≡ slice_index taken v = sym (get_or_from_slice_get taken v _ 0 seen) in (
      omega (arith, c.loop-item.invariant.0, c.in-Some.ensures.cases.1),
      gathering_send image who workers all lists c.args.outcomes.now c.args.text.now.items taken c.loop-item.place c.in-Send.receiver c.in-Send.sel c.in-Send.args.items (map item_parts c.in-Some.later.now) c.loop-item.left.now c.loop-item.text.items c.push_reply.new.text.items v c.index-at.result.now c.reply_of-reply.result here c.worker-worker.ensures.turn at c.worker-worker.ensures.below c.reply_of-reply.ensures.reply c.in_ok-push_reply-in-Send.ensures,
    )

pub returns : goal.returns
returns c =
    let image = c.args.part.image.now in
    let who = worker_of c.args.part.deal.cut c.args.part.deal.workers in
    let workers = c.args.part.deal.workers in
    let all = map item_parts c.args.part.items.now in
    let lists : List (List Reply) = map (λ (rs : Vec Reply Global). rs.items) c.args.shares.now in
    let none : c.loop-item.rest.now ≡ [] = nil_from_length _ c.in_default.ensures.cases in
    let ended = subst (λ xs. IsGathering image who workers all lists c.args.outcomes.now c.args.text.now.items c.loop-item.taken.items c.loop-item.place (map item_parts xs) c.loop-item.left.now c.loop-item.text.items) none c.loop-item.invariant.1 in
    gathering_end image who workers all lists c.args.outcomes.now c.args.text.now.items c.loop-item.taken.items c.loop-item.place c.loop-item.left.now c.loop-item.text.items ended
