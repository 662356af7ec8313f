use Rattle.std.proofs.Common.{arith, ◌≡◌, ◌≤◌, ◌⊎◌, List, length, map, sym, ap, ◌∙◌, subst, inl, inr, ⊎_elim, Vec, Global}
use Rattle.std.specs.Prelude.{count_by}
use Rattle.msg_image.specs.Plain.{item_parts}
use Rattle.msg_eval.specs.declared.reply.Reply.{Reply}
use Rattle.msg_answers.specs.declared.outcome.Outcome.{Outcome}
use Rattle.msg_answers.specs.Serving.{worker_of, sends_of, at_worker, count_of, is_send, pieces_of, IsGathered}
use Rattle.msg_answers.proofs.AnsweredLemmas.{served_counts, answered}
use Rattle.msg_answers.proofs.PieceLemmas.{all_answered}
use Rattle.msg_runner.proofs.context.Run.share_out.Goals as goal

pub gather-requires-clause-counts : goal.gather-requires-clause-counts
gather-requires-clause-counts g c =
    let deal = c.with_workers.result in
    let who = worker_of deal.cut deal.workers in
    let parts = map item_parts c.args.all.items.now in
    let b = c.work.new.batch in
    let inner : Vec Reply Global → List Reply = λ rs. rs.items in
    λ w below. subst (λ (xs : List (Vec Reply Global)). length (at_worker (map inner xs) w) ≡ count_of who w 0 (length (sends_of c.args.all.image.now parts))) (sym c.deref.ensures.value)
    (served_counts c.args.all.image.now who deal.workers c.args.crew.now.changer parts (map inner b.shares.items) b.outcomes.items c.work.new.crew.changer c.in_ok-work.ensures.served w below)

pub returns-clause-answered : goal.returns-clause-answered
returns-clause-answered g c =
    let deal = c.with_workers.result in
    let image = c.args.all.image.now in
    let who = worker_of deal.cut deal.workers in
    let parts = map item_parts c.args.all.items.now in
    let b = c.work.new.batch in
    let inner : Vec Reply Global → List Reply = λ rs. rs.items in
    let old = c.args.text.now.items in
    let new = c.gather.new.text.items in
    let gathered = subst (λ (xs : List (Vec Reply Global)). IsGathered image who deal.workers parts (map inner xs) c.deref-2.result.now old new) c.deref.ensures.value c.in_ok-gather.ensures in
    let gathered' = subst (λ (os : List Outcome). IsGathered image who deal.workers parts (map inner b.shares.items) os old new) c.deref-2.ensures.value gathered in
    let one = answered image who deal.workers c.args.crew.now.changer parts (map inner b.shares.items) b.outcomes.items c.work.new.crew.changer old new c.in_ok-work.ensures.served gathered' in
    let few : (deal.workers ≡ c.args.all.deal.workers) ⊎ (pieces_of c.args.all.deal.cut (count_by is_send parts) ≤ deal.workers) =
    ⊎_elim (λ (same : c.used_for-workers.result ≡ c.args.all.deal.workers). inl (c.with_workers.ensures.workers ∙ same))
    (λ (less : c.div_ceil-pieces.result ≤ c.used_for-workers.result).
    let pieces : c.div_ceil-pieces.result ≡ pieces_of c.args.all.deal.cut (count_by is_send parts) = c.div_ceil-pieces.ensures ∙ ap (pieces_of c.args.all.deal.cut) c.sends_in-sends.ensures in
    let used = c.with_workers.ensures.workers in inr (omega (arith, less, pieces, used)))
    c.used_for-workers.ensures.all in
    all_answered image c.args.all.deal.cut deal.workers c.args.all.deal.workers c.args.crew.now.changer parts old new c.args.all.deal.some_places
    (let e = c.with_workers.ensures.workers in let m = c.used_for-workers.ensures.most in omega (arith, e, m))
    few (rw (sym c.with_workers.ensures.cut) one)
