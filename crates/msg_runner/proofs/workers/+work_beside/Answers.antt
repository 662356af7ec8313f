use Rattle.std.proofs.Common.{arith, ◌≡◌, ◌<◌, ◌-◌, ℕ, List, [], ◌∷◌, ◌++◌, length, map, ap, sym, ◌∙◌, subst, Vec, Global}
use Rattle.std.specs.Prelude.{IfOk}
use Rattle.std.proofs.lemmas.List.{length-map}
use Rattle.msg_image.specs.Plain.{item_parts}
use Rattle.msg_tables.specs.History.{History, BeginsWith}
use Rattle.msg_eval.specs.declared.reply.Reply.{Reply}
use Rattle.msg_answers.specs.Serving.{Served, share_of, worker_of, sends_of, at_worker}
use Rattle.msg_answers.proofs.ServingLemmas.{push_worker, map_snoc, share_taken}
use Rattle.msg_runner.proofs.workers.+work_beside.Goals as goal

pub returns-clause-each : goal.returns-clause-each
returns-clause-each g t c =
    let h = c.args.crew.now.changer in
    let end = c.put_back-taken.new.self.changer in
    let who = worker_of c.args.part.deal.cut c.args.part.deal.workers in
    let sends = sends_of c.args.part.image.now (map item_parts c.args.part.items.now) in
    let me : ℕ = c.args.workers - 1 in
    let done = c.join.result in
    let last = done.sender.sender.seen.front in
    let old = c.work_beside-others.new.batch.shares.items in
    let new = c.put_back-taken.new.shares.items in
    let inner : Vec Reply Global → List Reply = λ rs. rs.items in
    let lists : List (List Reply) = map inner old in
    let kept = subst (λ s. IfOk done.replies (λ rs. Served c.in_ok-worker.worker.promise.was.value.sender.seen.front (share_of (worker_of s.part.deal.cut s.part.deal.workers) s.worker 0 (sends_of s.part.image.now (map item_parts s.part.items.now))) rs.items last)) c.in_ok-worker.ensures.share c.join.ensures in
    let by_sender = subst (λ v. IfOk done.replies (λ rs. Served v.sender.seen.front (share_of who me 0 sends) rs.items last)) c.in_ok-worker.ensures.was kept in
    let by_me = subst (λ k. IfOk done.replies (λ rs. Served k (share_of who me 0 sends) rs.items last)) c.in_ok-sender.ensures.seen by_sender in
    let (mine, served, grown) = share_taken done.replies (λ rs. Served h (share_of who me 0 sends) rs.items last) old new c.in_ok-taken.ensures.share by_me in
    let P : ℕ → List Reply → Type 0 = λ w rs. (last : History) × Served h (share_of who w 0 sends) rs last × BeginsWith end last in
    let before : (w : ℕ) → w < me → P w (at_worker lists w) =
    λ w lt. let r = c.in_ok-others.ensures.each w lt in
    (r.0, subst (λ k. Served k (share_of who w 0 sends) (at_worker lists w) r.0) c.send_out.ensures.same r.1, subst (λ k. BeginsWith k r.0) (sym c.put_back-taken.ensures.same) r.2) in
    let here : P me mine.items = (last, served, subst (λ k. BeginsWith k last) (sym c.put_back-taken.ensures.same) c.put_back-taken.ensures.begins) in
    let count : length old ≡ me = grind arith in
    let long : length lists ≡ me = length-map old inner ∙ count in
    let all : map inner new ≡ lists ++ mine.items ∷ [] = ap (map inner) grown ∙ map_snoc inner old mine in
    λ w lt. subst (λ z. P w (at_worker z w)) (sym all) (push_worker P lists mine.items me long before here w (omega (arith, lt, c.if-workers-eq0.false)))
