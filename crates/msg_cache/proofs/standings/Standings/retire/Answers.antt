use Rattle.std.proofs.Common.{◌≡◌, ℕ, ◌-◌, ◌<◌, List, [], ◌∷◌, ◌++◌, length, set, take, ap, ◌∙◌, sym, subst, arith, length-append}
use Rattle.std.proofs.lemmas.List.{take-append-le}
use Rattle.msg_model.specs.Steps.{everyone}
use Rattle.msg_cache.specs.Uses.{StandingsView, live, waiting, use_at}
use Rattle.msg_cache.specs.Standings.{use_for, uses}
use Rattle.msg_cache.proofs.AwaitedLemmas.{all_awaited}
use Rattle.msg_cache.proofs.UseLemmas.{Unmarked, uses_length, uses_at, uses_retired, unmarked_inside, unmarked_retired, differ_retired, none_ready}
use Rattle.msg_cache.proofs.QueueLemmas.{Differ, few}
use Rattle.msg_cache.proofs.standings.Standings.retire.Goals as goal

pub push_back_reserved-requires : goal.push_back_reserved-requires
push_back_reserved-requires c =
    let s = c.self.inside in
    let v = c.self.invariant in
    let none : s.ready ≡ 0 = none_ready s.ready s.queue.items (ap (λ (v : StandingsView). v.ready) c.self.view_is ∙ c.requires.ready) v.ends in
    let is : use_for s.free s.queue.items 0 s.senders s.cursors c.args.array ≡ live =
    ap (λ (p : ℕ). use_for s.free s.queue.items p s.senders s.cursors c.args.array) (sym none) ∙ sym (uses_at s.free s.queue.items s.ready s.senders s.cursors c.args.array) ∙ ap (λ (v : StandingsView). use_at v.uses c.args.array) c.self.view_is ∙ c.requires.live in
    let apart = unmarked_retired s.free s.queue.items s.senders s.cursors v.unmarked c.args.array is in
    let t = few (s.queue.items ++ c.args.array ∷ []) (length s.free) (differ_retired s.free s.queue.items s.senders s.cursors v.unmarked c.args.array is v.distinct) (unmarked_inside s.free (s.queue.items ++ c.args.array ∷ []) apart) in
    omega (arith, t, length-append s.queue.items (c.args.array ∷ []), v.room, s.queue.ok.0)

pub invariant_of-self : goal.invariant_of-self
invariant_of-self c =
    let s = c.self.inside in
    let v = c.self.invariant in
    let none : s.ready ≡ 0 = none_ready s.ready s.queue.items (ap (λ (v : StandingsView). v.ready) c.self.view_is ∙ c.requires.ready) v.ends in
    let is : use_for s.free s.queue.items 0 s.senders s.cursors c.args.array ≡ live =
    ap (λ (p : ℕ). use_for s.free s.queue.items p s.senders s.cursors c.args.array) (sym none) ∙ sym (uses_at s.free s.queue.items s.ready s.senders s.cursors c.args.array) ∙ ap (λ (v : StandingsView). use_at v.uses c.args.array) c.self.view_is ∙ c.requires.live in
    let items = sym c.push_back_reserved.ensures.items in record {
      few_arrays = v.few_arrays;
      few_senders = v.few_senders;
      cursors = v.cursors;
      room = omega (arith, v.room, c.push_back_reserved.ensures.capacity);
      unmarked = subst (Unmarked s.free) items (unmarked_retired s.free s.queue.items s.senders s.cursors v.unmarked c.args.array is);
      distinct = subst Differ items (differ_retired s.free s.queue.items s.senders s.cursors v.unmarked c.args.array is v.distinct);
      ends = omega arith;
      within = λ n l. omega (arith, v.within n l, ap (λ (l : List ℕ). length l) c.push_back_reserved.ensures.items, length-append s.queue.items (c.args.array ∷ []));
    }

pub returns : goal.returns
returns c =
    let s = c.self.inside in
    let v = c.self.invariant in
    let a = c.args.array in
    let none : s.ready ≡ 0 = none_ready s.ready s.queue.items (ap (λ (v : StandingsView). v.ready) c.self.view_is ∙ c.requires.ready) v.ends in
    let is : use_for s.free s.queue.items 0 s.senders s.cursors a ≡ live =
    ap (λ (p : ℕ). use_for s.free s.queue.items p s.senders s.cursors a) (sym none) ∙ sym (uses_at s.free s.queue.items s.ready s.senders s.cursors a) ∙ ap (λ (v : StandingsView). use_at v.uses a) c.self.view_is ∙ c.requires.live in
    let lt : a < length s.free = omega (arith, c.requires.array, uses_length s.free s.queue.items s.ready s.senders s.cursors, ap (λ (v : StandingsView). length v.uses) c.self.view_is) in
    let all = all_awaited s.senders s.cursors (length s.queue.items - 0) v.few_senders (λ n l. omega (arith, v.within n l)) in
    let done = (λ i. uses s.free (c.push_back_reserved.ensures.items i) (none i) s.senders s.cursors)
    ∙ uses_retired s.free s.queue.items s.senders s.cursors v.unmarked a is lt all
    ∙ ap (λ (p : ℕ). set (uses s.free s.queue.items p s.senders s.cursors) a (waiting (everyone s.senders))) (sym none) in
    let same : take s.ready c.push_back_reserved.new.self.items ≡ take s.ready s.queue.items = ap (take s.ready) c.push_back_reserved.ensures.items ∙ take-append-le s.ready s.queue.items (a ∷ []) (omega arith) in
    (λ i. record { senders = s.senders; uses = done i; ready = same i })
    ∙ ap (λ (v : StandingsView). record v { uses = set v.uses a (waiting (everyone v.senders)) }) c.self.view_is
