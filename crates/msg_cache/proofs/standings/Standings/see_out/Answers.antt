use Rattle.std.proofs.Common.{◌≡◌, ℕ, ◌+◌, ◌<◌, ◌≤◌, List, map, length, take, ap, ◌∙◌, sym, subst, arith}
use Rattle.std.specs.Prelude.{slice_index, if◌then◌else◌}
use Rattle.std.specs.List.Sorted.{IsPermutation}
use Rattle.std.proofs.lemmas.List.{length-take-le}
use Rattle.msg_model.specs.State.{awaits}
use Rattle.msg_cache.specs.Keeping.{looked_by}
use Rattle.msg_cache.specs.Uses.{StandingsView, ArrayUse, use_of, use_at, newly_freed}
use Rattle.msg_cache.specs.Standings.{uses}
use Rattle.msg_cache.proofs.CursorLemmas.{moved_within}
use Rattle.msg_cache.proofs.UseLemmas.{uses_seen, newly_seen, none_ready, unmarked_inside}
use Rattle.msg_cache.proofs.QueueLemmas.{few}
use Rattle.msg_cache.proofs.standings.Standings.see_out.Goals as goal

pub pass-passed-requires-clause-within : goal.pass-passed-requires-clause-within
pass-passed-requires-clause-within c = λ n l. let s = c.self.inside in let t = c.self.invariant.within n (omega (arith, l, c.self.invariant.cursors)) in omega (arith, t, c.len-end.ensures, s.queue.ok.0)

pub overflow_cast-result : goal.overflow_cast-result
overflow_cast-result c =
    let s = c.self.inside in
    let v = c.self.invariant in
    omega (arith, c.pass-passed.ensures.end, c.len-end.ensures, s.queue.ok.0, v.few_arrays, few s.queue.items (length s.free) v.distinct (unmarked_inside s.free s.queue.items v.unmarked))

pub invariant_of-self : goal.invariant_of-self
invariant_of-self c =
    let s = c.self.inside in
    let v = c.self.invariant in
    let none : s.ready ≡ 0 = none_ready s.ready s.queue.items (ap (λ (v : StandingsView). v.ready) c.self.view_is ∙ c.requires.ready) v.ends in
    let end : c.len-end.result ≡ length s.queue.items = omega (arith, c.len-end.ensures, s.queue.ok.0) in record {
      few_arrays = v.few_arrays;
      few_senders = v.few_senders;
      cursors = c.cut.ensures.length ∙ c.pass-passed.ensures.length ∙ v.cursors;
      room = v.room;
      unmarked = v.unmarked;
      distinct = v.distinct;
      ends = omega (arith, c.pass-passed.ensures.end);
      within = λ n l. let t = v.within n l in
          let m = moved_within (awaits c.args.outs.now.items n) c.len-end.result (slice_index s.cursors n) (length s.queue.items) (omega arith) (omega arith) in let k : n < length s.cursors = omega (arith, l, v.cursors) in let j : n < length c.pass-passed.new.self = omega (arith, k, c.pass-passed.ensures.length) in omega (arith, c.cut.ensures.moved n j, c.pass-passed.ensures.moved n k, m);
    }

pub returns : goal.returns
returns c =
    let s = c.self.inside in
    let v = c.self.invariant in
    let p = c.pass-passed in
    let after = c.cut.new.self in
    let none : s.ready ≡ 0 = none_ready s.ready s.queue.items (ap (λ (v : StandingsView). v.ready) c.self.view_is ∙ c.requires.ready) v.ends in
    let end : c.len-end.result ≡ length s.queue.items = omega (arith, c.len-end.ensures, s.queue.ok.0) in
    let senders : s.senders ≡ c.args.self.now.senders = ap (λ (v : StandingsView). v.senders) c.self.view_is in
    let was : uses s.free s.queue.items 0 s.senders s.cursors ≡ c.args.self.now.uses = ap (λ (m : ℕ). uses s.free s.queue.items m s.senders s.cursors) (sym none) ∙ ap (λ (v : StandingsView). v.uses) c.self.view_is in
    let moved : (n : ℕ) → n < s.senders → slice_index after n + p.result ≡ (if awaits c.args.outs.now.items n then length s.queue.items else slice_index s.cursors n) =
    λ n l. let k : n < length s.cursors = omega (arith, l, v.cursors) in c.cut.ensures.moved n (omega (arith, k, p.ensures.length)) ∙ p.ensures.moved n k ∙ ap (λ (m : ℕ). if awaits c.args.outs.now.items n then m else slice_index s.cursors n) end in
    let all : (n : ℕ) → n < s.senders → p.result ≤ slice_index after n + p.result = λ n l. omega arith in
    let one = p.ensures.some (omega (arith, c.requires.senders, senders, v.cursors)) in
    let some : (n : ℕ) × (n < s.senders) × (slice_index after n + p.result ≡ p.result) = (one.0, omega (arith, one.1, v.cursors), c.cut.ensures.moved one.0 (omega (arith, one.1, p.ensures.length)) ∙ one.2) in
    let ends : p.result ≤ length s.queue.items = omega (arith, p.ensures.end) in record {
      senders = senders;
      uses = λ l are. uses_seen s.free s.queue.items s.senders s.cursors after p.result c.args.outs.now.items v.few_senders v.unmarked moved all some ends l (was ∙ are)
          (λ a aw e. c.requires.awaits_some a aw (ap (λ x. use_at x a) (sym was) ∙ e))
          ∙ ap (λ (m : ℕ). map use_of (map (looked_by m c.args.outs.now.items) l)) senders;
      ready = subst (λ (x : List ArrayUse). IsPermutation (take p.result s.queue.items) (newly_freed x (uses s.free s.queue.items p.result s.senders after))) was
          (newly_seen s.free s.queue.items s.senders s.cursors after p.result c.args.outs.now.items v.few_senders v.unmarked moved all some ends v.distinct);
      count = sym (length-take-le p.result s.queue.items ends);
    }
