use Rattle.std.proofs.Common.{◌≡◌, ℕ, suc, ◌-◌, ◌<◌, List, Bool, ◌∷◌, ◌++◌, true, length, take, ap, ◌∙◌, sym, subst, arith}
use Rattle.std.specs.Option.{option_to_list}
use Rattle.std.proofs.lemmas.List.{length-take-le}
use Rattle.std.proofs.Math.ListN.{length-set}
use Rattle.msg_cache.specs.Uses.{StandingsView, use_at}
use Rattle.msg_cache.specs.Standings.{uses}
use Rattle.msg_cache.proofs.UseLemmas.{Unmarked, uses_length, uses_at, first_inside, first_free_use, uses_taken, unmarked_taken, differ_taken}
use Rattle.msg_cache.proofs.QueueLemmas.{Differ}
use Rattle.msg_cache.proofs.standings.Standings.take_ready.Goals as goal

pub insert-requires : goal.insert-requires
insert-requires c =
    let s = c.self.inside in
    let v = c.self.invariant in
    let items : s.queue.items ≡ c.unwrap-array.result ∷ c.pop_front.new.self.items = c.pop_front.ensures.items ∙ ap (λ o. option_to_list o ++ c.pop_front.new.self.items) c.unwrap-array.ensures in
    omega (arith, first_inside s.free c.unwrap-array.result c.pop_front.new.self.items s.ready s.senders s.cursors (subst (Unmarked s.free) items v.unmarked) (subst Differ items v.distinct))

pub invariant_of-self : goal.invariant_of-self
invariant_of-self c =
    let s = c.self.inside in
    let v = c.self.invariant in
    let a = c.unwrap-array.result in
    let rest = c.pop_front.new.self.items in
    let items : s.queue.items ≡ a ∷ rest = c.pop_front.ensures.items ∙ ap (λ o. option_to_list o ++ rest) c.unwrap-array.ensures in
    let apart = subst (Unmarked s.free) items v.unmarked in
    let differ = subst Differ items v.distinct in
    let some : 0 < s.ready = omega (arith, c.requires, ap (λ (v : StandingsView). length v.ready) c.self.view_is, length-take-le s.ready s.queue.items v.ends) in
    let size : length c.insert.new.self ≡ length s.free = ap (λ (l : List Bool). length l) c.insert.ensures ∙ length-set s.free a true in record {
      few_arrays = omega (arith, v.few_arrays, size);
      few_senders = v.few_senders;
      cursors = v.cursors;
      room = omega (arith, v.room, size, c.pop_front.ensures.capacity);
      unmarked = subst (λ (x : List Bool). Unmarked x rest) (sym c.insert.ensures) (unmarked_taken s.free a rest s.ready s.senders s.cursors apart differ);
      distinct = differ_taken s.free a rest s.ready s.senders s.cursors apart differ;
      ends = omega (arith, v.ends, ap (λ (l : List ℕ). length l) items);
      within = λ n l. omega (arith, v.within n l, ap (λ (l : List ℕ). length l) items);
    }

pub returns : goal.returns
returns c =
    let s = c.self.inside in
    let v = c.self.invariant in
    let a = c.unwrap-array.result in
    let rest = c.pop_front.new.self.items in
    let items : s.queue.items ≡ a ∷ rest = c.pop_front.ensures.items ∙ ap (λ o. option_to_list o ++ rest) c.unwrap-array.ensures in
    let apart = subst (Unmarked s.free) items v.unmarked in
    let differ = subst Differ items v.distinct in
    let some : 0 < s.ready = omega (arith, c.requires, ap (λ (v : StandingsView). length v.ready) c.self.view_is, length-take-le s.ready s.queue.items v.ends) in
    let next : s.ready ≡ suc (s.ready - 1) = omega arith in
    let inside = first_inside s.free a rest s.ready s.senders s.cursors apart differ in
    let same : uses s.free (a ∷ rest) (suc (s.ready - 1)) s.senders s.cursors ≡ c.args.self.now.uses =
    (λ i. uses s.free (sym items i) (sym next i) s.senders s.cursors) ∙ ap (λ (v : StandingsView). v.uses) c.self.view_is in record {
      taken = ap (λ (v : StandingsView). v.ready) (sym c.self.view_is) ∙ (λ i. take (next i) (items i));
      same = (ap (λ (v : StandingsView). v.senders) c.self.view_is, ap (λ (l : List Bool). uses l rest (s.ready - 1) s.senders s.cursors) c.insert.ensures ∙ uses_taken s.free a rest (s.ready - 1) s.senders s.cursors apart differ ∙ same);
      free = (
        omega (arith, inside, uses_length s.free s.queue.items s.ready s.senders s.cursors, ap (λ (v : StandingsView). length v.uses) c.self.view_is),
        ap (λ l. use_at l a) (sym same) ∙ uses_at s.free (a ∷ rest) (suc (s.ready - 1)) s.senders s.cursors a ∙ first_free_use s.free a rest (s.ready - 1) s.senders s.cursors apart differ,
      );
    }
