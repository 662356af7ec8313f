use Rattle.std.proofs.Common.{◌≡◌, ℕ, ◌<◌, List, Bool, false, length, set, take, ap, ◌∙◌, sym, subst, arith}
use Rattle.std.proofs.Math.ListN.{length-set}
use Rattle.msg_cache.specs.Uses.{StandingsView, free, live, use_at}
use Rattle.msg_cache.specs.Standings.{use_for, uses}
use Rattle.msg_cache.proofs.UseLemmas.{Unmarked, uses_length, uses_at, uses_installed, unmarked_installed, none_ready}
use Rattle.msg_cache.proofs.standings.Standings.install.Goals as goal

pub remove-requires : goal.remove-requires
remove-requires c =
    let s = c.self.inside in
    omega (arith, c.requires.array, uses_length s.free s.queue.items s.ready s.senders s.cursors, ap (λ (v : StandingsView). length v.uses) c.self.view_is)

pub invariant_of-self : goal.invariant_of-self
invariant_of-self c =
    let s = c.self.inside in
    let v = c.self.invariant in
    let lt : c.args.array < length s.free = omega (arith, c.requires.array, uses_length s.free s.queue.items s.ready s.senders s.cursors, ap (λ (v : StandingsView). length v.uses) c.self.view_is) in
    let size : length c.remove.new.self ≡ length s.free = ap (λ (l : List Bool). length l) c.remove.ensures ∙ length-set s.free c.args.array false in record {
      few_arrays = omega (arith, v.few_arrays, size);
      few_senders = v.few_senders;
      cursors = v.cursors;
      room = omega (arith, v.room, size);
      unmarked = subst (λ (x : List Bool). Unmarked x s.queue.items) (sym c.remove.ensures) (unmarked_installed s.free s.queue.items s.senders s.cursors v.unmarked c.args.array lt);
      distinct = v.distinct;
      ends = v.ends;
      within = v.within;
    }

pub returns : goal.returns
returns c =
    let s = c.self.inside in
    let v = c.self.invariant in
    let lt : c.args.array < length s.free = omega (arith, c.requires.array, uses_length s.free s.queue.items s.ready s.senders s.cursors, ap (λ (v : StandingsView). length v.uses) c.self.view_is) in
    let none : s.ready ≡ 0 = none_ready s.ready s.queue.items (ap (λ (v : StandingsView). v.ready) c.self.view_is ∙ c.requires.ready) v.ends in
    let is : use_for s.free s.queue.items 0 s.senders s.cursors c.args.array ≡ free =
    ap (λ (p : ℕ). use_for s.free s.queue.items p s.senders s.cursors c.args.array) (sym none) ∙ sym (uses_at s.free s.queue.items s.ready s.senders s.cursors c.args.array) ∙ ap (λ (v : StandingsView). use_at v.uses c.args.array) c.self.view_is ∙ c.requires.free in
    let done = (λ i. uses (c.remove.ensures i) s.queue.items (none i) s.senders s.cursors)
    ∙ uses_installed s.free s.queue.items s.senders s.cursors v.unmarked c.args.array lt is
    ∙ ap (λ (p : ℕ). set (uses s.free s.queue.items p s.senders s.cursors) c.args.array live) (sym none) in
    (λ i. record { senders = s.senders; uses = done i; ready = take s.ready s.queue.items })
    ∙ ap (λ (v : StandingsView). record v { uses = set v.uses c.args.array live }) c.self.view_is
