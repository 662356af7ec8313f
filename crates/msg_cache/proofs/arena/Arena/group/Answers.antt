use Rattle.std.proofs.Common.{ℕ, ◌+◌, ◌-◌, List, ap, subst, arith}
use Rattle.std.specs.Prelude.{slice_index}
use Rattle.std.specs.Int.{trailing_zeros}
use mir.Syntax.{w32}
use Rattle.msg_cache.specs.Keeping.{IsGroup}
use Rattle.msg_cache.specs.Views.{ArenaView}
use Rattle.msg_cache.proofs.OrderLemmas.{group_at}
use Rattle.msg_cache.proofs.arena.Arena.group.Goals as goal

pub overflow_sub-at : goal.overflow_sub-at
overflow_sub-at c = (group_at c.args.capacity c.requires).0

pub bounds-self-inside-at : goal.bounds-self-inside-at
bounds-self-inside-at c = let g = group_at c.args.capacity c.requires in omega arith

pub bounds-self-inside-at-2 : goal.bounds-self-inside-at-2
bounds-self-inside-at-2 c = let g = group_at c.args.capacity c.requires in omega arith

pub returns : goal.returns
returns c =
    let s = c.self.invariant in
    let f = c.self.inside.firsts in
    let g = group_at c.args.capacity c.requires in
    let i : ℕ = trailing_zeros w32 c.args.capacity - 2 in
    subst (λ (x : List ℕ × ℕ). IsGroup x.0 x.1 (slice_index f i) (slice_index f (i + 1))) (λ y. (ap (λ (a : ArenaView). a.key.capacities) c.self.view_is y, g.2 y)) (s.firsts i (omega arith))
