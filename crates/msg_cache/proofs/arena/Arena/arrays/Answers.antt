use Rattle.std.proofs.Common.{arith}
use Rattle.std.specs.Prelude.{slice_index}
use Rattle.msg_buckets.proofs.CapacityLemmas.{capacity_bounds}
use Rattle.msg_cache.proofs.SweepingLemmas.{sizes, few_arrays}
use Rattle.msg_cache.proofs.arena.Arena.arrays.Goals as goal

pub returns-clause-few : goal.returns-clause-few
returns-clause-few c =
    let l = c.self.inside.table.shared.key.capacities in
    let i = c.self.invariant in
    let few = few_arrays l (λ b bl. let t = (capacity_bounds (slice_index l b) (sizes l i.are_capacities b bl)).0 in omega arith) in
    omega (arith, few, c.len.ensures, c.self.inside.spans.ok.0, i.spans_count, i.words, i.few_words)
