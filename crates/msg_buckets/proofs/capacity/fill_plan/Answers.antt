use Rattle.std.proofs.Common.{◌≡◌, ◌∙◌, ◌+◌, ap, arith, false}
use Rattle.std.specs.Prelude.{nat_le}
use Rattle.std.proofs.lemmas.Bool.{lt-leb}
use Rattle.msg_buckets.specs.declared.capacity.Plan.TheVariants.{Take}
use Rattle.msg_buckets.specs.Capacity.{fill_limit}
use Rattle.msg_buckets.proofs.CapacityLemmas.{none_or_small, taken_is_capacity, clamp_is_next}
use Rattle.msg_buckets.proofs.capacity.fill_plan.Goals as goal

pub overflow_mul-capacity-else-occupied-capacity : goal.overflow_mul-capacity-else-occupied-capacity
overflow_mul-capacity-else-occupied-capacity c = omega (arith, none_or_small c.args.capacity c.requires.capacity)

pub returns-else-occupied-capacity-clause-plan : goal.returns-else-occupied-capacity-clause-plan
returns-else-occupied-capacity-clause-plan c =
    let past : nat_le (c.args.occupied + 1) (fill_limit c.args.capacity) ≡ false = lt-leb (c.args.occupied + 1) (fill_limit c.args.capacity) (omega arith) in
    rw past (ap Take (c.clamp.ensures ∙ clamp_is_next c.args.capacity c.requires.capacity))

pub returns-else-occupied-capacity-clause-capacity : goal.returns-else-occupied-capacity-clause-capacity
returns-else-occupied-capacity-clause-capacity c = rw (c.clamp.ensures, clamp_is_next c.args.capacity c.requires.capacity) (taken_is_capacity c.args.capacity c.requires.capacity)
