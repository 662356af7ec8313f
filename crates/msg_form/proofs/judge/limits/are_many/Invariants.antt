use Rattle.std.proofs.Common.{◌≡◌, drop, length}
use Rattle.std.specs.Prelude.{nat_lt}
use Rattle.std.specs.List.{flat_map}
use Rattle.msg_form.specs.declared.limits.TheConstants.{MAX_ENTRIES}
use Rattle.msg_form.proofs.judge.limits.are_many.Given as goal

abbrev pub invariant-loop-list : goal.invariant-loop-list
invariant-loop-list l = nat_lt l.room (length (flat_map (λ ps. ps.now) (drop l.list-index l.lists))) ≡ nat_lt MAX_ENTRIES (length (flat_map (λ ps. ps.now) l.lists))
