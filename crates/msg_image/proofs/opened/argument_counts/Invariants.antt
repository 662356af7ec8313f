use Rattle.std.proofs.Common.{◌≡◌, map, take}
use Rattle.msg_image.specs.declared.image.Imp.{Imp}
use Rattle.msg_image.proofs.opened.argument_counts.Given as goal

abbrev pub invariant-loop-imp : goal.invariant-loop-imp
invariant-loop-imp l = l.args.items ≡ take l.imp-index (map (λ (m : Imp). m.args) l.imps)
