use Rattle.std.proofs.Common.{arith}
use Rattle.msg_cache.proofs.OrderLemmas.{group_at}
use Rattle.msg_cache.proofs.filling.count_want.Goals as goal

pub overflow_sub-place : goal.overflow_sub-place
overflow_sub-place c = (group_at c.args.capacity c.requires).0

pub bounds-report-place : goal.bounds-report-place
bounds-report-place c = let g = group_at c.args.capacity c.requires in omega arith

pub bounds-report-place-2 : goal.bounds-report-place-2
bounds-report-place-2 c = let g = group_at c.args.capacity c.requires in omega arith
