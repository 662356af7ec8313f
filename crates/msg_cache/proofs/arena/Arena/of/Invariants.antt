use Rattle.std.proofs.Common.{◌≡◌, ℕ, ◌+◌, ◌*◌, ◌<◌, length, take}
use Rattle.msg_tables.specs.Origin.{class_total}
use Rattle.std.specs.Prelude.{slice_index, slice_index_or}
use Rattle.msg_cache.specs.declared.arena.Span.{Span}
use Rattle.msg_cache.specs.Layout.{total}
use Rattle.msg_cache.proofs.arena.Arena.of.Given as goal

abbrev pub invariant-loop-capacity : goal.invariant-loop-capacity
invariant-loop-capacity l = record {
  count : length l.spans.items ≡ l.capacity-index;
  next : l.probes ≡ 1 + 2 * class_total l.origin + total (take l.capacity-index l.fn.capacities.items);
  spans : (a : ℕ) → a < l.capacity-index → (d : Span) → slice_index_or l.spans.items a d ≡ record { base = 1 + 2 * class_total l.origin + total (take a l.fn.capacities.items); capacity = slice_index l.fn.capacities.items a };
}
