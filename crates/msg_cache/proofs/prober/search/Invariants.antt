use Rattle.std.proofs.Common.{◌≡◌, ◌+◌, ◌-◌, ◌<◌, ◌≤◌, length}
use Rattle.msg_names.specs.Number.{selector_number}
use Rattle.msg_buckets.specs.Probing.{probe_place}
use Rattle.msg_tables.specs.History.{lookup}
use Rattle.msg_cache.specs.Layout.{layout_of}
use Rattle.msg_cache.specs.Plays.{seated, sender_of}
use Rattle.msg_cache.proofs.ProbeLemmas.{Reading}
use Rattle.msg_cache.proofs.prober.search.Given as goal

abbrev pub ghosts-load_header : goal.ghosts-load_header
ghosts-load_header g a = record { class = a.class; sel = selector_number a._sel; arrays = length a.words.now.key.capacities }

abbrev pub invariant-loop-imp : goal.invariant-loop-imp
invariant-loop-imp g l = record {
  table : l.seat.table_id ≡ l.fn.seat.table_id;
  id : l.seat.id ≡ l.fn.seat.id;
  sender : l.seat.me ≡ seated (sender_of l.seat.me.0);
  reading : Reading lookup (layout_of l.arena.key) l.fn.class (selector_number l.sel) l.array l.loads (l.base + l.place) l.word (sender_of l.fn.seat.me.0) (sender_of l.seat.me.0);
  place : l.place ≡ probe_place (selector_number l.sel) l.capacity (l.loads - 1);
  within : l.place < l.capacity;
  some : 1 ≤ l.loads;
  few : l.loads ≤ l.capacity;
}

abbrev pub decreases-loop-imp : goal.decreases-loop-imp
decreases-loop-imp g l = l.capacity - l.loads
