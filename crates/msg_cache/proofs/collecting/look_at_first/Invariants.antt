use Rattle.std.proofs.Common.{◌≡◌, ℕ, ◌≤◌, length}
use Rattle.msg_model.specs.State.{awaits}
use Rattle.msg_cache.specs.Rule.{TidyBy}
use Rattle.msg_cache.specs.Keeping.{looks}
use Rattle.msg_tables.specs.History.{lookup}
use Rattle.msg_cache.specs.Plays.{kept, keeper_of, no_changes}
use Rattle.msg_cache.proofs.collecting.look_at_first.Given as goal

abbrev pub invariant-loop-number : goal.invariant-loop-number
invariant-loop-number l = record {
  table : l.seat.table_id ≡ l.fn.seat.table_id;
  id : l.seat.id ≡ l.fn.seat.id;
  told : l.seat.me ≡ kept (looks l.number l.were.items (keeper_of l.fn.seat.me.0));
  others : (n : ℕ) → l.number ≤ n → awaits l.were.items n ≡ awaits l.fn.were.items n;
  long : length l.were.items ≡ length l.fn.were.items;
  tidy : TidyBy lookup l.arena.key (keeper_of l.seat.me.0);
}

abbrev pub ghosts-load_probe : goal.ghosts-load_probe
ghosts-load_probe a = record { key = a.words.now.key; changes = no_changes; number = a.number }
