use Rattle.std.proofs.Common.{◌≡◌}
use Rattle.msg_cache.specs.Rule.{TidyBy}
use Rattle.msg_cache.specs.Keeping.{clears}
use Rattle.msg_tables.specs.History.{lookup}
use Rattle.msg_cache.specs.Plays.{kept, keeper_of}
use Rattle.msg_cache.proofs.collecting.clear_array.Given as goal

abbrev pub invariant-loop-place : goal.invariant-loop-place
invariant-loop-place l = record {
  table : l.seat.table_id ≡ l.fn.seat.table_id;
  id : l.seat.id ≡ l.fn.seat.id;
  told : l.seat.me ≡ kept (clears l.base l.place (keeper_of l.fn.seat.me.0));
  tidy : TidyBy lookup l.arena.key (keeper_of l.seat.me.0);
  words : l.words.items ≡ (keeper_of l.seat.me.0).words;
}
