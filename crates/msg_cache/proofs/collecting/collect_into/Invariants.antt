use Rattle.std.proofs.Common.{◌≡◌, take, drop}
use Rattle.msg_cache.specs.Layout.{layout_of}
use Rattle.msg_cache.specs.Rule.{TidyBy}
use Rattle.msg_tables.specs.History.{lookup}
use Rattle.msg_cache.specs.Plays.{kept, keeper_of}
use Rattle.msg_cache.proofs.SweepingLemmas.{Swept}
use Rattle.msg_cache.proofs.collecting.collect_into.Given as goal

abbrev pub invariant-loop-turn : goal.invariant-loop-turn
invariant-loop-turn l = record {
  table : l.seat.table_id ≡ l.fn.seat.table_id;
  id : l.seat.id ≡ l.fn.seat.id;
  keeper : l.seat.me ≡ kept (keeper_of l.seat.me.0);
  tidy : TidyBy lookup l.arena.key (keeper_of l.seat.me.0);
  words : l.words.items ≡ (keeper_of l.seat.me.0).words;
  senders : l.standings.senders ≡ l.initial.standings.senders;
  uses : l.standings.uses ≡ l.initial.standings.uses;
  ready : l.standings.ready ≡ drop l._turn l.initial.standings.ready;
  swept : Swept (layout_of l.arena.key) (keeper_of l.fn.seat.me.0) (keeper_of l.initial.seat.me.0) l.fn.occupied.items (take l._turn l.initial.standings.ready) (keeper_of l.seat.me.0) l.occupied.items;
}
