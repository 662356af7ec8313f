use Rattle.std.proofs.Common.{◌≡◌, take}
use Rattle.msg_names.specs.declared.value.ClassRef.{ClassRef}
use Rattle.msg_tables.specs.Making.{is_told}
use Rattle.msg_tables.specs.Recent.{HasPlace}
use Rattle.msg_cache.specs.Ours.{OnlyFlushesIn}
use Rattle.msg_runtime.specs.Parts.{IsKeeperOf, keeper_history, keeper_seats}
use Rattle.msg_runtime.specs.Flushed.{AreFlushed, IsFlushedBelow}
use Rattle.msg_runtime.specs.Spared.{AreSpared}
use Rattle.msg_runtime.proofs.flushing_all.flush_each.Given as goal

-- what the first entries tell of is flushed, and nothing else
abbrev pub invariant-loop-entry : goal.invariant-loop-entry
invariant-loop-entry l = record {
  arena : IsKeeperOf l.arena l.keeper;
  history : keeper_history l.keeper ≡ keeper_history l.fn.keeper;
  seats : keeper_seats l.keeper ≡ keeper_seats l.fn.keeper;
  recent : (c : ClassRef) → HasPlace l.recent c → IsFlushedBelow l.arena l.tables l.keeper c;
  flushed : AreFlushed l.arena l.tables l.keeper (λ h. is_told h (take l.entry-index l.entries));
  spared : AreSpared l.arena l.tables l.fn.keeper l.keeper (λ h. is_told h (take l.entry-index l.entries));
  flushes : OnlyFlushesIn l.arena l.fn.keeper l.keeper;
}
