use Rattle.std.proofs.Common.{◌≡◌, ◌⊎◌, ℕ, true}
use Rattle.msg_names.specs.declared.value.ClassRef.{ClassRef}
use Rattle.msg_tables.specs.Below.{covers}
use Rattle.msg_tables.specs.Preorder.{is_in}
use Rattle.msg_cache.specs.Ours.{IsCold, OnlyFlushesIn}
use Rattle.msg_runtime.specs.Parts.{IsKeeperOf, keeper_history, keeper_seats}
use Rattle.msg_runtime.specs.Spared.{SparesUnless}
use Rattle.msg_runtime.proofs.flushing.flush_each.Given as goal

-- what is left to visit, and what is flushed, are together what was to be flushed
abbrev pub invariant-loop-class : goal.invariant-loop-class
invariant-loop-class l = record {
  arena : IsKeeperOf l.arena l.keeper;
  history : keeper_history l.keeper ≡ keeper_history l.fn.keeper;
  seats : keeper_seats l.keeper ≡ keeper_seats l.fn.keeper;
  left : (k : ℕ) → is_in k l.class-iterator ≡ true → is_in k l.fn.below.classes ≡ true;
  flushed : (c : ClassRef) → covers l.fn.below c ≡ true → (covers (record l.fn.below { classes = l.class-iterator }) c ≡ true) ⊎ IsCold l.arena l.keeper c;
  others : (c : ClassRef) → IsCold l.arena l.fn.keeper c → IsCold l.arena l.keeper c;
  spared : SparesUnless (covers l.fn.below) l.arena l.fn.keeper l.keeper;
  flushes : OnlyFlushesIn l.arena l.fn.keeper l.keeper;
}
