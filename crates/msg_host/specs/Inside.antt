-- The fields of what handles hold.
use Rattle.std.specs.Prelude.{◌≡◌, ◌≤◌}
use Rattle.std.specs.Arc.{arc_value}
use Rattle.msg_tables.specs.declared.limits.TheConstants.{MAX_CLASSES}
use Rattle.msg_cache.specs.declared.view.TurnAt.TheVariants.{Away}
use Rattle.msg_cache.specs.Views.{IsSenderOf, classes}
use Rattle.msg_host.specs.Config.{IsHostOrigin}
use Rattle.msg_host.specs.View.{SenderView}
use Rattle.msg_runtime.specs.View.{RuntimeView}
use Rattle.msg_host.specs.declared.runtime.HostedRuntime.TheInside.{Inside as RuntimeInside}
use Rattle.msg_host.specs.declared.sender.HostedSender.TheInside.{Inside as SenderInside}

-- the contracts' view of a runtime
abbrev pub runtime_view : RuntimeInside → RuntimeView
runtime_view r = r.runtime

-- the invariant of runtimes
pub record AreOfOne (r : RuntimeInside) : Type 0 where
  pub arena : arc_value r.arena ≡ r.runtime.arena
  pub turn : r.turn.table ≡ r.runtime.arena.table
  pub away : r.runtime.keeper.turn ≡ Away
  pub classes : r.classes ≡ classes r.runtime.arena
  pub few_classes : r.classes ≤ MAX_CLASSES
  pub history : r.runtime.keeper.history.origin ≡ r.runtime.arena.key.origin
  pub hosts : IsHostOrigin r.runtime.arena.key.origin

-- the contracts' view of a sender
abbrev pub sender_view : SenderInside → SenderView
sender_view s = record { arena = arc_value s.arena; seen = s.reader.sender }

-- the invariant of senders
pub record IsOfArena (s : SenderInside) : Type 0 where
  pub reader : IsSenderOf (arc_value s.arena) s.reader
  pub origin : s.reader.sender.front.origin ≡ (arc_value s.arena).key.origin
  pub classes : s.classes ≡ classes (arc_value s.arena)
  pub few_classes : s.classes ≤ MAX_CLASSES
