-- The contracts' view of a sender's handle. What is behind the lock is seen as its runtime.
use Rattle.msg_cache.specs.Views.{ArenaView}
use Rattle.msg_cache.specs.declared.view.SenderView.{SenderView as Seen}

-- a sender
pub record SenderView : Type 0 where
  -- which arena it probes
  pub arena : ArenaView
  -- the history that it has seen, and its last probe
  pub seen : Seen
