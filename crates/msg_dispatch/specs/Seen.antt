-- The contracts' view of a sender.
use Rattle.std.specs.Prelude.{◌≡◌, ◌≤◌, ◌+◌, ℕ, IfSome}
use Rattle.msg_names.specs.ClassRef.{slot_of}
use Rattle.msg_names.specs.Number.{selector_number, imp_number}
use Rattle.msg_names.specs.declared.value.ClassRef.{ClassRef}
use Rattle.msg_names.specs.declared.value.ImpRef.{ImpRef}
use Rattle.msg_names.specs.declared.value.Selector.{Selector}
use Rattle.msg_reader.specs.Kept.{LoadsFirst, LoadsStamp}
use Rattle.msg_reader.specs.Notes.{recalled}
use Rattle.msg_reader.specs.declared.notes.Notes.{Notes}
use Rattle.msg_cache.specs.Views.{ArenaView, ProberView, IsSenderOf}
use Rattle.msg_cache.specs.declared.view.SenderView.{SenderView as Seen}

-- the contracts' view of a sender of a dispatcher
pub record SenderView : Type 0 where
  -- the history that it has seen, its last probe, how often it loaded the count of changes, and the
  -- stamps that it loaded
  pub seen : Seen
  -- how often `find` took the lock
  pub takings : ℕ

-- a sender and what it has noted
pub record RecallingView : Type 0 where
  pub sender : SenderView
  pub notes : Notes

-- from one view to the other the lock was taken once at most
abbrev pub TakesOnceAtMost : SenderView → SenderView → Type 0
TakesOnceAtMost v w = (v.takings ≤ w.takings) × (w.takings ≤ v.takings + 1)

-- a reader of the arena, which has seen a history of the arena's origin
abbrev pub IsReaderOf : ArenaView → ProberView → Type 0
IsReaderOf a r = IsSenderOf a r × (r.sender.front.origin ≡ a.key.origin)

-- A stamp is loaded, and what the notes have since then is found. Then no taking of the lock was
-- counted, and no other load of a word that threads share was recorded.
abbrev pub FindsNoted : SenderView → SenderView → Notes → Notes → ClassRef → Selector → ImpRef → Type 0
FindsNoted v w was is c s i =
    (since : ℕ) × LoadsFirst c since v.seen w.seen × IfSome (recalled was since (slot_of c) (selector_number s)) (λ n. (imp_number i ≡ n) × LoadsStamp c since v.seen w.seen × (w.takings ≡ v.takings) × (is ≡ was))

-- the same for a sender with its notes
abbrev pub FindsRecalled : RecallingView → RecallingView → ClassRef → Selector → ImpRef → Type 0
FindsRecalled r r' c s i = FindsNoted r.sender r'.sender r.notes r'.notes c s i
