-- What is noted in a sender's handle.
use Rattle.std.specs.Prelude.{◌≡◌, Option, Some, None}
use Rattle.msg_tables.specs.History.{History}
use Rattle.msg_cache.specs.Views.{ArenaView, layout}
use Rattle.msg_reader.specs.Notes.{AreBlank, AreNotesOf, AreStamped}
use Rattle.msg_reader.specs.declared.notes.Notes.{Notes}
use Rattle.msg_host.specs.View.{SenderView}
use Rattle.msg_c.specs.Answers.{sender_arena, sender_front}

-- A closed handle's notes are blank. An open one's are of lookups at points of the history that its
-- sender has seen, and each says where the stamp of its class reference lies in the words of the
-- sender's arena.
pub record AreNotesIn (state : Option SenderView) (notes : Notes) : Type 0 where
  pub closed : state ≡ None → AreBlank notes
  pub seen : (h : History) → sender_front state ≡ Some h → AreNotesOf h notes
  pub stamped : (a : ArenaView) → sender_arena state ≡ Some a → AreStamped (layout a) notes
