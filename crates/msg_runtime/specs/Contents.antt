-- What the tables hold, written into the room that a caller gives.
use Rattle.std.specs.Prelude.{◌≡◌, ◌<◌, ◌≤◌, ◌++◌, ℕ, List, drop, length}
use Rattle.msg_tables.specs.Contents.{AreBelowClass, AreClasses}
use Rattle.msg_tables.specs.History.{History, log}

-- So many of a kind there are, and they were written to the front of a room, if it has as many
-- places. Else the room is as it was.
pub record AreShown {A : Type 0} (these : List A) (old new : List A) (count : ℕ) : Type 0 where
  pub count_is : count ≡ length these
  pub written : length these ≤ length old → new ≡ these ++ drop (length these) old
  pub short : length old < length these → new ≡ old

-- the classes at a history were, each after its superclass
abbrev pub ShowsClasses : History → List ℕ → List ℕ → ℕ → Type 0
ShowsClasses h old new count = (these : List ℕ) × AreClasses (log h) these × AreShown these old new count

-- those below a class were
abbrev pub ShowsBelow : History → ℕ → List ℕ → List ℕ → ℕ → Type 0
ShowsBelow h class old new count = (these : List ℕ) × AreBelowClass (log h) class these × AreShown these old new count
