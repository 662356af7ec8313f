-- Blank notes.
use Rattle.std.specs.Prelude.{◌≡◌, ◌<◌, ◌/◌, ℕ, Bool, false, List, get_or, length}
use Rattle.msg_reader.specs.declared.note.Note.{Note}

-- A note is blank. It says 0 of its stamp, which is where the count of changes lies.
pub record IsBlank (n : Note) : Type 0 where
  pub seal : n.seal ≡ 0
  pub imp : n.imp ≡ 0
  pub stamp : n.stamp ≡ 0

-- at no place there is a second note, but no first one
abbrev pub ComeAfter : List Note → List Note → Type 0
ComeAfter first second = (place : ℕ) (d : Note) → place < length second → IsBlank (get_or first place d) → IsBlank (get_or second place d)

-- the notes of a part, which has 128 places, are blank
abbrev pub AreBlankIn : ℕ → List Note → Type 0
AreBlankIn part notes = (place : ℕ) (d : Note) → place < length notes → place / 128 ≡ part → IsBlank (get_or notes place d)

-- so are those of each part where no note was written
abbrev pub AreBlankUnlessWritten : List Bool → List Note → Type 0
AreBlankUnlessWritten written notes = (part : ℕ) (d : Bool) → part < length written → get_or written part d ≡ false → AreBlankIn part notes

-- what was blank still is
abbrev pub StayBlank : List Note → List Note → Type 0
StayBlank old new = (place : ℕ) (d : Note) → place < length old → IsBlank (get_or old place d) → IsBlank (get_or new place d)
