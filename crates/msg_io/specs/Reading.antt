-- What reading a source to its end, or a document from it, does and returns.
use Rattle.std.specs.Prelude.{◌≡◌, ℕ, ◌+◌, ◌<◌, ◌≤◌, Bool, List, length, Option, Result, Ok, Err, All, IsTrue}
use Rattle.std.specs.Io.KnownBytes.{Consumes}
use Rattle.msg_image.specs.Answer.{most_bytes}
use Rattle.msg_image.specs.Items.{DocumentParts}
use Rattle.msg_image.specs.Sound.{IsSoundItem}
use Rattle.msg_io.specs.declared.reading.ReadFault.{ReadFault}
use Rattle.msg_io.specs.declared.reading.ReadFault.TheVariants.{Read, TooLong, Memory}

-- the most bytes of one read
abbrev pub buffer_bytes : ℕ
buffer_bytes = 8192

-- within that limit
abbrev pub FitsLimit : List ℕ → Type 0
FitsLimit bytes = length bytes ≤ most_bytes

-- beyond that limit
abbrev pub IsTooLong : List ℕ → Type 0
IsTooLong bytes = most_bytes < length bytes

-- a source gave the start of its known bytes, past the limit by at most one read
abbrev pub GivesStart : Option (List ℕ) → Option (List ℕ) → Type 0
GivesStart old new = (start : List ℕ) × (length start ≤ most_bytes + buffer_bytes) × Consumes old new start

-- a failed read sets the mark, and nothing else changes it
abbrev pub MarksRead : {A : Type 0} → Bool → Bool → Result A ReadFault → Type 0
MarksRead old new (Ok _) = new ≡ old
MarksRead old new (Err Read) = IsTrue new
MarksRead old new (Err TooLong) = new ≡ old
MarksRead old new (Err Memory) = new ≡ old

-- a document's items are sound
abbrev pub IsSoundDocument : DocumentParts → Type 0
IsSoundDocument d = All (IsSoundItem d.image) d.items
