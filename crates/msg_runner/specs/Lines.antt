-- The lines that a run makes.
use Rattle.std.specs.Prelude.{◌≡◌, ℕ, List, [], map}
use Rattle.msg_image.specs.Items.{DocumentParts, ItemParts}
use Rattle.msg_image.specs.Opened.{origin_of}
use Rattle.msg_image.specs.Parts.{ImageParts}
use Rattle.msg_image.specs.Plain.{item_parts}
use Rattle.msg_tables.specs.History.{History, empty}
use Rattle.msg_answers.specs.Serial.{serial_from}
use Rattle.msg_answers.specs.Serving.{AllSends, AreAnswered}
use Rattle.msg_answers.specs.Text.{output_of, text_of}
use Rattle.msg_answers.specs.declared.part.Part.{Part}
use Rattle.msg_runner.specs.declared.changes.Changes.{Changes}
use Rattle.msg_runner.specs.declared.changes.Changes.TheVariants.{Between, Beside}

-- The lines of a document by this number of workers: those of one thread where changes are made
-- between sends. Where they are made beside them, lines of answers at versions from the opening on,
-- and those of one thread if there is no change.
abbrev pub AreLinesOf : Changes → ℕ → ℕ → DocumentParts → List ℕ → Type 0
AreLinesOf Between workers cut d text = text ≡ output_of d
AreLinesOf Beside workers cut d text =
    AreAnswered d.image workers cut (empty (origin_of d.image)) d.items [] text
    × (AllSends d.items → text ≡ output_of d)

-- the same for items, from a history on
abbrev pub AreLines : Changes → ImageParts → ℕ → ℕ → History → List ItemParts → List ℕ → Type 0
AreLines Between image workers cut h items text = text ≡ text_of image (serial_from image h items)
AreLines Beside image workers cut h items text =
    AreAnswered image workers cut h items [] text
    × (AllSends items → text ≡ text_of image (serial_from image h items))

-- the same for a part
abbrev pub AreLinesOfPart : Changes → Part → History → List ℕ → Type 0
AreLinesOfPart changes p h text =
    AreLines changes p.image.now p.deal.workers p.deal.cut h (map item_parts p.items.now) text
