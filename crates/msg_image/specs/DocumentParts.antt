-- The parts of a document of the program.
use Rattle.std.specs.Prelude.{map}
use Rattle.msg_image.specs.declared.document.Document.{Document}
use Rattle.msg_image.specs.Items.{DocumentParts}
use Rattle.msg_image.specs.Plain.{item_parts}

-- a document without its pointers
abbrev pub document_parts : Document → DocumentParts
document_parts d = record { image = d.image; items = map item_parts d.items.items }
