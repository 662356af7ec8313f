-- Lines of lookups that are kept.
use Rattle.std.specs.Prelude.{◌≡◌, All}
use Rattle.msg_image.specs.Parts.{ImageParts}
use Rattle.msg_reasons.specs.Looked.{looked}
use Rattle.msg_reasons.specs.Text.{lookup_line}
use Rattle.msg_reasons.specs.declared.lines.Line.{Line}
use Rattle.msg_reasons.specs.declared.slots.Slots.{Slots}

-- it is the line of its lookup
abbrev pub IsLine : ImageParts → Line → Type 0
IsLine image line = line.text.items ≡ lookup_line image (looked line.lookup)

abbrev pub AreLines : ImageParts → Slots Line → Type 0
AreLines image lines = All (IsLine image) lines.kept.items
