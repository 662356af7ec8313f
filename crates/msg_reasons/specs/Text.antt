-- How the answers of a document are explained: under each line its lookups, and how many they are.
use Rattle.std.specs.Prelude.{ℕ, ◌-◌, List, [], ◌++◌, Option, Some, None, codes, if◌then◌else◌, length, unwrap_or}
use Rattle.std.specs.List.{flat_map}
use Rattle.msg_names.specs.Numbering.{name_at}
use Rattle.msg_names.specs.declared.value.ClassRef.{ClassRef}
use Rattle.msg_image.specs.Items.{DocumentParts}
use Rattle.msg_image.specs.Parts.{ImageParts}
use Rattle.msg_io.specs.Decimal.{digits}
use Rattle.msg_answers.specs.Serial.{Answer, Replied, Changed}
use Rattle.msg_answers.specs.Text.{answer_line, class_name, line_of}
use Rattle.msg_reasons.specs.Beside as beside
use Rattle.msg_reasons.specs.Categories.{category_of}
use Rattle.msg_reasons.specs.Explanation.{Reason, explanation_of}
use Rattle.msg_reasons.specs.Lookups.{Looked}

-- a method by the number of its selector, as `-[Class selector]`, or `+[Class selector]`
abbrev pub asked_text : ImageParts → ClassRef → ℕ → List ℕ
asked_text image c s = (if c.meta then codes "+[" else codes "-[") ++ class_name image c.class ++ codes " " ++ unwrap_or (name_at image.names s) [] ++ codes "]"

-- the class reference where a method is
abbrev pub place_text : ImageParts → ClassRef → List ℕ
place_text image c = (if c.meta then codes " found in metaclass " else codes " found in ") ++ class_name image c.class

-- a category, by its place in the document
abbrev pub place_of_category : ℕ → List ℕ
place_of_category place = codes "categories[" ++ digits place ++ codes "]"

-- the category of which it is, if it is of one of the document's
abbrev pub category_text : Option ℕ → List ℕ
category_text None = []
category_text (Some place) = codes " of " ++ place_of_category place

-- the implementation of a method that is at a class reference, by its place in the document, and
-- the category of which it is
abbrev pub listed_text : ImageParts → Looked → ClassRef → List ℕ
listed_text image l c = codes ": imps[" ++ digits (l.imp - 1) ++ codes "]" ++ category_text (category_of image.categories c l.sel l.imp)

-- what a lookup found, and where
abbrev pub found_text : ImageParts → Looked → Option ClassRef → List ℕ
found_text image l None = codes " not found"
found_text image l (Some c) = place_text image c ++ listed_text image l c

-- a lookup
abbrev pub lookup_text : ImageParts → Looked → List ℕ
lookup_text image l = codes "  " ++ asked_text image l.class l.sel ++ found_text image l l.holder

-- the same, on a line
abbrev pub lookup_line : ImageParts → Looked → List ℕ
lookup_line image l = line_of (lookup_text image l)

-- some words, and a number
abbrev pub number_text : List ℕ → ℕ → List ℕ
number_text words n = words ++ digits n

-- how many lookups there were, and how many changes before them
abbrev pub count_line : ℕ → ℕ → List ℕ
count_line n changes = line_of (number_text (codes "  lookups: ") n ++ number_text (codes ", changes before: ") changes)

-- the lookups of a send, a line for each, and how many there were, after this number of changes
abbrev pub lookups_text : ImageParts → List Looked → ℕ → List ℕ
lookups_text image ls changes = flat_map (lookup_line image) ls ++ count_line (length ls) changes

-- what is said behind an answer after this number of changes; of what became of changes nothing
abbrev pub lookup_lines : ImageParts → Answer → List Looked → ℕ → List ℕ
lookup_lines image (Replied r) ls changes = lookups_text image ls changes
lookup_lines image (Changed o) ls changes = []

-- an answer's line, and those of its lookups
abbrev pub reason_lines : ImageParts → Reason → List ℕ
reason_lines image r = answer_line image r.answer ++ lookup_lines image r.answer r.lookups r.changes

-- the text for a document that is answered
unfoldable pub explanation_text : DocumentParts → List ℕ
explanation_text d = flat_map (reason_lines d.image) (explanation_of d)

-- ---- of a run beside changes

-- a lookup, on a line, with how many changes were made before it
abbrev pub seen_line : ImageParts → beside.Seen → List ℕ
seen_line image k = line_of (lookup_text image k.looked ++ number_text (codes ", changes before: ") k.changes)

-- the lookups of a send, a line for each, and how many there were
abbrev pub seen_text : ImageParts → List beside.Seen → List ℕ
seen_text image ks = flat_map (seen_line image) ks ++ line_of (number_text (codes "  lookups: ") (length ks))

-- what is said behind an answer; of what became of changes nothing
abbrev pub seen_lines : ImageParts → Answer → List beside.Seen → List ℕ
seen_lines image (Replied r) ks = seen_text image ks
seen_lines image (Changed o) ks = []

-- an answer's line, and those of its lookups
abbrev pub beside_lines : ImageParts → beside.Reason → List ℕ
beside_lines image r = answer_line image r.answer ++ seen_lines image r.answer r.seen

-- the text for a document whose lookups are answered at these versions
unfoldable pub beside_text : DocumentParts → List ℕ → List ℕ
beside_text d versions = flat_map (beside_lines d.image) (beside.explanation_beside d versions)
