-- The one answer to bytes: the document that they spell, or what is wrong with them.
use Rattle.std.specs.Prelude.{◌≡◌, ◌≢◌, ℕ, List, length, Option, Some, None, Result, Ok, Err, IsUtf8, MatchBool, nat_lt}
use Rattle.serde_json.specs.Data.{Data}
use Rattle.serde_json.specs.Read as json
use Rattle.msg_form.specs.Faults.{fault_of}
use Rattle.msg_form.specs.Form.{Form}
use Rattle.msg_form.specs.Shape.{form_of}
use Rattle.msg_form.specs.declared.faults.DocumentFault.{DocumentFault}
use Rattle.msg_form.specs.declared.faults.DocumentFault.TheVariants.{NotJson, Shape, Limit, Memory}
use Rattle.msg_image.specs.declared.document.TheConstants.{MOST_BYTES}
use Rattle.msg_image.specs.Document.{document_of}
use Rattle.msg_image.specs.Items.{DocumentParts}

-- the JSON value that bytes are the text of, or none
abbrev pub IsJson : List ℕ → Option Data → Type 0
IsJson bytes None = (d : Data) → IsUtf8 bytes → json.read bytes ≡ Some d → ⊥
IsJson bytes (Some d) = IsUtf8 bytes × (json.read bytes ≡ Some d)

-- a fault says that the bytes are the text of no JSON value, unless memory was lacking
abbrev pub SaysNotJson : List ℕ → DocumentFault → Type 0
SaysNotJson bytes e = e ≢ Memory → (e ≡ NotJson) × IsJson bytes None

-- a form's document, if it has no fault
abbrev pub unless : Option DocumentFault → Form → Result DocumentParts DocumentFault
unless None f = Ok (document_of f)
unless (Some e) f = Err e

-- the answer to what spells a form, or spells none
abbrev pub judged : Option Form → Result DocumentParts DocumentFault
judged None = Err Shape
judged (Some f) = unless (fault_of f) f

-- a fault is the answer to a form, unless memory was lacking
abbrev pub IsFaultOf : Form → DocumentFault → Type 0
IsFaultOf f e = e ≢ Memory → judged (Some f) ≡ Err e

abbrev pub answer : Option Data → Result DocumentParts DocumentFault
answer None = Err NotJson
answer (Some d) = judged (form_of d)

-- the form that bytes spell
abbrev pub Spells : List ℕ → Form → Type 0
Spells bytes f = (d : Data) × IsJson bytes (Some d) × (form_of d ≡ Some f)

-- the answer to bytes of any length
abbrev pub IsJudged : List ℕ → Result DocumentParts DocumentFault → Type 0
IsJudged bytes r = (o : Option Data) × IsJson bytes o × (r ≡ answer o)

-- the length of the longest document
abbrev pub most_bytes : ℕ
most_bytes = MOST_BYTES

-- a text of more than the most bytes is too long, whatever it says
abbrev pub IsAnswer : List ℕ → Result DocumentParts DocumentFault → Type 0
IsAnswer bytes r = MatchBool (nat_lt most_bytes (length bytes)) (r ≡ Err Limit) (IsJudged bytes r)

-- bytes have one answer
abbrev pub BytesHaveOneAnswer : Type 0
BytesHaveOneAnswer = (bytes : List ℕ) (r s : Result DocumentParts DocumentFault) → IsAnswer bytes r → IsAnswer bytes s → r ≡ s
