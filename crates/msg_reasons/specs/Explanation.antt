-- Why a document has its answers: each answer, and the lookups behind it.
use Rattle.std.specs.Prelude.{ℕ, List, [], ◌∷◌, length, map}
use Rattle.msg_image.specs.Items.{ItemParts, SendItem, DocumentParts}
use Rattle.msg_image.specs.Opened.{origin_of}
use Rattle.msg_image.specs.Parts.{ImageParts}
use Rattle.msg_tables.specs.History.{History, empty, log}
use Rattle.msg_eval.specs.Evaluation.{send_of}
use Rattle.msg_answers.specs.Serial.{Answer, answer_at, history_after}
use Rattle.msg_reasons.specs.Lookups.{Looked, lookups_of}

-- an answer, the lookups behind it, and how many changes were made before, each of a list counted
pub record Reason : Type 0 where
  pub answer : Answer
  pub lookups : List Looked
  pub changes : ℕ

-- the lookups behind the answer to an item at a history. There are none behind what became of
-- changes.
abbrev pub lookups_at : ImageParts → History → ItemParts → List Looked
lookups_at image h (SendItem receiver s args) = lookups_of h (send_of image receiver s args)
lookups_at image h changes = []

-- the answer to an item at a history, with its lookups
abbrev pub reason_at : ImageParts → History → ItemParts → Reason
reason_at image h item = record { answer = answer_at image h item; lookups = lookups_at image h item; changes = length (log h).changes }

-- those of items, from a history on
abbrev pub reasons_from : ImageParts → History → List ItemParts → List Reason
reasons_from image h [] = []
reasons_from image h (item ∷ items) = reason_at image h item ∷ reasons_from image (history_after h item) items

-- those of a document
abbrev pub explanation_of : DocumentParts → List Reason
explanation_of d = reasons_from d.image (empty (origin_of d.image)) d.items

-- the answers alone
abbrev pub answers_of : List Reason → List Answer
answers_of reasons = map (λ (r : Reason). r.answer) reasons
