-- The answers of one thread that takes a document's items one by one and searches the method lists.
use Rattle.std.specs.Prelude.{ℕ, List, [], ◌∷◌, Option, Some, None}
use Rattle.msg_image.specs.Items.{ItemParts, SendItem, ChangeItem, ChangeAllItem, DocumentParts}
use Rattle.msg_image.specs.Opened.{origin_of}
use Rattle.msg_image.specs.Parts.{ImageParts}
use Rattle.msg_tables.specs.declared.change.Change.{Change}
use Rattle.msg_tables.specs.History.{History, empty, log}
use Rattle.msg_tables.specs.Made.{and_as_one}
use Rattle.msg_tables.specs.Refusal.{refusal}
use Rattle.msg_tables.specs.Several.{refused_from}
use Rattle.msg_tables.specs.declared.fault.ChangeFault.{ChangeFault}
use Rattle.msg_eval.specs.declared.reply.Reply.{Reply}
use Rattle.msg_eval.specs.Evaluation.{send_of}
use Rattle.msg_eval.specs.Points.{plain_reply}
use Rattle.msg_answers.specs.declared.outcome.Outcome.{Outcome}
use Rattle.msg_answers.specs.declared.outcome.Outcome.TheVariants.{Made, Refused, RefusedAt}

-- the outcome of a change with this refusal
abbrev pub outcome_of : Option ChangeFault → Outcome
outcome_of None = Made
outcome_of (Some fault) = Refused fault

-- the outcome of changes that are made as one, of which this is the first that would be refused
abbrev pub outcome_of_first : Option (ℕ × ChangeFault) → Outcome
outcome_of_first None = Made
outcome_of_first (Some first) = RefusedAt (record { place = first.0; fault = first.1 })

-- the outcome of an item's changes at a history. A send has none.
abbrev pub outcome_at : History → ItemParts → Outcome
outcome_at h (SendItem receiver s args) = Made
outcome_at h (ChangeItem change) = outcome_of (refusal (log h) change)
outcome_at h (ChangeAllItem changes) = outcome_of_first (refused_from 0 (log h) changes)

-- the changes of an item, which are made as one
abbrev pub changes_in : ItemParts → List Change
changes_in (SendItem receiver s args) = []
changes_in (ChangeItem change) = change ∷ []
changes_in (ChangeAllItem changes) = changes

-- the history longer by changes that were made, as one, and else the same
abbrev pub longer_by : History → List Change → Outcome → History
longer_by h changes Made = and_as_one h changes
longer_by h changes (Refused fault) = h
longer_by h changes (RefusedAt refused) = h

-- the history after an item: it has the item's changes added, if they are made
abbrev pub history_after : History → ItemParts → History
history_after h item = longer_by h (changes_in item) (outcome_at h item)

-- an answer to an item: a send's reply, or what became of changes
pub data Answer : Type 0 where
  Replied : Reply → Answer
  Changed : Outcome → Answer

-- the answer to an item at a history
abbrev pub answer_at : ImageParts → History → ItemParts → Answer
answer_at image h (SendItem receiver s args) = Replied (plain_reply h (send_of image receiver s args))
answer_at image h changes = Changed (outcome_at h changes)

-- the answers to items, from a history on
abbrev pub serial_from : ImageParts → History → List ItemParts → List Answer
serial_from image h [] = []
serial_from image h (item ∷ items) = answer_at image h item ∷ serial_from image (history_after h item) items

-- the answers to a document
abbrev pub serial : DocumentParts → List Answer
serial d = serial_from d.image (empty (origin_of d.image)) d.items
