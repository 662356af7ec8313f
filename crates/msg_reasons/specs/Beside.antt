-- Why the sends of a run beside changes are answered as they are: the lookups behind each answer,
-- and how many changes were made before each. A thread makes the changes of the items one after
-- another, while another answers the sends: each lookup at some point of that history, and none at
-- an earlier point than the one before it.
use Rattle.std.specs.Prelude.{ℕ, List, [], ◌∷◌, ◌++◌, length, drop, get_or, if◌then◌else◌, nat_le}
use Rattle.msg_names.specs.declared.value.ClassRef.{ClassRef}
use Rattle.msg_image.specs.Items.{ItemParts, SendItem, DocumentParts}
use Rattle.msg_image.specs.Opened.{origin_of}
use Rattle.msg_image.specs.Parts.{ImageParts}
use Rattle.msg_tables.specs.History.{History, empty, log, lookup}
use Rattle.msg_eval.specs.Evaluation.{send_of}
use Rattle.msg_eval.specs.Meaning.{Meaning, Ends, Asks}
use Rattle.msg_eval.specs.declared.reply.Reply.{Reply}
use Rattle.msg_answers.specs.Serial.{Answer, Replied, Changed, history_after, outcome_at}
use Rattle.msg_reasons.specs.Lookups.{Looked, looked_at}

-- a lookup, and how many changes were made before it, each of a list counted
pub record Seen : Type 0 where
  pub looked : Looked
  pub changes : ℕ

-- the lookup of a selector at a history
abbrev pub seen_at : History → ClassRef → ℕ → Seen
seen_at h c s = record { looked = looked_at h c s; changes = length (log h).changes }

-- How far the lookups of a run have come: the history of the last, the items whose changes come
-- next, the versions at which the next ones are answered, and those of this send. A version is how
-- many lists of changes were made, as a history counts them.
pub record Course : Type 0 where
  pub history : History
  pub left : List ItemParts
  pub versions : List ℕ
  pub seen : List Seen

-- a history, and the items whose changes come after it
pub record Point : Type 0 where
  pub history : History
  pub left : List ItemParts

-- the first point from a history on, and these items, that is of this version or a later one; or
-- the last
abbrev pub point_of : ℕ → History → List ItemParts → Point
point_of version h [] = record { history = h; left = [] }
point_of version h (item ∷ items) = if nat_le version (length h.changes) then record { history = h; left = item ∷ items } else point_of version (history_after h item) items

-- where the next lookup is answered: at its version, or if no version is left at the last one's
abbrev pub next_point : Course → Point
next_point c = point_of (get_or c.versions 0 0) c.history c.left

-- the course there
abbrev pub moved : Course → Course
moved k = record { history = (next_point k).history; left = (next_point k).left; versions = drop 1 k.versions; seen = k.seen }

-- the course after the next lookup
abbrev pub after_lookup : Course → ClassRef → ℕ → Course
after_lookup k c s = (let m = moved k in record { history = m.history; left = m.left; versions = m.versions; seen = m.seen ++ seen_at m.history c s ∷ [] })

-- what comes of a send: its reply, and the course after its lookups
pub record Sent : Type 0 where
  pub reply : Reply
  pub course : Course

-- what comes of a send that is at this point of its meaning
abbrev pub sent : Course → Meaning → Sent
sent k (Ends r) = record { reply = r; course = k }
sent k (Asks c s go) = sent (after_lookup k c s) (go (lookup (moved k).history c s))

-- the course before the first lookup of a send
abbrev pub begun : Course → Course
begun k = record { history = k.history; left = k.left; versions = k.versions; seen = [] }

-- an answer, and the lookups behind it
pub record Reason : Type 0 where
  pub answer : Answer
  pub seen : List Seen

-- The answer to an item, with its lookups. What becomes of changes is what becomes of them after
-- the items before: they are made in their order.
abbrev pub reason_beside : ImageParts → Course → History → ItemParts → Reason
reason_beside image k h (SendItem receiver s args) = (let x = sent (begun k) (send_of image receiver s args) in record { answer = Replied x.reply; seen = x.course.seen })
reason_beside image k h changes = record { answer = Changed (outcome_at h changes); seen = [] }

-- the course after an item
abbrev pub course_after : ImageParts → Course → ItemParts → Course
course_after image k (SendItem receiver s args) = (sent (begun k) (send_of image receiver s args)).course
course_after image k changes = k

-- those of items, from a course of lookups and a history of the items before on
abbrev pub reasons_beside : ImageParts → Course → History → List ItemParts → List Reason
reasons_beside image k h [] = []
reasons_beside image k h (item ∷ items) = reason_beside image k h item ∷ reasons_beside image (course_after image k item) (history_after h item) items

-- the course at these versions before the first lookup
abbrev pub opening : ImageParts → List ItemParts → List ℕ → Course
opening image items versions = record { history = empty (origin_of image); left = items; versions = versions; seen = [] }

-- those of a document whose lookups are answered at these versions
abbrev pub explanation_beside : DocumentParts → List ℕ → List Reason
explanation_beside d versions = reasons_beside d.image (opening d.image d.items versions) (empty (origin_of d.image)) d.items
