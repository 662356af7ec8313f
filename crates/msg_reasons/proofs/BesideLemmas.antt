-- Items that are explained, one after another, beside changes.
use Rattle.std.proofs.Common.{◌≡◌, ◌≤◌, ◌<◌, ◌+◌, ℕ, List, [], ◌∷◌, ◌++◌, append_assoc, drop, get_or, map, length, sym, ap, ap₂, subst, ◌∙◌}
use Rattle.std.specs.List.{flat_map}
use Rattle.std.proofs.lemmas.List.{drop_all, append-nil}
use Rattle.msg_names.specs.declared.value.Selector.{Selector}
use Rattle.msg_names.specs.declared.value.Value.{Value}
use Rattle.msg_image.specs.Items.{ItemParts, SendItem, DocumentParts}
use Rattle.msg_image.specs.Opened.{origin_of}
use Rattle.msg_image.specs.Parts.{ImageParts}
use Rattle.msg_image.specs.Plain.{item_parts}
use Rattle.msg_image.specs.declared.change.Item.{Item}
use Rattle.msg_tables.specs.History.{History, empty, log}
use Rattle.msg_tables.specs.Stands.{StandsAt}
use Rattle.msg_eval.specs.declared.reply.Reply.{Reply}
use Rattle.msg_eval.specs.Evaluation.{send_of}
use Rattle.msg_answers.specs.Serial.{history_after}
use Rattle.msg_answers.specs.Text.{line_of, reply_text}
use Rattle.msg_reasons.specs.Beside.{Course, Seen, begun, course_after, opening, reason_beside, reasons_beside, sent}
use Rattle.msg_reasons.specs.ItemsBeside.{ExplainsBeside}
use Rattle.msg_reasons.specs.Moving.{IsOn, Sends, all_seen}
use Rattle.msg_reasons.specs.Text.{beside_lines, beside_text, seen_text}
use Rattle.msg_reasons.specs.declared.beside.Beside.{Beside}
use Rattle.msg_reasons.proofs.ItemLemmas.{drop-next}

-- the tables are at the history after the items before, the lookups are on a course, and the text
-- with the lines of those left is the whole
pub record IsSoFarBeside (d : DocumentParts) (versions : List ℕ) (e : Beside) (text : List ℕ) (left : List ItemParts) : Type 0 where
  pub history : History
  pub course : Course
  pub stands : StandsAt e.tables (log history)
  pub on : IsOn e.moving course
  pub whole : text ++ flat_map (beside_lines d.image) (reasons_beside d.image course history left) ≡ beside_text d versions

pub at_start : (d : DocumentParts) (versions : List ℕ) (e : Beside) (text : List ℕ) → text ≡ [] → StandsAt e.tables (log (empty (origin_of d.image))) → IsOn e.moving (opening d.image d.items versions) → IsSoFarBeside d versions e text d.items
unfolding beside_text
at_start d versions e text none stands on = record {
  history = empty (origin_of d.image);
  course = opening d.image d.items versions;
  stands = stands;
  on = on;
  whole = ap (λ t. t ++ flat_map (beside_lines d.image) (reasons_beside d.image (opening d.image d.items versions) (empty (origin_of d.image)) d.items)) none;
}

step : (d : DocumentParts) (versions : List ℕ) (old new : Beside) (text more : List ℕ) (item : ItemParts) (left : List ItemParts) → IsSoFarBeside d versions old text (item ∷ left) → ExplainsBeside d.image item old new text more → IsSoFarBeside d versions new more left
step d versions old new text more item left so_far explains =
    let h = so_far.history in
    let k = so_far.course in
    let (added, stands, on) = explains h k so_far.stands so_far.on in
    let line = beside_lines d.image (reason_beside d.image k h item) in
    let rest = flat_map (beside_lines d.image) (reasons_beside d.image (course_after d.image k item) (history_after h item) left) in
    record {
      history = history_after h item;
      course = course_after d.image k item;
      stands = stands;
      on = on;
      whole = ap (λ t. t ++ rest) added ∙ append_assoc text line rest ∙ so_far.whole;
    }

pub next : (d : DocumentParts) (versions : List ℕ) (old new : Beside) (text more : List ℕ) (items : List Item) (i : ℕ) (x : Item) → i < length items → x ≡ get_or items i x
    → IsSoFarBeside d versions old text (map item_parts (drop i items)) → ExplainsBeside d.image (item_parts x) old new text more → IsSoFarBeside d versions new more (map item_parts (drop (i + 1) items))
next d versions old new text more items i x lt is so_far explains =
    step d versions old new text more (item_parts x) (map item_parts (drop (i + 1) items)) (subst (λ (ys : List Item). IsSoFarBeside d versions old text (map item_parts ys)) (drop-next items i x lt is) so_far) explains

pub at_end : (d : DocumentParts) (versions : List ℕ) (e : Beside) (text : List ℕ) (items : List Item) (i : ℕ) → length items ≤ i → IsSoFarBeside d versions e text (map item_parts (drop i items)) → text ≡ beside_text d versions
at_end d versions e text items i past so_far =
    sym (append-nil text) ∙ ap (λ rest. text ++ flat_map (beside_lines d.image) (reasons_beside d.image so_far.course so_far.history (map item_parts rest))) (sym (drop_all i items past)) ∙ so_far.whole

-- ---- a send

pub sent_beside : (image : ImageParts) (receiver : Value) (s : Selector) (xs : List Value) (old new : Beside) (text mid more : List ℕ) (reply : Reply)
    → new.tables ≡ old.tables → Sends (send_of image receiver s xs) old.moving new.moving reply
    → mid ≡ text ++ line_of (reply_text image reply) → more ≡ mid ++ seen_text image (all_seen new.moving.seen.items)
    → ExplainsBeside image (SendItem receiver s xs) old new text more
sent_beside image receiver s xs old new text mid more reply same sends first second = λ h k st on.
    let (now, replied) = sends k on in
    let x = sent (begun k) (send_of image receiver s xs) in (
      second ∙ ap (λ t. t ++ seen_text image (all_seen new.moving.seen.items)) first
          ∙ append_assoc text (line_of (reply_text image reply)) (seen_text image (all_seen new.moving.seen.items))
          ∙ ap₂ (λ (r : Reply) (seen : List Seen). text ++ (line_of (reply_text image r) ++ seen_text image seen)) replied now.seen,
      rw same st,
      now,
    )
