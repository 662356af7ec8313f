-- The answers so far, and those to the items that are left.
use Rattle.std.proofs.Common.{◌≡◌, ◌≤◌, ℕ, List, [], ◌∷◌, ◌++◌, append_assoc, drop, map, length, refl, sym, ap, ◌∙◌}
use Rattle.std.proofs.lemmas.List.{drop_all, append-nil}
use Rattle.msg_tables.specs.declared.change.Change.{Change}
use Rattle.msg_image.specs.declared.change.Item.{Item}
use Rattle.msg_image.specs.Items.{ItemParts, DocumentParts}
use Rattle.msg_image.specs.Opened.{origin_of}
use Rattle.msg_image.specs.Plain.{item_parts}
use Rattle.msg_tables.specs.History.{History, log}
use Rattle.msg_tables.specs.Stands.{StandsAt}
use Rattle.msg_tables.specs.View.{TablesView}
use Rattle.msg_answers.specs.Serial.{answer_at, changes_in, history_after, longer_by, outcome_at, serial_from}
use Rattle.msg_answers.specs.Text.{answer_line, text_of, output_of}
use Rattle.msg_answers.specs.declared.outcome.Outcome.{Outcome}
use Rattle.msg_answers.specs.declared.outcome.Outcome.TheVariants.{Made, Refused, RefusedAt}

-- the tables are at the history after the items before, and the text with the lines of those left
-- is the whole
pub record IsSoFar (d : DocumentParts) (tables : TablesView) (text : List ℕ) (left : List ItemParts) : Type 0 where
  pub history : History
  pub stands : StandsAt tables (log history)
  pub origin : history.origin ≡ origin_of d.image
  pub whole : text ++ text_of d.image (serial_from d.image history left) ≡ output_of d

same_origin : (h : History) (xs : List Change) (o : Outcome) → (longer_by h xs o).origin ≡ h.origin
same_origin h [] Made = refl
same_origin h (x ∷ xs) Made = refl
same_origin h xs (Refused f) = refl
same_origin h xs (RefusedAt r) = refl

pub origin_after : (h : History) (item : ItemParts) → (history_after h item).origin ≡ h.origin
origin_after h item = same_origin h (changes_in item) (outcome_at h item)

pub step : (d : DocumentParts) (old new : TablesView) (text more : List ℕ) (item : ItemParts) (left : List ItemParts) (so_far : IsSoFar d old text (item ∷ left))
    → (more ≡ text ++ answer_line d.image (answer_at d.image so_far.history item)) × StandsAt new (log (history_after so_far.history item)) → IsSoFar d new more left
step d old new text more item left so_far made = record {
  history = history_after so_far.history item;
  stands = made.1;
  origin = origin_after so_far.history item ∙ so_far.origin;
  whole =
      let line = answer_line d.image (answer_at d.image so_far.history item) in
      let rest = text_of d.image (serial_from d.image (history_after so_far.history item) left) in
      ap (λ t. t ++ rest) made.0 ∙ append_assoc text line rest ∙ so_far.whole;
}

pub at_end : (d : DocumentParts) (tables : TablesView) (text : List ℕ) (items : List Item) (i : ℕ) → length items ≤ i → IsSoFar d tables text (map item_parts (drop i items)) → text ≡ output_of d
at_end d tables text items i past so_far =
    sym (append-nil text) ∙ ap (λ rest. text ++ text_of d.image (serial_from d.image so_far.history (map item_parts rest))) (sym (drop_all i items past)) ∙ so_far.whole
