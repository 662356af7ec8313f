-- Items that are explained, one after another, beside changes.
use Rattle.std.specs.Prelude.{◌≡◌, ℕ, List, ◌++◌}
use Rattle.msg_image.specs.Items.{ItemParts}
use Rattle.msg_image.specs.Opened.{origin_of}
use Rattle.msg_image.specs.Parts.{ImageParts}
use Rattle.msg_tables.specs.History.{History, empty, log}
use Rattle.msg_tables.specs.Stands.{StandsAt}
use Rattle.msg_answers.specs.Serial.{history_after}
use Rattle.msg_eval.specs.Finder.{sizes_of, table_sizes}
use Rattle.msg_reasons.specs.Beside.{Course, course_after, opening, reason_beside}
use Rattle.msg_reasons.specs.Moving.{IsOn}
use Rattle.msg_reasons.specs.Text.{beside_lines}
use Rattle.msg_reasons.specs.declared.beside.Beside.{Beside}

-- an explainer of these items that has explained nothing
pub record IsOpenedBeside (image : ImageParts) (items : List ItemParts) (versions : List ℕ) (e : Beside) : Type 0 where
  pub stands : StandsAt e.tables (log (empty (origin_of image)))
  pub on : IsOn e.moving (opening image items versions)
  pub sizes : table_sizes e.moving.tables ≡ sizes_of image

-- wherever the tables were, and on whatever course, the lines of an item were added, and they are
-- after it
abbrev pub ExplainsBeside : ImageParts → ItemParts → Beside → Beside → List ℕ → List ℕ → Type 0
ExplainsBeside image item old new text more =
    (h : History) (k : Course) → StandsAt old.tables (log h) → IsOn old.moving k
    → (more ≡ text ++ beside_lines image (reason_beside image k h item)) × StandsAt new.tables (log (history_after h item)) × IsOn new.moving (course_after image k item)
