-- Items that are explained, one after another.
use Rattle.std.specs.Prelude.{◌≡◌, ℕ, List, ◌++◌}
use Rattle.msg_image.specs.Items.{ItemParts}
use Rattle.msg_image.specs.Opened.{origin_of}
use Rattle.msg_image.specs.Parts.{ImageParts}
use Rattle.msg_tables.specs.History.{History, empty, log}
use Rattle.msg_tables.specs.Stands.{StandsAt}
use Rattle.msg_tables.specs.View.{TablesView}
use Rattle.msg_answers.specs.Serial.{history_after}
use Rattle.msg_eval.specs.Finder.{sizes_of, table_sizes}
use Rattle.msg_reasons.specs.Lines.{AreLines}
use Rattle.msg_reasons.specs.Explanation.{reason_at}
use Rattle.msg_reasons.specs.Text.{reason_lines}
use Rattle.msg_reasons.specs.declared.explaining.Explainer.{Explainer}

-- an explainer of an image that has explained nothing
pub record IsOpened (image : ImageParts) (e : Explainer) : Type 0 where
  pub stands : StandsAt e.noting.tables (log (empty (origin_of image)))
  pub sizes : table_sizes e.noting.tables ≡ sizes_of image
  pub lines : AreLines image e.lines

-- wherever the tables were, the lines of an item were added, and they are after it
abbrev pub ExplainsItem : ImageParts → ItemParts → TablesView → TablesView → List ℕ → List ℕ → Type 0
ExplainsItem image item old new text more =
    (h : History) → StandsAt old (log h) → (more ≡ text ++ reason_lines image (reason_at image h item)) × StandsAt new (log (history_after h item))
