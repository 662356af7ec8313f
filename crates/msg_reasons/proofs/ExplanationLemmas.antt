-- The answers of an explanation.
use Rattle.std.proofs.Common.{◌≡◌, List, [], ◌∷◌, refl, ap}
use Rattle.msg_image.specs.Items.{ItemParts, DocumentParts}
use Rattle.msg_image.specs.Opened.{origin_of}
use Rattle.msg_image.specs.Parts.{ImageParts}
use Rattle.msg_tables.specs.History.{History, empty}
use Rattle.msg_answers.specs.Serial.{Answer, answer_at, history_after, serial, serial_from}
use Rattle.msg_answers.specs.Text.{output_of, text_of}
use Rattle.msg_reasons.specs.Explanation.{answers_of, explanation_of, reasons_from}

answers-from : (image : ImageParts) (h : History) (items : List ItemParts) → answers_of (reasons_from image h items) ≡ serial_from image h items
answers-from image h [] = refl
answers-from image h (item ∷ items) = ap (λ (more : List Answer). answer_at image h item ∷ more) (answers-from image (history_after h item) items)

pub answers-serial : (d : DocumentParts) → answers_of (explanation_of d) ≡ serial d
answers-serial d = answers-from d.image (empty (origin_of d.image)) d.items

pub answers-output : (d : DocumentParts) → text_of d.image (answers_of (explanation_of d)) ≡ output_of d
unfolding output_of
answers-output d = ap (text_of d.image) (answers-serial d)
