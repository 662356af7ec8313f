-- The lines of what was answered beside the changes.
use Rattle.std.proofs.Common.{◌≡◌, ◌<◌, ℕ, List, [], Result, Ok, Err, Vec, Global, subst, inl}
use Rattle.std.specs.Prelude.{IfOk}
use Rattle.msg_image.specs.Items.{DocumentParts, ItemParts}
use Rattle.msg_image.specs.Opened.{origin_of}
use Rattle.msg_image.specs.Parts.{ImageParts}
use Rattle.msg_tables.specs.History.{History, empty}
use Rattle.msg_answers.specs.Serving.{AreAnswered}
use Rattle.msg_answers.proofs.PartLemmas.{answered_serial}
use Rattle.msg_answers.specs.Text.{output_of}
use Rattle.msg_runner.specs.Lines.{AreLines, AreLinesOf}
use Rattle.msg_runner.specs.declared.changes.Changes.{Changes}
use Rattle.msg_runner.specs.declared.changes.Changes.TheVariants.{Between, Beside}

-- what was answered beside the changes has such lines
pub lines_beside : (changes : Changes) (image : ImageParts) (workers cut : ℕ) (h : History) (items : List ItemParts) (old new : List ℕ) → 0 < workers → changes ≡ Beside → old ≡ [] → AreAnswered image workers cut h items old new
    → AreLines changes image workers cut h items new
lines_beside Between image workers cut h items old new some is none answered = absurd (cc is)
lines_beside Beside image workers cut h items old new some is none answered =
    let all = subst (λ t. AreAnswered image workers cut h items t new) none answered in
    (all, λ sends. answered_serial image workers cut h items [] new some (inl sends) all)

-- the lines of a document's items are the document's
pub lines_of_document : (changes : Changes) (workers cut : ℕ) (d : DocumentParts) (text : List ℕ) → AreLines changes d.image workers cut (empty (origin_of d.image)) d.items text → AreLinesOf changes workers cut d text
unfolding output_of
lines_of_document Between workers cut d text lines = lines
lines_of_document Beside workers cut d text lines = lines

pub lines_where_ok : {E : Type 0} (r : Result (Vec ℕ Global) E) (changes : Changes) (workers cut : ℕ) (d : DocumentParts) (h : History) → h ≡ empty (origin_of d.image) → IfOk r (λ (t : Vec ℕ Global). AreLines changes d.image workers cut h d.items t.items)
    → IfOk r (λ (t : Vec ℕ Global). AreLinesOf changes workers cut d t.items)
lines_where_ok (Ok t) changes workers cut d h opening lines =
    lines_of_document changes workers cut d t.items (subst (λ k. AreLines changes d.image workers cut k d.items t.items) opening lines)
lines_where_ok (Err e) changes workers cut d h opening lines = lines
