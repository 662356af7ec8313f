-- What is said of a document.
use Rattle.std.specs.Prelude.{◌≡◌, ◌⊎◌, ℕ, List, [], ◌∷◌, Option, Some, Ok, codes}
use Rattle.msg_io.specs.Complaint.{complaint_line}
use Rattle.msg_io.specs.Writing.{Starts, Writes}
use Rattle.msg_io.specs.declared.complaint.Program.{Program}
use Rattle.msg_io.specs.declared.fault.RunFault.TheVariants.{Document}
use Rattle.msg_form.specs.declared.faults.DocumentFault.{DocumentFault}
use Rattle.msg_image.specs.Answer.{IsAnswer}
use Rattle.msg_image.specs.Items.{DocumentParts}
use Rattle.msg_reasons.specs.Text.{beside_text, explanation_text}

-- the bytes spell a document, and its answers were written to a sink, with the lookups behind them
abbrev pub TellsReasons : {S : Type 0} → (S → Option (List ℕ)) → S → S → List ℕ → Type 0
TellsReasons contents old new bytes = (d : DocumentParts) × IsAnswer bytes (Ok d) × Writes contents old new (explanation_text d)

-- so they were of a run beside changes, whose lookups are answered at some versions
abbrev pub TellsReasonsBeside : {S : Type 0} → (S → Option (List ℕ)) → S → S → List ℕ → Type 0
TellsReasonsBeside contents old new bytes = (d : DocumentParts) × (versions : List ℕ) × IsAnswer bytes (Ok d) × Writes contents old new (beside_text d versions)

-- so they were as the words of the command line ask: of a run between changes where there are none,
-- of one beside changes where `beside` is the only one
abbrev pub TellsAsked : {S : Type 0} → List (List ℕ) → (S → Option (List ℕ)) → S → S → List ℕ → Type 0
TellsAsked [] contents old new bytes = TellsReasons contents old new bytes
TellsAsked (word ∷ []) contents old new bytes = (word ≡ codes "beside") × TellsReasonsBeside contents old new bytes
TellsAsked (word ∷ more ∷ rest) contents old new bytes = ⊥

-- the line of a fault was written to a sink, or the start of it
abbrev pub SaysFault : {S : Type 0} → Program → (S → Option (List ℕ)) → S → S → DocumentFault → Type 0
SaysFault p contents old new f =
    Writes contents old new (complaint_line p (Some (Document f))) ⊎ Starts contents old new (complaint_line p (Some (Document f)))
