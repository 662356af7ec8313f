-- Which runs there are, and of which documents.
use Rattle.std.specs.Prelude.{◌≡◌, ◌<◌, ◌≤◌, ◌⊎◌, ℕ, List, Option, Result, Ok, Err, IfSome}
use Rattle.msg_form.specs.declared.faults.DocumentFault.{DocumentFault}
use Rattle.msg_image.specs.Answer.{IsAnswer}
use Rattle.msg_image.specs.Items.{DocumentParts}
use Rattle.msg_io.specs.declared.admission.TheConstants.{MAX_WORKERS}
use Rattle.msg_io.specs.declared.fault.RunFault.{RunFault}
use Rattle.msg_io.specs.declared.fault.RunFault.TheVariants.{Document}

-- no run has this number of workers
abbrev pub AreNoWorkers : ℕ → Type 0
AreNoWorkers workers = (workers ≡ 0) ⊎ (MAX_WORKERS < workers)

-- a run may have this number of workers, and none has this cut
abbrev pub IsNoCut : ℕ → ℕ → Type 0
IsNoCut workers cut = (cut ≡ 0) × (0 < workers) × (workers ≤ MAX_WORKERS)

-- the bytes that a source has, if they are known, spell this document
abbrev pub IsDocumentOf : Option (List ℕ) → DocumentParts → Type 0
IsDocumentOf known d = IfSome known (λ bytes. IsAnswer bytes (Ok d))

-- a fault that is reported of a document is the one that those bytes have
abbrev pub TellsFaultOf : {A : Type 0} → Option (List ℕ) → Result A RunFault → Type 0
TellsFaultOf known r = (f : DocumentFault) → r ≡ Err (Document f) → IfSome known (λ bytes. IsAnswer bytes (Err f))
