-- Faults that a document is refused for.
use Rattle.std.proofs.Common.{◌≡◌, Some, refl, arith}
use Rattle.msg_form.specs.declared.faults.DocumentFault.{DocumentFault}
use Rattle.msg_form.specs.declared.faults.DocumentFault.TheVariants as documents
use Rattle.msg_io.specs.Complaint.{status_of}
use Rattle.msg_io.specs.Fault.{refused}
use Rattle.msg_io.specs.declared.fault.RunFault.TheVariants.{Document}

-- status 2 is that of a fault of the document, and not of want of memory
pub refused_is : (f : DocumentFault) → status_of (Some (refused f)) ≡ 2 → (f ≡ documents.Memory → ⊥) × (refused f ≡ Document f)
refused_is documents.Memory two = absurd (omega (arith, two))
refused_is f two = (λ same. cc, refl)
