-- What is said of a fault, and the exit status.
use Rattle.std.specs.Prelude.{ℕ, List, ◌++◌, Bool, true, false, if◌then◌else◌, Option, Some, None, codes}
use Rattle.std.specs.Borrow.{Bor}
use Rattle.std.specs.Option.{option_copied}
use Rattle.msg_form.specs.FaultNumber.{document_fault_number, document_fault_text}
use Rattle.msg_form.specs.declared.faults.DocumentFault.{DocumentFault}
use Rattle.msg_form.specs.declared.faults.DocumentFault.TheVariants as documents
use Rattle.msg_io.specs.Decimal.{digits}
use Rattle.msg_io.specs.Writing.{Writes, Starts}
use Rattle.msg_io.specs.declared.complaint.Program.{Program}
use Rattle.msg_io.specs.declared.complaint.Program.TheVariants.{Msgrun, Msgbeside}
use Rattle.msg_io.specs.declared.fault.RunFault.{RunFault}
use Rattle.msg_io.specs.declared.fault.RunFault.TheVariants as faults

abbrev pub program_name : Program → List ℕ
program_name Msgrun = codes "msgrun"
program_name Msgbeside = codes "msgbeside"

abbrev pub usage_line : Program → List ℕ
usage_line p = codes "usage: " ++ program_name p ++ codes " [workers [cut]]\n"

-- lack of memory, which is no fault of the document
abbrev pub wants_memory : DocumentFault → Bool
wants_memory documents.Memory = true
wants_memory f = false

-- what is said of a document's fault: its number and its text
abbrev pub fault_line : DocumentFault → List ℕ
fault_line f = (codes "document fault " ++ digits (document_fault_number f)) ++ ((codes ": " ++ document_fault_text f) ++ codes "\n")

abbrev pub document_line : DocumentFault → List ℕ
document_line f = if wants_memory f then codes "out of memory\n" else fault_line f

-- what is said of a fault
abbrev pub run_fault_line : RunFault → List ℕ
run_fault_line faults.Read = codes "read failed\n"
run_fault_line (faults.Document f) = document_line f
run_fault_line faults.Memory = codes "out of memory\n"
run_fault_line faults.Write = codes "write failed\n"
run_fault_line faults.Workers = codes "workers must be 1 to 64\n"
run_fault_line faults.Cut = codes "cut must be at least 1\n"

-- what is said, if no fault means wrong use
abbrev pub said_line : Program → Option RunFault → List ℕ
said_line p None = usage_line p
said_line p (Some f) = run_fault_line f

-- the line: the program's name, and what is said
abbrev pub complaint_line : Program → Option RunFault → List ℕ
complaint_line p fault = (program_name p ++ codes ": ") ++ said_line p fault

-- what is said was written to a sink
abbrev pub SaysReason : {S : Type 0} → (S → Option (List ℕ)) → S → S → Program → Option (Bor RunFault) → Type 0
SaysReason contents old new p fault = Writes contents old new (said_line p (option_copied fault))

-- the start of it alone was
abbrev pub StartsReason : {S : Type 0} → (S → Option (List ℕ)) → S → S → Program → Option (Bor RunFault) → Type 0
StartsReason contents old new p fault = Starts contents old new (said_line p (option_copied fault))

-- the whole line was written to a sink
abbrev pub Says : {S : Type 0} → (S → Option (List ℕ)) → S → S → Program → Option (Bor RunFault) → Type 0
Says contents old new p fault = Writes contents old new (complaint_line p (option_copied fault))

-- the start of it alone was
abbrev pub StartsSaying : {S : Type 0} → (S → Option (List ℕ)) → S → S → Program → Option (Bor RunFault) → Type 0
StartsSaying contents old new p fault = Starts contents old new (complaint_line p (option_copied fault))

-- 1 where a device or the memory failed, and 2 where what was asked for can't be done
abbrev pub status_of : Option RunFault → ℕ
status_of None = 2
status_of (Some faults.Read) = 1
status_of (Some (faults.Document f)) = if wants_memory f then 1 else 2
status_of (Some faults.Memory) = 1
status_of (Some faults.Write) = 1
status_of (Some faults.Workers) = 2
status_of (Some faults.Cut) = 2
