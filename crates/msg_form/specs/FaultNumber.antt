-- The numbers and the texts of the document faults.
use Rattle.std.specs.Prelude.{ℕ, codes}
use Rattle.msg_form.specs.Text.{Text}
use Rattle.msg_form.specs.declared.faults.DocumentFault.{DocumentFault}
use Rattle.msg_form.specs.declared.faults.DocumentFault.TheVariants as faults

-- a fault's number and its text
abbrev pub numbered_text : DocumentFault → ℕ × Text
numbered_text faults.NotJson = (1, codes "not json")
numbered_text faults.Shape = (2, codes "shape")
numbered_text faults.Version = (3, codes "version")
numbered_text faults.Limit = (4, codes "limit")
numbered_text faults.DuplicateClass = (5, codes "duplicate class")
numbered_text faults.UnknownSuperclass = (6, codes "unknown superclass")
numbered_text faults.UnknownClass = (7, codes "unknown class")
numbered_text faults.DuplicateObject = (8, codes "duplicate object")
numbered_text faults.UnknownObject = (9, codes "unknown object")
numbered_text faults.DuplicateImp = (10, codes "duplicate implementation")
numbered_text faults.UnknownImp = (11, codes "unknown implementation")
numbered_text faults.BadSelector = (12, codes "bad selector")
numbered_text faults.DuplicateSelector = (13, codes "duplicate selector")
numbered_text faults.ArgumentCount = (14, codes "argument count")
numbered_text faults.ArgumentIndex = (15, codes "argument index")
numbered_text faults.BodyTooDeep = (16, codes "body too deep")
numbered_text faults.Memory = (17, codes "out of memory")
numbered_text faults.ClassCycle = (18, codes "class cycle")

-- the number of a document's fault; the fault with the least number is returned
abbrev pub document_fault_number : DocumentFault → ℕ
document_fault_number f = (numbered_text f).0

-- the text of a document's fault
abbrev pub document_fault_text : DocumentFault → Text
document_fault_text f = (numbered_text f).1
