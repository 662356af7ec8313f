-- What is wrong with a document whose value was not read.
use Rattle.msg_form.specs.declared.faults.DocumentFault.{DocumentFault}
use Rattle.msg_form.specs.declared.faults.DocumentFault.TheVariants as faults
use Rattle.msg_form.specs.declared.faults.ReadFault.{ReadFault}
use Rattle.msg_form.specs.declared.faults.ReadFault.TheVariants.{Shape, Memory}

-- the document's fault if its form could not be read
abbrev pub unread : ReadFault → DocumentFault
unread Shape = faults.Shape
unread Memory = faults.Memory
