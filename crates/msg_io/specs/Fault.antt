-- Which fault ends a run.
use Rattle.msg_form.specs.declared.faults.DocumentFault.{DocumentFault}
use Rattle.msg_form.specs.declared.faults.DocumentFault.TheVariants.{Memory, Limit}
use Rattle.msg_io.specs.declared.fault.RunFault.{RunFault}
use Rattle.msg_io.specs.declared.fault.RunFault.TheVariants as faults
use Rattle.msg_io.specs.declared.reading.ReadFault.{ReadFault}
use Rattle.msg_io.specs.declared.reading.ReadFault.TheVariants as reading

-- the fault of a run whose document was refused
abbrev pub refused : DocumentFault → RunFault
refused Memory = faults.Memory
refused f = faults.Document f

-- the fault of a run whose source was not read
abbrev pub unread : ReadFault → RunFault
unread reading.Read = faults.Read
unread reading.TooLong = faults.Document Limit
unread reading.Memory = faults.Memory
