-- The numbers of the machine's faults.
use Rattle.std.specs.Prelude.{ℕ}
use Rattle.msg_model.specs.declared.fault.EventFault.{EventFault}
use Rattle.msg_model.specs.declared.fault.EventFault.TheVariants as faults

-- the numbers of the faults of events
abbrev pub event_fault_number : EventFault → ℕ
event_fault_number faults.NoSender = 1
event_fault_number faults.NoClass = 2
event_fault_number faults.NoArray = 3
event_fault_number faults.NotOut = 4
event_fault_number faults.NotIn = 5
event_fault_number faults.NotHolding = 6
event_fault_number faults.NotLive = 7
event_fault_number faults.NoPlace = 8
event_fault_number faults.NotFree = 9
event_fault_number faults.NotEmpty = 10
event_fault_number (faults.Refused fault) = 11
event_fault_number faults.Disagrees = 12
event_fault_number faults.Memory = 13
