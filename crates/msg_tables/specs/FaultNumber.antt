-- The numbers of the change faults.
use Rattle.std.specs.Prelude.{ℕ}
use Rattle.msg_tables.specs.declared.fault.ChangeFault.{ChangeFault}
use Rattle.msg_tables.specs.declared.fault.ChangeFault.TheVariants as faults

-- the number of a change's fault
abbrev pub change_fault_number : ChangeFault → ℕ
change_fault_number faults.NoClass = 1
change_fault_number faults.NoImp = 2
change_fault_number faults.ArgumentCount = 3
change_fault_number faults.MethodPresent = 4
change_fault_number faults.NoMethod = 5
change_fault_number faults.Limit = 6
change_fault_number faults.Memory = 7
change_fault_number faults.DuplicateClass = 8
change_fault_number faults.ClassInUse = 9
