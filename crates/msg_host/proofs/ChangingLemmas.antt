-- Which fault of changes has the number of a lack of memory.
use Rattle.std.proofs.Common.{◌≡◌, refl, arith}
use Rattle.msg_tables.specs.FaultNumber.{change_fault_number}
use Rattle.msg_tables.specs.declared.fault.ChangeFault.{ChangeFault}
use Rattle.msg_tables.specs.declared.fault.ChangeFault.TheVariants as faults
use Rattle.msg_host.specs.Asking.{want_of_memory}

-- only lack of memory
pub memory_of_number : (f : ChangeFault) → change_fault_number f ≡ want_of_memory → f ≡ faults.Memory
memory_of_number faults.NoClass e = absurd (omega arith)
memory_of_number faults.NoImp e = absurd (omega arith)
memory_of_number faults.ArgumentCount e = absurd (omega arith)
memory_of_number faults.MethodPresent e = absurd (omega arith)
memory_of_number faults.NoMethod e = absurd (omega arith)
memory_of_number faults.Limit e = absurd (omega arith)
memory_of_number faults.Memory e = refl
memory_of_number faults.DuplicateClass e = absurd (omega arith)
memory_of_number faults.ClassInUse e = absurd (omega arith)
