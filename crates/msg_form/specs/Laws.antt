-- Laws of the faults of documents.
use Rattle.std.specs.Prelude.{◌≡◌, ◌≤◌, ◌∷◌, [], map, Contains, Some, true}
use Rattle.msg_form.specs.FaultNumber.{document_fault_number}
use Rattle.msg_form.specs.Faults.{Condition, conditions, fault_of}
use Rattle.msg_form.specs.Form.{Form}
use Rattle.msg_form.specs.declared.faults.DocumentFault.{DocumentFault}

-- the conditions that are judged on a form are in the order of their faults' numbers: all but those
-- of the text, and of a lack of memory
abbrev pub ConditionsAreInOrder : Type 0
ConditionsAreInOrder = map (λ c. document_fault_number c.0) conditions ≡ 3 ∷ 4 ∷ 5 ∷ 6 ∷ 7 ∷ 8 ∷ 9 ∷ 10 ∷ 11 ∷ 12 ∷ 13 ∷ 14 ∷ 15 ∷ 16 ∷ 18 ∷ []

-- the fault that is returned has the least number of those whose conditions the form meets
abbrev pub LeastFaultIsTold : Type 0
LeastFaultIsTold = (f : Form) (told : DocumentFault) (c : Condition) → fault_of f ≡ Some told → Contains conditions c → c.1 f ≡ true
    → document_fault_number told ≤ document_fault_number c.0
