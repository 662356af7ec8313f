-- What a send means, before anything is looked up.
use Rattle.std.specs.Prelude.{ℕ, zero, suc, List, Result, Ok, Err}
use Rattle.msg_names.specs.declared.value.ClassRef.{ClassRef}
use Rattle.msg_names.specs.declared.value.Value.{Value}
use Rattle.msg_eval.specs.declared.reply.Reply.{Reply}
use Rattle.msg_eval.specs.declared.reply.Reply.TheVariants as replies
use Rattle.msg_eval.specs.declared.reply.SendFault.{SendFault}
use Rattle.msg_eval.specs.declared.reply.SendFault.TheVariants.{Budget}

-- A send ends with a reply, or asks for a lookup of a selector in a class and goes on with the
-- answer: an implementation by its number, or 0 for forwarding.
pub data Meaning : Type 0 where
  Ends : Reply → Meaning
  Asks : ClassRef → ℕ → (ℕ → Meaning) → Meaning

-- what follows a value, where this number of lookups are left
abbrev pub Rest : Type 0
Rest = Value → ℕ → Meaning

-- what the body of an implementation does for a receiver and arguments, where this number of
-- lookups are left, and what follows its value
abbrev pub Bodies : Type 0
Bodies = ℕ → Value → List Value → ℕ → Rest → Meaning

-- a fault ends the whole send
abbrev pub fault : SendFault → Meaning
fault f = Ends (replies.Fault f)

-- goes on with what was found, or ends with the fault
abbrev pub go_on : {A : Type 0} → Result A SendFault → ℕ → (A → ℕ → Meaning) → Meaning
go_on (Ok v) n k = k v n
go_on (Err f) n k = fault f

-- a lookup: one less is left then, and where none was left the send ends
abbrev pub ask : ClassRef → ℕ → ℕ → (ℕ → ℕ → Meaning) → Meaning
ask c s zero k = fault Budget
ask c s (suc n) k = Asks c s (λ i. k i n)
