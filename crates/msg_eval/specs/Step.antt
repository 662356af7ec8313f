-- What a part of a send comes to.
use Rattle.std.specs.Prelude.{◌≡◌, ℕ, Result, Ok, Err}
use Rattle.msg_names.specs.Number.{imp_number}
use Rattle.msg_names.specs.declared.value.ImpRef.{ImpRef}
use Rattle.msg_eval.specs.declared.reply.Reply.{Reply}
use Rattle.msg_eval.specs.declared.reply.SendFault.{SendFault}
use Rattle.msg_eval.specs.Finder.{Steps}
use Rattle.msg_eval.specs.Meaning.{Meaning, Ends, Asks, go_on}

-- from p the send ends with the reply at q, with a step for each of its lookups
abbrev pub Leads : {P : Type 0} → Steps P → Meaning → P → P → Reply → Type 0
Leads step (Ends r) p q reply = (r ≡ reply) × (p ≡ q)
Leads {P} step (Asks c s go) p q reply = (next : P) × (i : ℕ) × step p c s i next × Leads step (go i) next q reply

-- From p a part of a send comes to this result, with this number of lookups left, in a state that
-- the finder is then in: what follows the result there leads to the reply of the whole.
pub record Gives {P A : Type 0} (step : Steps P) (is_in : P → Type 0) (p : P) (part : (A → ℕ → Meaning) → Meaning) (result : Result A SendFault) (left : ℕ) : Type 0 where
  pub state : P
  pub there : is_in state
  pub follows : (k : A → ℕ → Meaning) (q : P) (reply : Reply) → Leads step (go_on result left k) state q reply → Leads step (part k) p q reply

-- From each state that the finder was in, a part of a send comes to this result in a state that it
-- is then in, with this number of lookups left.
abbrev pub Means : {F P A : Type 0} → Steps P → (F → P → Type 0) → F → F → ((A → ℕ → Meaning) → Meaning) → Result A SendFault → ℕ → Type 0
Means {F} {P} {A} step is_in old new part result left = (p : P) → is_in old p → Gives step (is_in new) p part result left

-- the result with this in place of its value
abbrev pub with_ok : {A B : Type 0} → A → Result B SendFault → Result A SendFault
with_ok x (Ok u) = Ok x
with_ok x (Err f) = Err f

-- what was found, by its number
abbrev pub numbered : Result ImpRef SendFault → Result ℕ SendFault
numbered (Ok i) = Ok (imp_number i)
numbered (Err f) = Err f

-- From p a part of a send comes to another part, in a state that the finder is then in: what leads
-- from there to a reply leads the whole to it.
pub record ComesTo {P A : Type 0} (step : Steps P) (is_in : P → Type 0) (p : P) (part later : (A → ℕ → Meaning) → Meaning) : Type 0 where
  pub state : P
  pub there : is_in state
  pub follows : (k : A → ℕ → Meaning) (q : P) (reply : Reply) → Leads step (later k) state q reply → Leads step (part k) p q reply

-- from p the send ends with the reply, in a state that the finder is in
pub record RepliesFrom {P : Type 0} (step : Steps P) (is_in : P → Type 0) (p : P) (send : Meaning) (reply : Reply) : Type 0 where
  pub state : P
  pub there : is_in state
  pub leads : Leads step send p state reply

-- the same from each state that the finder was in
abbrev pub Replies : {F P : Type 0} → Steps P → (F → P → Type 0) → F → F → Meaning → Reply → Type 0
Replies {F} {P} step is_in old new send reply = (p : P) → is_in old p → RepliesFrom step (is_in new) p send reply
