-- One part of a send after another.
use Rattle.std.proofs.Common.{ℕ}
use Rattle.std.specs.Prelude.{Result, Err}
use Rattle.msg_eval.specs.declared.reply.SendFault.{SendFault}
use Rattle.msg_eval.specs.Finder.{Steps}
use Rattle.msg_eval.specs.Meaning.{Meaning, fault, go_on}
use Rattle.msg_eval.specs.Step.{Gives, ComesTo}

module _ {P : Type 0} (step : Steps P) where
  -- what a part comes to gives a result
  pub then_gives : {A : Type 0} (is_in later : P → Type 0) (p : P) (whole part : (A → ℕ → Meaning) → Meaning) (r : Result A SendFault) (m : ℕ) → ComesTo step is_in p whole part → ((q : P) → is_in q → Gives step later q part r m) → Gives step later p whole r m
  then_gives {A} is_in later p whole part r m first second =
      let next = second first.state first.there in
      record { state = next.state; there = next.there; follows = λ k g w x. first.follows k g w (next.follows k g w x) }

  -- what a part comes to begins with another part, which gives a result
  pub then_part : {A B : Type 0} (is_in later : P → Type 0) (p : P) (whole : (A → ℕ → Meaning) → Meaning) (part : (B → ℕ → Meaning) → Meaning) (rest : B → ℕ → (A → ℕ → Meaning) → Meaning) (r : Result B SendFault) (m : ℕ) → ComesTo step is_in p whole (λ k. part (λ v n. rest v n k)) → ((q : P) → is_in q → Gives step later q part r m) → ComesTo step later p whole (λ k. go_on r m (λ v n. rest v n k))
  then_part {A} {B} is_in later p whole part rest r m first second =
      let next = second first.state first.there in
      record { state = next.state; there = next.there; follows = λ k g w x. first.follows k g w (next.follows (λ v n. rest v n k) g w x) }

  -- a part that comes to a fault gives it
  pub gives_fault : {A : Type 0} (is_in : P → Type 0) (p : P) (whole : (A → ℕ → Meaning) → Meaning) (f : SendFault) (m : ℕ) → ComesTo {A = A} step is_in p whole (λ k. fault f) → Gives step is_in p whole (Err f) m
  gives_fault {A} is_in p whole f m first = record { state = first.state; there = first.there; follows = first.follows }
