-- What a program does.
use Rattle.std.specs.Prelude.{◌≡◌, ◌≢◌, ◌↔◌, ◌⊎◌, ℕ, Bool, false, List, Option, Some, None, Err, IfSome}
use Rattle.msg_form.specs.declared.faults.DocumentFault.{DocumentFault}
use Rattle.msg_image.specs.Answer.{IsAnswer}
use Rattle.msg_io.specs.Complaint.{complaint_line, status_of}
use Rattle.msg_io.specs.Writing.{AppendsStart, Starts, Writes}
use Rattle.msg_io.specs.declared.fault.RunFault.{RunFault}
use Rattle.msg_io.specs.declared.fault.RunFault.TheVariants as faults
use Rattle.msg_runner.specs.Outcome.{Puts, Wrote}
use Rattle.msg_runner.specs.declared.changes.Changes.{Changes}
use Rattle.msg_runner.specs.declared.changes.Changes.TheVariants.{Between, Beside}
use Rattle.msg_io.specs.declared.complaint.Program.{Program}
use Rattle.msg_io.specs.declared.complaint.Program.TheVariants.{Msgrun, Msgbeside}

-- when a program makes the changes
abbrev pub changes_of : Program → Changes
changes_of Msgrun = Between
changes_of Msgbeside = Beside

-- the bytes spell a document, and the lines of a run of the program were put into a sink, by as
-- many workers and with the cut that were asked for
abbrev pub WroteAsked : Puts → Program → Option (ℕ × ℕ) → Option (List ℕ) → Option (List ℕ) → List ℕ → Type 0
WroteAsked puts p None old new bytes = ⊥
WroteAsked puts p (Some asked) old new bytes =
    Wrote puts (changes_of p) asked.0 asked.1 old new bytes

-- A program ended with this fault, or with None for wrong use. `asked` is what its words ask for,
-- `known` what its source had, and `old` and `new` are what its sink held before and holds now.
pub record EndedWith (p : Program) (asked : Option (ℕ × ℕ)) (known old new : Option (List ℕ)) (fault : Option RunFault) : Type 0 where
  pub misuse : (fault ≡ None) ↔ (asked ≡ None)
  pub document : (f : DocumentFault) → fault ≡ Some (faults.Document f) → IfSome known (λ bytes. IsAnswer bytes (Err f))
  pub nothing : fault ≢ Some faults.Write → new ≡ old
  pub start : fault ≡ Some faults.Write → IfSome known (WroteAsked AppendsStart p asked old new)

-- the line of a fault was written to a sink, whole where no write failed, and else a front of it
pub record Complains {S : Type 0} (contents : S → Option (List ℕ)) (mark : S → Bool) (old new : S) (p : Program) (fault : Option RunFault) : Type 0 where
  pub line : mark new ≡ false → Writes contents old new (complaint_line p fault)
  pub start : Writes contents old new (complaint_line p fault) ⊎ Starts contents old new (complaint_line p fault)

-- a program ended with a fault, which gives the status and the line
abbrev pub EndsWith : {S : Type 0} → (S → Option (List ℕ)) → (S → Bool) → S → S → Program → Option (ℕ × ℕ) → Option (List ℕ) → Option (List ℕ) → Option (List ℕ) → ℕ → Type 0
EndsWith contents mark before after p asked known old new status =
    (fault : Option RunFault) × (status ≡ status_of fault) × EndedWith p asked known old new fault × Complains contents mark before after p fault
