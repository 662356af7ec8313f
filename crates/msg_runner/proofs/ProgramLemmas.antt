-- How programs end.
use Rattle.std.proofs.Common.{◌≡◌, ◌∷◌, ℕ, List, [], Option, Some, None, refl}
use Rattle.std.specs.Prelude.{IfSome}
use Rattle.msg_io.specs.CommandLine.{arguments_of}
use Rattle.msg_io.specs.declared.complaint.Program.{Program}
use Rattle.msg_io.specs.declared.fault.RunFault.{RunFault}
use Rattle.msg_io.specs.declared.fault.RunFault.TheVariants as faults
use Rattle.msg_runner.specs.Program.{EndedWith}

wrong_use : (p : Program) (known old : Option (List ℕ)) → EndedWith p None known old old None
wrong_use p known old = record {
  misuse = ((λ is. refl), (λ is. refl));
  document = λ f is. absurd (cc is);
  nothing = λ other. refl;
  start = λ is. absurd (cc is);
}

no_memory : (p : Program) (asked : ℕ × ℕ) (known old : Option (List ℕ)) → EndedWith p (Some asked) known old old (Some faults.Memory)
no_memory p asked known old = record {
  misuse = ((λ is. absurd (cc is)), (λ is. absurd (cc is)));
  document = λ f is. absurd (cc is);
  nothing = λ other. refl;
  start = λ is. absurd (cc is);
}

-- the words of a program couldn't be had
pub no_words : (p : Program) (known old : Option (List ℕ)) (fault : Option RunFault) → IfSome fault (λ f. f ≡ faults.Memory)
    → (words : List (List ℕ)) × EndedWith p (arguments_of words) known old old fault
no_words p known old None memory = ([] ∷ [] ∷ [] ∷ [], wrong_use p known old)
no_words p known old (Some faults.Memory) memory = ([], no_memory p (1, 64) known old)
no_words p known old (Some faults.Read) memory = absurd (cc memory)
no_words p known old (Some faults.Write) memory = absurd (cc memory)
no_words p known old (Some faults.Workers) memory = absurd (cc memory)
no_words p known old (Some faults.Cut) memory = absurd (cc memory)
no_words p known old (Some (faults.Document f)) memory = absurd (cc memory)
