use Rattle.std.proofs.Common.{◌≡◌, ◌≤◌, length}
use Rattle.msg_encodings.specs.Texts.{number_behind, past_number}
use Rattle.msg_encodings.specs.declared.letters.TheConstants.{LARGEST}
use Rattle.msg_encodings.proofs.texts.number.Given as goal

abbrev pub invariant-loop-rest : goal.invariant-loop-rest
invariant-loop-rest l = record {
  value : number_behind l.value l.rest ≡ number_behind 0 l.text;
  rest : past_number l.rest ≡ past_number l.text;
  most : l.value ≤ LARGEST;
}

abbrev pub decreases-loop-rest : goal.decreases-loop-rest
decreases-loop-rest l = length l.rest
