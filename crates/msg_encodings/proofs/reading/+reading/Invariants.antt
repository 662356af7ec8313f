use Rattle.std.proofs.Common.{◌≡◌, ◌+◌, ◌*◌, ◌<◌, ◌≤◌, length}
use Rattle.std.specs.Prelude.{suc}
use Rattle.msg_encodings.specs.Reading.{first, fields, members}
use Rattle.msg_encodings.specs.declared.letters.TheConstants.{LARGEST}
use Rattle.msg_encodings.proofs.reading.+reading.Given as goal

abbrev pub decreases-fields : goal.decreases-fields
decreases-fields l = 3 * l.depth + 1

abbrev pub decreases-behind : goal.decreases-behind
decreases-behind l = 3 * l.depth + 2

abbrev pub decreases-first : goal.decreases-first
decreases-first l = 3 * l.depth

abbrev pub invariant-fields-loop-at : goal.invariant-fields-loop-at
invariant-fields-loop-at l = record {
  some : 0 < l.align;
  most : l.align ≤ LARGEST;
  is : fields (first l.depth) l.close (suc (length l.rest)) l.end l.align l.rest ≡ members (first l.depth) l.close l.text;
}

abbrev pub decreases-fields-loop-at : goal.decreases-fields-loop-at
decreases-fields-loop-at l = length l.rest
