use Rattle.std.proofs.Common.{◌≡◌, ◌<◌, ℕ, List, [], ◌∷◌, length, false, ap, arith, rules}
use Rattle.msg_encodings.specs.Members.{stops}
use Rattle.msg_encodings.specs.declared.letters.TheConstants.{DEEPEST}
use Rattle.msg_encodings.proofs.Shorter.{first-shortens, past_name-le}
use Rattle.msg_encodings.proofs.types.next_member.Goals as goal

some : (text : List ℕ) → stops text ≡ false → 0 < length text
some [] e = cc
some (x ∷ xs) e = omega arith

pub overflow_sub-result : goal.overflow_sub-result
overflow_sub-result c = omega (arith, past_name-le c.args.text.now, ap length c.past_name-at.ensures)

pub overflow_sub-result-2 : goal.overflow_sub-result-2
overflow_sub-result-2 c = omega (arith, past_name-le c.args.text.now, ap length c.past_name-at.ensures, first-shortens DEEPEST c.past_name-at.result.now, ap length c.first.ensures.rest)

pub returns-clause-goes_on : goal.returns-clause-goes_on
returns-clause-goes_on c =
    let stands : stops c.past_name-at.result.now ≡ false = search rules in
    omega (arith, some c.past_name-at.result.now stands, past_name-le c.args.text.now, ap length c.past_name-at.ensures, first-shortens DEEPEST c.past_name-at.result.now, ap length c.first.ensures.rest)
