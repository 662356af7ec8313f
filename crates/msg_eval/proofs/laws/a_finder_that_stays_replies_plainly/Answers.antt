use Rattle.std.proofs.Common.{◌≡◌, length, ap, arith}
use Rattle.msg_eval.specs.Points.{last_of}
use Rattle.msg_eval.proofs.PointLemmas.{all_one, plain_only}
use Rattle.msg_eval.proofs.laws.a_finder_that_stays_replies_plainly.Goals as goal

pub returns : goal.returns
returns c = λ h send points reply rise back ends.
    let same : length (last_of h points).changes ≡ length h.changes = ap (λ p. length p.changes) back in
    plain_only h send points reply (all_one h points rise (omega (arith, same))) ends
