use Rattle.std.proofs.Common.{◌≡◌, ◌∙◌, ap, length, sym, arith}
use Rattle.msg_tables.specs.History.{History, log}
use Rattle.msg_eval.specs.Points.{last_of}
use Rattle.msg_eval.proofs.PointLemmas.{plain_like, all_like, points_of}
use Rattle.msg_eval.proofs.laws.tables_reply_plainly.Goals as goal

pub returns : goal.returns
returns c = λ tables h send reply is_in from.
    let x = points_of send h from.state reply from.leads in
    let same : length (log (last_of h x.points)).changes ≡ length (log h).changes =
    ap (λ (p : History). length (log p).changes) (sym x.last) ∙ sym from.there.changes ∙ is_in.changes in
    plain_like h send x.points reply (all_like h x.points x.rise (omega (arith, same))) x.ends
