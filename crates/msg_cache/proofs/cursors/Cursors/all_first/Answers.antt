use Rattle.std.proofs.Common.{◌≡◌, ℕ, List, replicate, ap, ◌∙◌, rules}
use Rattle.msg_cache.specs.Cursors.{every_cursor}
use Rattle.msg_cache.proofs.EveryCursor.{cursors_first}
use Rattle.msg_cache.proofs.cursors.Cursors.all_first.Goals as goal

pub returns : goal.returns
returns c =
    let zeros : c.in_ok-own.own.items ≡ replicate c.args.senders 0 = search rules in
    ap (λ (l : List ℕ). every_cursor l 0 0) zeros ∙ cursors_first c.args.senders
