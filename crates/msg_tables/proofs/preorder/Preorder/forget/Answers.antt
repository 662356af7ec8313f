use Rattle.std.proofs.Common.{◌≡◌, true, None, slice_set, sym, subst}
use Rattle.std.specs.Prelude.{IfSome}
use Rattle.msg_tables.specs.Chain.{is_present}
use Rattle.msg_tables.specs.Preorder.{HavePreorder}
use Rattle.msg_tables.proofs.LeaveLemmas.{preorder-left}
use Rattle.msg_tables.proofs.preorder.Preorder.forget.Goals as goal

pub returns-else-not-leave : goal.returns-else-not-leave
returns-else-not-leave c =
    let w = c.requires.was in
    let l = c.leave.ensures.left c.if-not-leave.false in
    let depths = c.args.self.now.depths in
    let nexts = c.args.self.now.nexts in
    let above = subst (λ o. IfSome o (λ d. is_present w.was d ≡ true)) l.is w.above in
    let left = preorder-left w.was depths nexts w.order c.args.class l.above w.here above w.leaf l.first in
    let without = slice_set w.was c.args.class None in
    subst (λ ss. HavePreorder ss c.leave.new.self.depths c.leave.new.self.nexts) (sym w.is)
    (subst (λ ds. HavePreorder without ds c.leave.new.self.nexts) (sym c.leave.ensures.depths) (subst (HavePreorder without depths) (sym l.rest) left))
