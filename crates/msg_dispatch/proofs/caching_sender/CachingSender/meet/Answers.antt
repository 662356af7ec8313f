use Rattle.std.proofs.Common.{sym, subst}
use Rattle.msg_tables.specs.History.{BeginsWith}
use Rattle.msg_dispatch.proofs.caching_sender.CachingSender.meet.Goals as goal

pub invariant_of-self : goal.invariant_of-self
invariant_of-self g c =
    let begins = subst (λ h. BeginsWith h c.self.inside.sender.seen.front) (sym c.meet.ensures.seen) c.meet.ensures.begins in
    c.notes_are_of_longer_histories.ensures c.meet.new.sender.seen.front c.self.inside.sender.seen.front c.self.inside.notes.value begins c.self.invariant
