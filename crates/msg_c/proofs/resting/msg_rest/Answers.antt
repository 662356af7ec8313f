use Rattle.std.proofs.Common.{sym, subst}
use Rattle.msg_tables.specs.History.{BeginsWith}
use Rattle.msg_c.proofs.NoteLemmas.{notes_on}
use Rattle.msg_c.proofs.resting.msg_rest.Goals as goal

pub invariant_of-sender-clause-noted : goal.invariant_of-sender-clause-noted
invariant_of-sender-clause-noted c =
    let begins = subst (λ g. BeginsWith g c.deref_mut-2.result.now.seen.front) (sym c.rest.ensures.front) c.rest.ensures.begins in
    notes_on c.args.sender.now.held.state c.put.new.self.state c.take-asker.result.value c.deref_mut-2.result.now c.rest.new.sender c.args.sender.now.notes c.notes_are_of_longer_histories.ensures
    c.args.sender.now.noted c.take-asker.ensures.taken c.deref_mut-2.ensures.value c.rest.ensures.arena begins c.put.ensures
