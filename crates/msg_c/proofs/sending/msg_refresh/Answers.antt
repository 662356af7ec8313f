use Rattle.msg_c.proofs.NoteLemmas.{notes_on}
use Rattle.msg_c.proofs.sending.msg_refresh.Goals as goal

pub invariant_of-sender-clause-noted : goal.invariant_of-sender-clause-noted
invariant_of-sender-clause-noted c =
    notes_on c.args.sender.now.held.state c.put.new.self.state c.take-asker.result.value c.deref_mut.result.now c.refresh.new.self c.args.sender.now.notes c.notes_are_of_longer_histories.ensures
    c.args.sender.now.noted c.take-asker.ensures.taken c.deref_mut.ensures.value c.refresh.ensures.arena c.refresh.ensures.begins c.put.ensures
