use Rattle.msg_dispatch.proofs.caching_sender.CachingSender.refresh.Goals as goal

pub invariant_of-self : goal.invariant_of-self
invariant_of-self g c = c.notes_are_of_longer_histories.ensures c.published.new.self.seen.front c.self.inside.sender.seen.front c.self.inside.notes.value c.published.ensures.begins c.self.invariant
