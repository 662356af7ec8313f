use Rattle.std.proofs.Common.{subst, sym}
use Rattle.msg_reader.specs.Notes.{AreNotesOf}
use Rattle.msg_dispatch.proofs.caching_sender.CachingSender.new.Goals as goal

pub invariant_of-result : goal.invariant_of-result
invariant_of-result g c = subst (AreNotesOf c.args.sender.seen.front) (sym c.in-Ok.ensures.ok) (c.new.ensures.notes c.args.sender.seen.front)
