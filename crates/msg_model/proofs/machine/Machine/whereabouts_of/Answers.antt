-- a sender holds one of the arrays
use Rattle.std.proofs.Common.{◌<◌, length, subst, sym}
use Rattle.msg_model.proofs.WholeLemmas.{held_listed, sender_read}
use Rattle.msg_model.proofs.machine.Machine.whereabouts_of.Goals as goal

pub returns-clause-listed : goal.returns-clause-listed
returns-clause-listed c =
    rw (← c.self.view_is) (held_listed _ c.self.invariant.whole c.args.sender c.index.result.now
    (sender_read c.self.inside.whereabouts.items c.args.sender c.index.result.now (subst (λ v. c.args.sender < length v.whereabouts) (sym c.self.view_is) c.requires) c.index.ensures))
