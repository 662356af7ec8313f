-- an array is live for one of the classes
use Rattle.std.proofs.Common.{◌<◌, length, map, subst, sym}
use Rattle.msg_model.proofs.WholeLemmas.{live_listed, standing_read}
use Rattle.msg_model.proofs.machine.Machine.standing.Goals as goal

pub returns-clause-listed : goal.returns-clause-listed
returns-clause-listed c =
    rw (← c.self.view_is) (live_listed _ c.self.invariant.whole c.args.array c.index.result.now
    (standing_read _ c.self.invariant.whole c.args.array c.index.result.now (subst (λ v. c.args.array < length (map length v.arrays)) (sym c.self.view_is) c.requires) c.index.ensures))
