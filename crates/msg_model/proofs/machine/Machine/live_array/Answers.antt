-- a live array is one of the machine's
use Rattle.std.proofs.Common.{◌<◌, sym, subst}
use Rattle.msg_tables.specs.Origin.{class_total}
use Rattle.msg_model.proofs.WholeLemmas.{listed, header_read}
use Rattle.msg_model.proofs.machine.Machine.live_array.Goals as goal

pub returns-clause-listed : goal.returns-clause-listed
returns-clause-listed c =
    rw (← c.self.view_is) (listed _ c.self.invariant.whole c.args.class c.index.result.now
    (header_read _ c.self.invariant.whole c.args.class c.slot.result c.index.result.now (subst (λ v. c.args.class.class < class_total v.history.origin) (sym c.self.view_is) c.requires) c.slot.ensures c.index.ensures))
