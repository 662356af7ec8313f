-- the class is one of the tables
use Rattle.std.proofs.Common.{◌<◌, subst, sym}
use Rattle.msg_tables.specs.Origin.{class_total}
use Rattle.msg_model.proofs.WholeLemmas.{class_listed}
use Rattle.msg_model.proofs.machine.Machine.disagrees.Goals as goal

pub lookup-requires : goal.lookup-requires
lookup-requires c = class_listed _ _ c.self.invariant.tables c.args.class.class (subst (λ v. c.args.class.class < class_total v.history.origin) (sym c.self.view_is) c.requires)
