use Rattle.std.proofs.Common.{ap, sym, ◌∙◌}
use Rattle.std.specs.Prelude.{is_some}
use Rattle.msg_tables.proofs.OrderLemmas.{read-presence, steps_suffice}
use Rattle.msg_tables.proofs.tables.Tables.present.Goals as goal

pub returns-in-Some-clause-enough : goal.returns-in-Some-clause-enough
returns-in-Some-clause-enough c =
    let inside = rw (← c.self.view_is) at c.requires in
    let read = read-presence c.self.inside.supers.items c.args.class.class c.index.result.now inside c.index.ensures in
    rw (← c.self.view_is) (steps_suffice c.self.inside.supers.items c.self.inside.order.items c.self.invariant.order c.args.class (ap is_some (sym read ∙ c.in-Some.is)))
