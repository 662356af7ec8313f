-- the class above is present, and earlier in the order
use Rattle.std.proofs.Common.{◌≡◌, None, ap, sym, ◌∙◌}
use Rattle.std.specs.Option.{option_map_or}
use Rattle.msg_names.specs.ClassRef.{above}
use Rattle.msg_tables.specs.declared.presence.Presence.{Presence}
use Rattle.msg_tables.specs.Chain.{super_of}
use Rattle.msg_tables.proofs.OrderLemmas.{read-presence, above-listed, above-fewer}
use Rattle.msg_tables.proofs.tables.Tables.above.Goals as goal

value : (c : goal.After-above) → c.above.result ≡ super_of c.self.inside.supers.items c.args.class
value c =
    let inside = rw (← c.self.view_is) at c.requires in
    let read = read-presence c.self.inside.supers.items c.args.class.class c.index.result.now inside c.index.ensures in
    c.above.ensures ∙ ap (λ o. option_map_or (λ (p : Presence). above c.args.class p.superclass) o None) (sym c.in_ok-presence.was ∙ read)

pub returns-clause-listed : goal.returns-clause-listed
returns-clause-listed c =
    rw (← c.self.view_is) (above-listed c.self.inside.supers.items c.self.inside.order.items c.self.invariant.order c.args.class c.above.result (value c))

pub returns-clause-fewer : goal.returns-clause-fewer
returns-clause-fewer c =
    rw (← c.self.view_is) (above-fewer c.self.inside.supers.items c.self.inside.order.items c.self.invariant.order c.args.class c.above.result (value c))
