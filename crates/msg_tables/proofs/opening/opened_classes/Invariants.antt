use Rattle.std.proofs.Common.{◌≡◌, ◌++◌, ◌-◌, ℕ, Option, Some, None, length, map, take, replicate}
use Rattle.msg_tables.specs.declared.presence.Presence.{Presence}
use Rattle.msg_tables.proofs.opening.opened_classes.Given as goal

abbrev listed : Option ℕ → Option Presence
listed d = Some (record { superclass = d })

abbrev pub invariant-loop-class : goal.invariant-loop-class
invariant-loop-class l = l.supers.items ≡ take l.class (map listed l.origin.superclasses)

abbrev pub invariant-loop-made : goal.invariant-loop-made
invariant-loop-made l = l.supers.items ≡ map listed l.origin.superclasses ++ replicate (l._made - length l.origin.superclasses) None
