-- The result of a reader, compared with the definitions.
use Rattle.std.specs.Prelude.{◌≡◌, List, Option, Some, None, Result, Ok, Err, Vec, map}
use Rattle.std.specs.Global.{Global}
use Rattle.msg_form.specs.declared.faults.ReadFault.{ReadFault}
use Rattle.msg_form.specs.declared.faults.ReadFault.TheVariants as faults

-- the fault is Memory, or the value spells nothing
abbrev pub Fails : {Y : Type 0} → ReadFault → Option Y → Type 0
Fails faults.Memory spelled = Unit {0}
Fails faults.Shape spelled = spelled ≡ None

-- the result, seen through view, is what the value spells
abbrev pub Gives : {X Y : Type 0} → (X → Y) → Result X ReadFault → Option Y → Type 0
Gives view (Ok x) spelled = spelled ≡ Some (view x)
Gives view (Err e) spelled = Fails e spelled

-- the elements of the result, seen through view, are what the value spells
abbrev pub GivesAll : {X Y : Type 0} → (X → Y) → Result (Vec X Global) ReadFault → Option (List Y) → Type 0
GivesAll view result spelled = Gives (λ v. map view v.items) result spelled
