-- Class references: a class, or its metaclass.
use Rattle.std.specs.Prelude.{ℕ, ◌+◌, ◌*◌, ◌==◌, ◌&&◌, Bool, true, false, Option, Some, None, if◌then◌else◌}
use Rattle.msg_names.specs.declared.value.ClassRef.{ClassRef}

-- whether two truth values are equal
abbrev pub same_truth : Bool → Bool → Bool
same_truth true b = b
same_truth false true = false
same_truth false false = true

-- whether two class references are equal
abbrev pub same_class : ClassRef → ClassRef → Bool
same_class c d = (c.class == d.class) && same_truth c.meta d.meta

-- the index in the list of all class references, in which each class comes before its metaclass
abbrev pub slot_of : ClassRef → ℕ
slot_of c = 2 * c.class + (if c.meta then 1 else 0)

-- the root class itself is above its metaclass, and nothing is above a root class
abbrev pub root_above : ℕ → Bool → Option ClassRef
root_above k true = Some (record { class = k; meta = false })
root_above k false = None

-- What is above a class reference whose class has this superclass: the superclass, or its metaclass
-- (Objective-C Runtime Reference).
abbrev pub above : ClassRef → Option ℕ → Option ClassRef
above c (Some d) = Some (record { class = d; meta = c.meta })
above c None = root_above c.class c.meta
