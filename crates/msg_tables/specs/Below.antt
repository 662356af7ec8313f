-- A class reference and those below it.
use Rattle.std.specs.Prelude.{◌≡◌, ◌&&◌, ℕ, List, Bool, if◌then◌else◌}
use Rattle.msg_names.specs.declared.value.ClassRef.{ClassRef}
use Rattle.msg_tables.specs.Chain.{is_member}
use Rattle.msg_tables.specs.Log.{Log, chain_at}
use Rattle.msg_tables.specs.Preorder.{is_in}
use Rattle.msg_tables.specs.declared.below.Below.TheInside.{Inside}

-- A set of classes, which stands for the classes, for their metaclasses, or for both.
pub record BelowView : Type 0 where
  pub classes : List ℕ
  pub own : Bool
  pub meta : Bool

-- the set has this class reference
abbrev pub covers : BelowView → ClassRef → Bool
covers b c = (if c.meta then b.meta else b.own) && is_in c.class b.classes

-- the set has a class reference and those below it, at a log
abbrev pub AreBelow : Log → ClassRef → BelowView → Type 0
AreBelow h class b = (c : ClassRef) → covers b c ≡ is_member class (chain_at h c)

-- the contracts' view of the set
abbrev pub below_of : Inside → BelowView
below_of b = record { classes = b.walk; own = b.own; meta = b.meta }
