-- Sets of names.
use Rattle.std.specs.Prelude.{◌≤◌, length}
use Rattle.msg_form.specs.declared.name_set.TheConstants.{MAX_NUMBERED}
use Rattle.msg_form.specs.declared.name_set.NameSet.TheInside.{Inside}

-- numbers of 32 bits are enough
pub record HasRoom (s : Inside) : Type 0 where
  pub few : length s.names.keys ≤ MAX_NUMBERED
