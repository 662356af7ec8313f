-- What there is, in numbers.
use Rattle.std.specs.Prelude.{ℕ, List, reverse}
use Rattle.msg_names.specs.declared.value.ClassRef.{ClassRef}
use Rattle.msg_tables.specs.Contents.{methods_of}
use Rattle.msg_tables.specs.History.{History, log}
use Rattle.msg_runtime.specs.Contents.{AreShown}
use Rattle.msg_host.specs.Asking.{pairs_of}
use Rattle.msg_host.specs.declared.changing.MethodRow.{MethodRow}

-- the methods that a class reference has itself were shown, in the order in which they win: the
-- newest first
abbrev pub ShowsMethods : History → ClassRef → List MethodRow → List MethodRow → ℕ → Type 0
ShowsMethods h c old new count = AreShown (reverse (methods_of (log h) c)) (pairs_of old) (pairs_of new) count
