-- the lookup is on its way up the chain
use Rattle.std.proofs.Common.{◌<◌, length}
use Rattle.msg_names.specs.Number.{selector_number}
use Rattle.msg_tables.specs.Log.{Log}
use Rattle.msg_tables.specs.Stands.{StandsAt}
use Rattle.msg_tables.proofs.ForeseeLemmas.{OnTheWay}
use Rattle.msg_tables.proofs.foresee.found_from.Given as goal

abbrev pub invariant-loop-step : goal.invariant-loop-step
invariant-loop-step l = (l.here.class < length l.tables.supers)
    × ((h : Log) → StandsAt l.tables h → OnTheWay h l.change l.fn.class (selector_number l.sel) (length l.tables.supers) l._step l.here)
